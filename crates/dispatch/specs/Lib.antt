-- What the functions of `dispatch` count on.
pub mod Parts
