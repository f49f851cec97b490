-- What the functions of `receive` count on, and what its inner functions give.
pub mod Receiving
