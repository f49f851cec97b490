-- What an answer holds is short.
pub mod Short
