-- What the functions of `command` count on and give.
pub mod Calling
