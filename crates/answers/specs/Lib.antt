-- The definitions of a command's answer.
pub mod Answers
