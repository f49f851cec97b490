-- The laws of `notices`.
pub mod Giving
pub mod Telling
