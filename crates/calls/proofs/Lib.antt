-- The laws of the calls.
pub mod Questions
pub mod Unseen
