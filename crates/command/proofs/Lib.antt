-- The laws of `command`.
pub mod Recording
pub mod Giving
pub mod Coursing
pub mod Reasons
