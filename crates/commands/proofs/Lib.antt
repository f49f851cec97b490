-- The laws of what the commands share.
pub mod Followed
pub mod Completing
pub mod Giving
pub mod Reached
pub mod Tables
pub mod Leaving
pub mod TableLeaves
pub mod CommandLeaves
pub mod Marked
