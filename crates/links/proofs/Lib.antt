-- The laws of the links.
pub mod Counting
pub mod Gather
pub mod Looking
pub mod Changing
pub mod Marking
pub mod Holding
pub mod Handles
pub mod Keeping
