-- The definitions of the links and of what holds them together.
pub mod Links
pub mod Look
pub mod Change
pub mod Fields
pub mod Holding
pub mod Gather
