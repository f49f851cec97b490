-- The laws of `receive`.
pub mod Carrying
pub mod Delivering
pub mod Accepting
