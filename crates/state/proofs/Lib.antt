-- The laws of the controller's state.
pub mod Remembering
pub mod Holding
pub mod Keeping
pub mod Fresh
