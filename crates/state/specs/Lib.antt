-- The definitions of the controller's state.
pub mod State
pub mod Holding
