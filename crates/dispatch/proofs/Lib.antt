-- The laws of `dispatch`.
pub mod Choosing
pub mod Halves
pub mod Picking
