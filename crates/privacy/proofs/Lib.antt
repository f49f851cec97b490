-- The laws of the commands of privacy.
pub mod Identity
pub mod Picking
