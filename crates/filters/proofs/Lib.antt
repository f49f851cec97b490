-- The laws of the filter lists.
pub mod Flat
pub mod Identities
pub mod Kept
pub mod Differing
