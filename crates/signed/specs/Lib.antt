-- The definitions that contracts about signed numbers cite.
pub mod Signed
