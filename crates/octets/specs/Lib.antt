-- The definitions that contracts about buffers of octets cite.
pub mod Octets
