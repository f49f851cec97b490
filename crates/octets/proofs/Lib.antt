-- The laws of buffers of octets and of little-endian numbers.
pub mod Copying
pub mod Writing
pub mod Numbers
