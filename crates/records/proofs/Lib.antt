-- The laws of reading and printing bench lines.
pub mod Fields
pub mod Numbers
pub mod Hex
pub mod Printing
pub mod Benching
pub mod Making
pub mod Running
