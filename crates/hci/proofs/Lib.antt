-- The laws of HCI packets and of their readers and writers.
pub mod Writers
pub mod Pairs
pub mod Readers
pub mod Bit
pub mod ReadBack
pub mod Split
pub mod Examples
