-- The definitions of queueing and taking packets.
pub mod Transmit
pub mod Steps
