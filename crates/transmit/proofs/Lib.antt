-- The laws of queueing and taking packets.
pub mod Fitting
pub mod Places
pub mod Parting
pub mod Octets
pub mod Queueing
pub mod Taking
pub mod Packets
