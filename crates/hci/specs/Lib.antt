-- The definitions of HCI packets, from the Bluetooth Core Specification 5.4 ("Core"), Vol 4 Part E.
pub mod Packet
pub mod Write
pub mod Read
pub mod Bits
pub mod Opcode
