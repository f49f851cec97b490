-- What the controller's calls give, to be read in this order: packets, the calls with their questions, the contract of a call,
-- and that what it leaves open is never shown.
pub mod Packets
pub mod Calls
pub mod Gives
pub mod Unseen
