-- The definitions of the H4 transport.
pub mod Framing
pub mod Stream
