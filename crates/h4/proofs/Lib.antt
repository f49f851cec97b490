-- The laws of the H4 transport.
pub mod Reading
pub mod Splitting
pub mod Losing
pub mod Framing
pub mod Handing
pub mod Pieces
pub mod Feeding
pub mod Host
pub mod Examples
