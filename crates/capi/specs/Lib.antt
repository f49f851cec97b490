-- What the calls for C give, where it is not to the letter what the functions give that they hand on to: an enum is a struct of
-- numbers.
pub mod Packets
pub mod Framing
