-- The bench profile of document 01.
pub mod Bench
