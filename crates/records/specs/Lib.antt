-- Bench lines: what a line says, and what is printed for it.
pub mod Lines
pub mod Reading
pub mod Text
pub mod Bench
