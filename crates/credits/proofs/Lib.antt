-- The proof of the claim about credits.
pub mod Sums
pub mod Handles
pub mod Bounds
pub mod Agrees
pub mod Calls
pub mod Credits
pub mod Example
