-- The laws that the functions' proofs cite, and what is shown of the definitions.
pub mod Four
pub mod SboxTable
pub mod Inverse
pub mod Rcon
pub mod Keys
pub mod Vector
