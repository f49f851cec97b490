-- The laws of the profile's definitions, for its proofs and for its callers.
pub mod Limits
pub mod Bitmap
pub mod FirstRow
