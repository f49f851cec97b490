-- Root of the definitions of `link`.
pub mod Link
