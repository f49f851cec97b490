-- The definitions of the filter lists, and the numbers by which the code tells their entries apart.
pub mod Filters
pub mod Keys
