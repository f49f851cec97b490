-- The definitions of the profile and its rows.
pub mod Profile
