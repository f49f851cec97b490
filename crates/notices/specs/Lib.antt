-- The definitions of the link's notices.
pub mod Notices
pub mod Tells
