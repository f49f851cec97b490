-- The laws of `controller`.
pub mod Asking
pub mod Answering
pub mod Finding
pub mod Taken
pub mod Received
