pub mod Sent
pub mod Calls
pub mod Real
