pub mod Pledges
pub mod Calls
pub mod Real
