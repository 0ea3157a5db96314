pub mod Laws
pub mod Calls
pub mod Bare
pub mod Eighths
