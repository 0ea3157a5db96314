pub mod Bare
pub mod Told
