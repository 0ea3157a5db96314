pub mod Weiss
pub mod Carbon
