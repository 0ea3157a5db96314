pub mod Lettered
pub mod Rows
pub mod Widths
mod Example
pub mod One
