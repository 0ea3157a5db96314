pub mod Widths
pub mod Answers
pub mod Walk
pub mod Kth
mod Example
pub mod One
