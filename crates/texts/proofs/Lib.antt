pub mod Row
pub mod Widths
pub mod One
