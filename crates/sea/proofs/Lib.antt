pub mod Points
pub mod Sizes
pub mod Grid
pub mod Answers
pub mod One
