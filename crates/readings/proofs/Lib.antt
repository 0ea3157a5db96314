pub mod Reasons
pub mod Placing
pub mod Answers
pub mod Entries
pub mod One
pub mod Samples
