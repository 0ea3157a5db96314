pub mod Series
pub mod Terms
pub mod Salt
pub mod Sum
pub mod Answers
pub mod One
pub mod Points
pub mod Samples
