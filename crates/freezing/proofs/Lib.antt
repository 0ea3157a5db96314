pub mod Sums
pub mod Line
pub mod Falls
pub mod Phases
pub mod Points
pub mod One
