pub mod Kth
pub mod One
