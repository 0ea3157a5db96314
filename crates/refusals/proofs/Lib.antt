pub mod Handed
pub mod Numbers
pub mod One
