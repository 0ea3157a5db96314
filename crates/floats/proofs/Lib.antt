mod Floors
mod Patterns
pub mod Order
pub mod Remarks
pub mod Exact
pub mod Quotient
pub mod One
