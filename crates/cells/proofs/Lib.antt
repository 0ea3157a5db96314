pub mod Decimal
mod Powers
pub mod Stores
mod Right
pub mod Ends
pub mod Widths
pub mod Values
pub mod Cases
pub mod Shows
mod Rows
pub mod One
