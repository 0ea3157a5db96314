pub mod Arith
pub mod Paper
pub mod Order
pub mod Fraction
pub mod Decimal
