pub mod Ints
pub mod Words
pub mod Naturals
mod Offset
pub mod Row
pub mod Interval
pub mod Near
pub mod Roots
pub mod Lines
pub mod Rise
pub mod Cases
pub mod One
pub mod Told
