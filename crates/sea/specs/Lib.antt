pub mod Table
pub mod Recipe
pub mod Water
pub mod Sizes
