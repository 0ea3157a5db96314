pub mod Boxes
pub mod Slopes
pub mod Course
pub mod Root
pub mod Cell
pub mod Cover
pub mod Shown
