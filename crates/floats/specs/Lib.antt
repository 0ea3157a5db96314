pub mod Grid
pub mod Pattern
pub mod Recorder
pub mod Bytes
