pub mod Formula
pub mod Promises
