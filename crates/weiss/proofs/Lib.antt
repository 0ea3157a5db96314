pub mod Series
pub mod Mirror
pub mod Log
pub mod Sum
pub mod Promises
pub mod Calls
