pub mod Rise
pub mod Pressure
pub mod Salt
pub mod Error
pub mod Close
pub mod Needle
pub mod Grid
pub mod Promises
