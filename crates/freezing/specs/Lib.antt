pub mod Ice
