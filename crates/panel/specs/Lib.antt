pub mod Panel
pub mod Pairing
pub mod Probes
