-- The laws of readings.
pub mod Ranges
pub mod EveryPattern
pub mod Examples
