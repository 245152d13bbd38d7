-- The laws of an element's pore pressure.
pub mod Heights
