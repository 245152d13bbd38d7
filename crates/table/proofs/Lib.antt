-- The laws of the load table by index.
pub mod Laws
