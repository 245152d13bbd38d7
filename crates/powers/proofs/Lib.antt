-- The rule of the table.
pub mod Table
