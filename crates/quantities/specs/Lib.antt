-- The kinds of quantity of document 01 with their limits, and what tests them.
pub mod Quantities
pub mod Tested
