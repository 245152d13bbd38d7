-- The laws of whole numbers that every proof above cites.
-- integers: as omega reads them, their quotients, bounds on them, sums
pub mod Equality
pub mod Signed
pub mod Division
pub mod Quotients
pub mod Interval
pub mod Sums
-- interpolation
pub mod Shares
-- tests and searches
pub mod Searches
-- little-endian numbers
pub mod LittleEndian
-- lists one after the other
pub mod Appended
-- lists by index, and arrays
pub mod Indices
pub mod Failures
pub mod Filled
