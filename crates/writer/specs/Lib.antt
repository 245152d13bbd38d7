-- What the contracts of the writer cite beside the rules.
pub mod Writing
pub mod RoundTrips
