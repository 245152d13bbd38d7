-- What the contracts of the working cite beside the rules.
pub mod Segments
pub mod Working
pub mod FacesIn
