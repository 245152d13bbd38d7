-- What the proofs of the faces cite.
pub mod FacesAt
