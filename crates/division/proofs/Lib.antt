-- What the proofs of the job's flows cite.
pub mod FlowLaws
