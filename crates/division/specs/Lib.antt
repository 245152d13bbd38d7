-- What the contracts of the job's flows cite beside the rules.
pub mod JobFlows
