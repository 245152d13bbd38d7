-- The numbers of the causes, and a refusal's line.
pub mod Causes
pub mod RefusedLine
