-- What the contracts of the fifth program cite beside the rules.
pub mod DivisionOutput
