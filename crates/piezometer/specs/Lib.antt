-- What the contracts of piezometer cite beside the rules.
pub mod FieldOutput
