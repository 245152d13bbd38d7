-- What the contracts of field_data cite beside the rules.
pub mod Words
