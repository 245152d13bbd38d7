-- Numbers as text.
pub mod Text
