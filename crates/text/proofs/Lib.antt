-- Laws of numbers as text.
pub mod Laws
