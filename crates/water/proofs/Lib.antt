-- Laws of the new water by index.
pub mod WaterAt
