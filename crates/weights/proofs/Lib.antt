-- Laws of the weights' loops.
pub mod WeightsAt
