-- Laws of the flows by index, and of what the machine computes for one.
pub mod FlowsAt
pub mod Machine
