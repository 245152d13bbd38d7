-- What is proved of a steady layer: its flows, and their least and greatest.
pub mod ByExtremes
pub mod FlowsOver
pub mod Flowing
