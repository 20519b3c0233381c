pub mod Chain
pub mod Laws
pub mod Opening
pub mod Nodes
pub mod Outcomes
pub mod Runs
pub mod Sound
