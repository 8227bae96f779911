pub mod Standing
pub mod Nodes
pub mod Steps
pub mod Loading
pub mod Summing
pub mod Ranking
pub mod Planting
pub mod Parting
