pub mod Pigeons
pub mod Chains
pub mod Ranks
pub mod Linked
pub mod Walks
pub mod Largest
