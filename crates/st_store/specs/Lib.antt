pub mod Store
pub mod Plans
pub mod InMemory
pub mod Invariants
pub mod Laws
