pub mod AllClients
pub mod Copies
pub mod FrozenLives
pub mod OpenWrites
