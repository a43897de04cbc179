pub mod Page
pub mod Content
pub mod Config
pub mod Mode
pub mod Nodes
