pub mod Adapters
pub mod Causes
pub mod InMemory
pub mod Prefixes
pub mod Refusals
pub mod Names
pub mod UnixLink
