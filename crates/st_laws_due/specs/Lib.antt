pub mod IdleTicks
pub mod DueServers
