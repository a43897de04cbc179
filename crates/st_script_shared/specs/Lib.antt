pub mod SharedScripts
pub mod SharedCalls
