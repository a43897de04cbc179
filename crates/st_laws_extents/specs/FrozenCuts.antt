pub mod FrozenFiles
