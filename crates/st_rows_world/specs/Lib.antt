pub mod WorldWords
pub mod CheckWords
pub mod GeneratedWords
