pub mod SafeWords
pub mod BrokenPromises
