pub mod GeneratedText
pub mod Law
