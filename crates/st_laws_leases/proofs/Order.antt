pub mod Below
pub mod Changes
pub mod Everywhere
pub mod Grants
pub mod Tops
