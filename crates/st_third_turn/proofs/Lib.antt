pub mod Shown
mod Found
mod Hello
mod Owed
