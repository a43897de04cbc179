pub mod Granted
