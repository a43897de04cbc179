pub mod Healthy
