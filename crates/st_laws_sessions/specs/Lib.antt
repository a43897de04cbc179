pub mod TakenOnce
