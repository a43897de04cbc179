pub mod Caches
pub mod KeyedPages
pub mod DirtyPlaces
pub mod LentPages
