pub mod DatingReplies
pub mod Edits
pub mod Law
pub mod Pair
pub mod Paths
pub mod Invariants
pub mod View
