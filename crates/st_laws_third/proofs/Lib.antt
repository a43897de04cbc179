mod FirstServers
mod FirstWorlds
mod FirstRuns
mod FirstSteps
mod FirstHeads
pub mod Pairs
pub mod Chains
pub mod UsedOnce
pub mod Rooms
mod PendingLeaves
mod GivingBack
pub mod Leaving
pub mod Replying
pub mod Receiving
pub mod Finishing
pub mod Passing
pub mod Facts
pub mod Folds
mod Rules
pub mod Stepping
pub mod Living
pub mod ExpiredClients
pub mod EventWalk
pub mod Moves
pub mod Told
pub mod Sound
mod HardEntries
pub mod AllNumbered
pub mod AllClients
mod Welcomes
mod Demands
pub mod DemandRuns
pub mod ServerWords
mod ClientWords
pub mod Mail
pub mod DemandsSeen
pub mod ShortRuns
pub mod FewLocks
pub mod FewPages
pub mod FewRows
mod Expiry
