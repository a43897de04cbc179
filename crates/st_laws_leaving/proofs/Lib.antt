pub mod ServedClients
mod QuietClients
mod BegunSessions
mod Going
pub mod ClientSteps
pub mod Posts
pub mod Betweens
pub mod TakesStanding
pub mod ServesStanding
pub mod BeginsStanding
pub mod Standing
pub mod StandingRuns
mod Along
mod TakesGone
mod Asked
mod Leavers
mod LeaverRuns
mod Greeted
pub mod Homes
mod GreetsBack
mod WhoLeft
