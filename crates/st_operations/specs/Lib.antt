pub mod PendingOperations
pub mod AwaitedGrants
