pub mod ServerRequests
pub mod OutstandingRequest
