pub mod LastRequests
pub mod ServedRequests
