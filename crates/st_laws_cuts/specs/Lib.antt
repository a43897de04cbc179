pub mod Owners
pub mod EndedRequests
pub mod Acknowledgements
pub mod ServedRequests
