-- During which moments a tick does something at a client.
pub mod Spans
pub mod ClientDue
