-- What the law of `st_server_states` cites.
pub mod States
