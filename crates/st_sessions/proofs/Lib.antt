mod Once
mod Changes
mod ChangedSessions
mod Seated
