pub mod EntryGrants
