pub mod Paying
pub mod Counts
pub mod Begins
pub mod Owed
pub mod Queued
pub mod Orderly
pub mod Settled
pub mod WhileActing
