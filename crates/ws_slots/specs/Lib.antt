pub mod Slot
pub mod View
pub mod Words
pub mod Counts
pub mod Settlings
