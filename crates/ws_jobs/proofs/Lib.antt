pub mod QueueLemmas
pub mod NameLemmas
