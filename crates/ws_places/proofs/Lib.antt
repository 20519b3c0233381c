pub mod HeldLemmas
pub mod KeptLemmas
pub mod OrderLemmas
pub mod SoundLemmas
pub mod ValueLemmas
pub mod ShelfLemmas
