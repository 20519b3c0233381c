pub mod BytePlaces
pub mod Counts
pub mod Elements
pub mod Loops
pub mod Places
pub mod Tidying
