pub mod pipes
pub mod locks
