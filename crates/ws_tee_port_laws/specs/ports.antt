pub mod Posts
pub mod WritableEnds
pub mod Sending
pub mod Parted
pub mod Ended
