pub mod Ends
pub mod Marked
pub mod Posts
pub mod Later
