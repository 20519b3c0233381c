pub mod Asks
pub mod Started
pub mod Covered
pub mod InTurn
pub mod Asking
pub mod Edges
pub mod Messages
pub mod Sends
