pub mod Views
pub mod Ring
pub mod Sending
pub mod Receiving
pub mod Seats
pub mod Rests
