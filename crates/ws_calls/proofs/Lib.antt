pub mod Answered
pub mod AtOnce
pub mod Beginning
pub mod Credit
pub mod Made
pub mod Saved
