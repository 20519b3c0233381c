mod Examples
pub mod Alone
pub mod AtEnd
pub mod AtOnce
pub mod Causes
pub mod Finish
pub mod Flow
pub mod Naming
pub mod Sound
pub mod Unprevented
