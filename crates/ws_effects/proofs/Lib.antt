pub mod ByteAuto
pub mod ByteDid
pub mod Tees
