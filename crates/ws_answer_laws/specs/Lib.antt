pub mod ByteReads
pub mod Answering
pub mod LeastReads
