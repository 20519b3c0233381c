pub mod Weights
pub mod InTable
pub mod Readables
pub mod Bytes
pub mod Erring
pub mod Pairs
pub mod Writables
pub mod Pipes
pub mod Transforms
pub mod Tees
pub mod Teed
pub mod Ports
pub mod Rows
pub mod Sends
pub mod Cancels
pub mod Cloned
pub mod Fair
pub mod Portless
pub mod Known
pub mod Halved
pub mod Begins
pub mod Closings
pub mod Asking
pub mod Answers
pub mod Moments
pub mod Opening
pub mod Newly
pub mod Runs
pub mod Among
pub mod Given
pub mod Stored
pub mod Brought
pub mod Failed
pub mod Quiet
pub mod FirstPipe
pub mod Untransformed
mod Worked
mod WorkedThrough
mod WorkedTees
mod WorkedPorts
mod WorkedBytes
