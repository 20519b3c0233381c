pub mod Posts
pub mod Telling
pub mod Hosts
pub mod AtEnds
pub mod Tees
pub mod PortShut
pub mod Late
pub mod Ahead
pub mod Sinks
pub mod Sources
pub mod ByteSources
pub mod Pipes
pub mod Unheard
pub mod Moves
pub mod Standing
pub mod SourceTurns
pub mod SinkTurns
pub mod PipeTurns
pub mod TransformTurns
pub mod PortTurns
pub mod Turns
pub mod Outer
pub mod CallEnters
pub mod Calls
pub mod Steps
pub mod Keeps
pub mod Begins
mod Rooms
mod RoomTurns
pub mod HasRoom
pub mod Worked
pub mod Far
pub mod Unused
pub mod Free
pub mod Owners
pub mod OwnLinks
pub mod Entering
pub mod Pipelines
mod WorkedHalves
mod WorkedPorts
