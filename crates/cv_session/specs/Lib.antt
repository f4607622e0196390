-- Sessions, in reading order.
pub mod Responses
pub mod Plays
pub mod Writes
pub mod Follows
pub mod Entered
pub mod Playable
pub mod Laws
pub mod HeldLaws
pub mod Covered
pub mod Seats
pub mod Tasks
pub mod Files
pub mod Outputs
pub mod Reports
pub mod Runs
