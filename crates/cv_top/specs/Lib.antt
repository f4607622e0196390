-- What a command's words ask for, what is given, and what stands at each end.
pub mod Parts
pub mod Words
pub mod Opened
pub mod Sessions
pub mod Outcomes
pub mod Runs
