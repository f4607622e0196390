pub mod Held
pub mod View
pub mod Rule
pub mod Pass
pub mod Plays
pub mod Guard
pub mod Turn
