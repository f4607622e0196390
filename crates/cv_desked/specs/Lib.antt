-- What callers hold.
pub mod Owed
