-- What the program writes on standard error.
pub mod Lines
