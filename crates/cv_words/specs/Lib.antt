-- Which words may name a file, and what `clap` found under a name.
pub mod Plain
pub mod Found
