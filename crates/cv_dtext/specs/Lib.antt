-- What a delimited text says: its records, the features and notes that they are, and why it is refused.
pub mod Records
pub mod Cell
pub mod Table
pub mod Refusals
pub mod Gathered
