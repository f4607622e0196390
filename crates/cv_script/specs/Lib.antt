-- Scripts, in reading order.
pub mod Answers
pub mod Spelling
pub mod Words
pub mod Kinds
pub mod Styles
pub mod Table
pub mod Scripts
