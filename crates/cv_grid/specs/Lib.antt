-- ASCII grids, in reading order: their tokens, the words of a header, where the cells lie, the cells, the
-- grammar, and why a text is refused; then the same answer as a function, and what the code's parts keep.
pub mod Tokens
pub mod Words
pub mod Layouts
pub mod Cells
pub mod Grammar
pub mod Refusals
pub mod Answers
pub mod Ranges
pub mod Scanning
