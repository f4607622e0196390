-- Well-known text: its tokens, its grammar, the machine that reads it, and where it is refused.
pub mod Kind
pub mod Grammar
pub mod Pieces
pub mod Reader
pub mod Stack
pub mod Text
pub mod Refusals
pub mod Leftmost
pub mod Short
