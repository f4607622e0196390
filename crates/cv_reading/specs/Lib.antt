-- Machines that read tokens, the grammars that they read, and the tokens of a text.
pub mod Space
pub mod Machines
pub mod Readings
pub mod Watches
pub mod Tokens
