-- Numbers as texts: rounding, the marks of decimals, their grammar and value, and the machine that reads
-- them.
pub mod Rounding
pub mod Mark
pub mod Spellings
pub mod Place
pub mod Reader
