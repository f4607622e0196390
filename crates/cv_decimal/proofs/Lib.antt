-- Lemmas on what may still come behind a place, on the value, on the numbers kept, on digits, and on the
-- loop.
pub mod ComingLemmas
pub mod NumberLemmas
pub mod ValueLemmas
pub mod KeptLemmas
pub mod DigitLemmas
pub mod ScanLemmas
pub mod WrittenLemmas
