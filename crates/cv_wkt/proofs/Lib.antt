-- what may still come behind each state, and that the machine reads just that
pub mod ComingLemmas
-- what a tree adds is its geometry
pub mod ValueLemmas
-- one token: what comes with it, and what comes behind it
pub mod TokenLemmas
-- the machine reads the grammar
pub mod GrammarLemmas
-- a stack in a vector
pub mod StackLemmas
-- steps at some tokens
pub mod StepLemmas
-- the way through the bytes
pub mod ScanLemmas
-- what the tokens tell is what the state is
pub mod ToldLemmas
-- the limits that are told are those that are met
pub mod LimitLemmas
-- where the machine stops
pub mod RefusalLemmas
-- there is one answer, and the machine gives it
pub mod AnswerLemmas
-- short decimals, and the points that they write
pub mod ShortLemmas
pub mod PointLemmas
