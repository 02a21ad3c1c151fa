pub mod NoZero
pub mod Room
pub mod Writing
pub mod HeaderRoom
pub mod ParameterRoom
pub mod OneOutcome
pub mod HeaderOutcome
pub mod OrderOutcome
pub mod ValueOutcome
pub mod LawLemmas
mod AnswerFacts
mod HeaderAnswerFacts
mod ParameterFacts
mod OutcomeFacts
