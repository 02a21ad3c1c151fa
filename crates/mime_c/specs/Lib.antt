pub mod Strings
pub mod Answers
pub mod HeaderAnswers
pub mod ParameterAnswers
pub mod Laws
-- private
pub mod Writing
