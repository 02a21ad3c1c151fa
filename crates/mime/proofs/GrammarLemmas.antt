-- Lemmas on the grammar: syntax trees, the texts that begin them, and what a rejected text lacks.
pub mod Content
pub mod Begun
pub mod Spelling
pub mod Readings
pub mod Viability
pub mod Faults
pub mod Characters
