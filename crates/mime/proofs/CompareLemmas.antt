-- Lemmas for src/compare.rt: a text against a value.
pub mod OtherCase
pub mod Parts
pub mod Essences
pub mod FirstDifference
