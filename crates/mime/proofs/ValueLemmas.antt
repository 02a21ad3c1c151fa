-- Lemmas for src/value.rt and its modules.
pub mod Utf8
pub mod Pairs
pub mod KnownNames
pub mod ListText
pub mod LoweredTo
pub mod KeptText
pub mod Parts
pub mod Places
pub mod Reading
pub mod Traits
pub mod Hash
pub mod Zeros
