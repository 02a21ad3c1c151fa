-- Lemmas for src/scan.rt.
pub mod Passing
pub mod Pluses
pub mod Verdicts
pub mod Lists
