-- Lemmas on the cut of a list.
pub mod Cuts
pub mod Containment
pub mod Pieces
