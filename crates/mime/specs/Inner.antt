-- The private files, which only the code and its proofs use. A public contract uses one of their names, `HashInput.media_input`:
-- which bytes a hasher is fed isn't promised, only the laws of the hash are. Code that makes a `KnownText` proves `Known.IsKnown` of it.
pub mod ByteClasses
pub mod Remaining
pub mod Quoted
pub mod KnownStops
pub mod Scanning
pub mod Pairs
pub mod KeptText
pub mod ComparedText
pub mod OrderLaws
pub mod HashInput
pub mod KeptPlaces
pub mod Known
pub mod KeptBytes
pub mod BetweenCalls
