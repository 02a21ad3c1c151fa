pub mod Ascii
pub mod IgnoringCase
mod Lanes
pub mod Masks
mod Quotes
pub mod Searches
pub mod FirstDifference
pub mod Rests
