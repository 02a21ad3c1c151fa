-- the trusted file
pub mod IgnoringCase
-- private
pub mod Classes
pub mod Quoted
pub mod Differences
pub mod Rests
