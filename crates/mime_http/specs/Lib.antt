-- the trusted files, in reading order
pub mod HttpMediaType
pub mod Unescaped
pub mod Written
pub mod HttpList
pub mod HttpFaults
pub mod HttpPrinted
pub mod Weight
pub mod Ranges
pub mod Ranking
pub mod Lacks
pub mod Boundary
pub mod HeaderLaws
pub mod ListLaws
pub mod RangesLaws
-- private
pub mod Reader
pub mod LineCut
pub mod Sorted
pub mod Forms
pub mod Digits
