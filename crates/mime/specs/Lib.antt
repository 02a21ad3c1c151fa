-- the trusted files, in reading order
pub mod Bytes
pub mod Grammar
pub mod Values
pub mod Comparison
pub mod Difference
pub mod Faults
pub mod Printed
pub mod Names
pub mod Atoms
pub mod Items
pub mod Laws
pub mod HeaderLaws
pub mod Cut
pub mod Runs
pub mod CutLaws
pub mod HashLaws
-- private
pub mod Inner
