-- the trusted files
pub mod Report
pub mod Program
-- private
pub mod Inner
