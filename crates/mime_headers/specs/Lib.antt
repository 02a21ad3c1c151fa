-- the trusted files
pub mod Line
pub mod Start
pub mod Field
pub mod Head
pub mod Shown
pub mod Report
pub mod Program
-- private
pub mod Inner
