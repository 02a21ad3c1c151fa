-- the words of the recipes' clauses
pub mod Disposition
pub mod Multipart
