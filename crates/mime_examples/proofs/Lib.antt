pub mod BodyFacts
pub mod DispositionFacts
pub mod Found
pub mod Places
