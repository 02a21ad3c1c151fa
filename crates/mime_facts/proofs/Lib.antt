-- texts, values and runs for which definitions and laws are true, and others for which they are false
pub mod StandardFacts
pub mod GrammarFacts
pub mod ValueFacts
pub mod ComparisonFacts
pub mod FaultFacts
pub mod CutFacts
pub mod RunFacts
pub mod LawFacts
pub mod HeaderLawFacts
pub mod HashFacts
pub mod HttpFacts
pub mod NegotiationFacts
pub mod RangesFacts
pub mod LacksFacts
