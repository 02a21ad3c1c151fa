-- bytes, the grammar, and lowercase
pub mod BytesLemmas
pub mod GrammarLemmas
pub mod LowercaseLemmas
pub mod WriteLemmas
-- the sources
pub mod ScanLemmas
pub mod StopsLemmas
pub mod ValueLemmas
pub mod CompareLemmas
-- the cut, and runs of the iterator
pub mod CutLemmas
pub mod IterLemmas
-- laws on which no code rests
pub mod LawLemmas
-- for crates over this one
pub mod HandedOut
