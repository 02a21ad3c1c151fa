-- The constant's text is kept with these positions.
use Rattle.mime.proofs.ValueLemmas.Reading.{kept_atom}
use Rattle.mime.specs.declared.atoms.Atom.TheVariants.{STAR_STAR}
use Rattle.mime.proofs.value.Mime.star.Goals as goal

pub fixed-requires-clause-kept : goal.fixed-requires-clause-kept
fixed-requires-clause-kept c = kept_atom STAR_STAR
