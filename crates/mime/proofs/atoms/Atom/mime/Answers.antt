-- Each constant is kept with these positions.
use Rattle.mime.proofs.ValueLemmas.Reading.{kept_atom}
use Rattle.mime.proofs.atoms.Atom.mime.Goals as goal

pub fixed-requires-clause-kept : goal.fixed-requires-clause-kept
fixed-requires-clause-kept c = rw (c.constant.ensures.text, c.constant.ensures.positions) (kept_atom c.args.self)
