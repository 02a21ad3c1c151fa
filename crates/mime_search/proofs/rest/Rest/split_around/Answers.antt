-- An ASCII byte is a character: the text may be cut after it.
use Rattle.std.proofs.Common.{length, ap, arith, subst, inl, inr}
use Rattle.std.proofs.lemmas.Bool.{cases_lt, lt-ltb, le-ltb}
use Rattle.std.proofs.lemmas.Str.{IsCharBoundary-after_ascii, IsCharBoundary-end}
use Rattle.std.specs.Str.{IsUtf8, IsCharBoundary}
use Rattle.mime_search.proofs.rest.Rest.split_around.Goals as goal

pub after-requires : goal.after-requires
after-requires c =
    let text = c.args.self.now in
    let position = c.args.position in
    let size = ap length c.text-text.ensures in
    let utf8 = subst IsUtf8 c.text-text.ensures c.text-text.utf8 in
    elim (cases_lt position (length text)) [
      | inl within ↦
          rw (lt-ltb position (length c.text-text.result.now) (omega (arith, within, size)))
          (IsCharBoundary-after_ascii text position utf8 within (c.requires.ascii within))
      | inr past ↦
          rw (le-ltb position (length c.text-text.result.now) (omega (arith, past, size)))
          (subst (IsCharBoundary text) (omega (arith, past, c.requires.within)) (IsCharBoundary-end text))
    ]
