-- A text that differs in the value isn't the value; one that is equal ignoring ASCII case is, where all of it ignores case.
use Rattle.std.proofs.Common.{refl, subst}
use Rattle.mime.specs.Inner.ComparedText.{IsLoneCharset}
use Rattle.mime.proofs.{CompareLemmas.FirstDifference.different_values, CompareLemmas.Parts.text_is-lone_charset}
use Rattle.mime.proofs.compare.eq_other_text.Goals as goal

pub returns-in-Different : goal.returns-in-Different
returns-in-Different c = (
  λ bad. absurd cc,
  λ is. absurd (different_values _ _ _ is.read c.as_str.ensures.reads is.reads (c.in-Different.ensures.different refl) is.same),
)

pub returns-then-is_lone_charset : goal.returns-then-is_lone_charset
returns-then-is_lone_charset c = (
  λ _. text_is-lone_charset _ _ c.args.mime.now.media c.as_str.ensures.reads c.requires (c.in-Equal.ensures.equal refl)
      (subst IsLoneCharset c.pairs.ensures.pairs (c.is_lone_charset.ensures c.if-is_lone_charset.true)),
  λ _. c.if-is_lone_charset.true,
)
