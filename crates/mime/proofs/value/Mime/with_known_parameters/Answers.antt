-- The parts of the essence are those of this one, and the text is kept as it is.
use Rattle.std.proofs.Common.{◌≡◌, ◌≢◌, refl, ℕ, List, length, string_bytes}
use Rattle.mime.specs.Values.{MediaType, Reads}
use Rattle.mime.specs.Inner.ComparedText.{positions_before_list}
use Rattle.mime.specs.Inner.KeptText.{IsKept}
use Rattle.mime.specs.declared.scan.Positions.{Positions}
use Rattle.mime.proofs.{ValueLemmas.KeptText.reads-from_kept, ValueLemmas.Places.read-kept}
use Rattle.mime.proofs.value.Mime.with_known_parameters.Goals as goal

-- What is said of the positions before a list is said of the value that the text has.
kept_with : (text kept_bytes : List ℕ) (count : ℕ) (before : Positions) (media : MediaType) → Reads text media → media.kept ≡ text
    → count ≢ 0 → length media.pairs ≡ count → before ≡ positions_before_list media → kept_bytes ≡ text
    → IsKept kept_bytes (record before { pair_count = count })
kept_with text kept_bytes count before media reads kept some counted is same =
    rw (is, same, ← counted) (read-kept text media reads kept (rw counted some))

pub of_kept-requires : goal.of_kept-requires
of_kept-requires c =
    let known = c.requires.known in
    kept_with (string_bytes c.args.text) _ _ _ (record c.args.self.now.media { pairs = known.pairs; kept = string_bytes c.args.text })
    known.reads refl
    known.some known.counted c.before_list.ensures c.in_ok-of.ensures.text

pub returns-clause-read : goal.returns-clause-read
returns-clause-read c =
    let known = c.requires.known in
    let kept = kept_with (string_bytes c.args.text) (string_bytes c.args.text) _ _
    (record c.args.self.now.media { pairs = known.pairs; kept = string_bytes c.args.text })
    known.reads refl known.some known.counted c.before_list.ensures refl in
    rw (c.of_kept.ensures.media, c.in_ok-of.ensures.text) (reads-from_kept _ _ kept)
