-- What the mask shows is skipped: the bytes up to the first stop, which is given, or all that are known, and those found after them.
use Rattle.std.proofs.Common.{◌+◌, ◌/◌, ◌^◌, not, get_or, Some, subst, arith, rules}
use lib.Count.{count_trailing_zeros}
use Rattle.mime_search.specs.{Classes.is_stop, declared.class.TheConstants.TOKEN_STOPS}
use Rattle.mime.specs.{Inner.Scanning.Passing, Inner.Scanning.Reaches, Inner.Remaining.reader_at}
use Rattle.mime.proofs.StopsLemmas.{are_token_bytes}
use Rattle.mime.proofs.ScanLemmas.Passing.{passing_skip, reaches_then, reaches_next, gives_at, reaches_wider}
use Rattle.mime_search.proofs.Masks.{known-none, known-few, known-some}
use Rattle.mime.proofs.scan.reader.ByteReader.known_stop.Goals as goal

pub bounds-self-inside-stop : goal.bounds-self-inside-stop
bounds-self-inside-stop c = search (known-few, rules)

pub invariant_of-self-2 : goal.invariant_of-self-2
invariant_of-self-2 c = search (known-few, rules)

pub returns : goal.returns
returns c =
    let inside = c.self.inside in
    let keeps = c.self.invariant in
    let text = inside.text.now in
    let stop = inside.at + count_trailing_zeros 64 (inside.stops / 2 ^ inside.at) in
    let near = known-few (is_stop TOKEN_STOPS) _ _ _ _ keeps.mask keeps.there keeps.few c.if-self.false c.if-stops-eq0.false in
    let first = known-some (is_stop TOKEN_STOPS) text _ _ _ keeps.mask keeps.there keeps.few c.if-self.false c.if-stops-eq0.false in
    reaches_wider are_token_bytes (subst
    (λ old. Reaches (λ b. not (is_stop TOKEN_STOPS b)) old (reader_at text (stop + 1) inside.before) (Some (get_or text stop 0)))
    c.self.view_is
    (reaches_next (passing_skip _ text inside.at stop inside.before (omega (arith, near, keeps.there)) (omega arith) (omega (arith, first)))
    (gives_at text stop inside.before (omega (arith, near, keeps.there)))))

pub returns-then-stops-eq0 : goal.returns-then-stops-eq0
returns-then-stops-eq0 c =
    let inside = c.self.inside in
    let keeps = c.self.invariant in
    let text = inside.text.now in
    let all = known-none (is_stop TOKEN_STOPS) text _ _ _ keeps.mask keeps.there keeps.few c.if-self.false c.if-stops-eq0.true in
    reaches_wider are_token_bytes (reaches_then
    (subst (λ old. Passing (λ b. not (is_stop TOKEN_STOPS b)) old (reader_at text inside.known inside.before)) c.self.view_is
    (passing_skip _ text inside.at inside.known inside.before keeps.within (omega (arith, c.if-self.false)) all))
    c.skip_blocks.ensures)
