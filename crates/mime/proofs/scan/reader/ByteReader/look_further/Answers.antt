-- The mask of the known block is that of the window's first block.
use Rattle.std.proofs.Common.{take, sym, ap, ◌∙◌, arith, rules}
use Rattle.std.proofs.lemmas.List.{take-take, length-take-le}
use Rattle.mime_search.specs.{Classes.stops, declared.class.TheConstants.TOKEN_STOPS}
use Rattle.mime_search.proofs.Masks.{mask-lt}
use Rattle.mime.proofs.scan.reader.ByteReader.look_further.Goals as goal

pub stops_in_window-self-inside-requires-clause-first : goal.stops_in_window-self-inside-requires-clause-first
stops_in_window-self-inside-requires-clause-first c =
    let inside = c.self.inside in
    c.self.invariant.mask ∙ ap (λ n. stops TOKEN_STOPS (take n inside.text.now)) c.if-self-eq-BLOCK.true ∙ ap (stops TOKEN_STOPS)
    (sym (take-take 16 c.min.result inside.text.now (omega (arith, c.min.ensures, c.if-self-eq-BLOCK.true, c.if-self.true))))

pub stops_in_window-self-inside-requires-clause-few : goal.stops_in_window-self-inside-requires-clause-few
stops_in_window-self-inside-requires-clause-few c = search (length-take-le, mask-lt, rules)
