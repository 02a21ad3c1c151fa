-- The parameters that are left decide.
use Rattle.mime_http.proofs.Common.{bytes_eq, has, list_any, unescaped, ◌&&◌, ◌≡◌}
use Rattle.mime_http.proofs.range.has.Given as goal

abbrev pub invariant-loop-own : goal.invariant-loop-own
invariant-loop-own l = list_any (λ item. bytes_eq item.name l.name && bytes_eq (unescaped item.value) (unescaped l.value)) l.own-iterator
    ≡ has l.offer.media (l.name, l.value)
