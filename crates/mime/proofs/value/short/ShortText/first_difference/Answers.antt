-- Zeros follow both texts, so if these are the same, all bytes are.
use Rattle.std.proofs.Common.{arith, length, slice_index, ◌≡◌, rules}
use Rattle.mime.specs.contracts.value.short.ShortText.{the_view, the_invariant}
use Rattle.mime.specs.declared.value.short.ShortText.TheInside.{Inside}
use Rattle.mime.proofs.ValueLemmas.Zeros.{zeros-same}
use Rattle.mime.proofs.value.short.ShortText.first_difference.Goals as goal

-- Two texts are the same only if their lengths and all their bytes are.
same_text_bytes : (one other : Inside) → length one.bytes ≡ 40 → length other.bytes ≡ 40 → the_invariant one → the_invariant other
    → the_view one ≡ the_view other → (one.len ≡ other.len) × (one.bytes ≡ other.bytes)
same_text_bytes one other size also first second is =
    zeros-same one.bytes other.bytes one.len other.len 40 (omega (arith, first.0, size)) (omega (arith, second.0, also)) first.2 second.2 is

pub returns-in-Some-clause-none : goal.returns-in-Some-clause-none
returns-in-Some-clause-none c = search (slice_index, same_text_bytes, rules)

pub returns-in-Some-difference_from-clause-none : goal.returns-in-Some-difference_from-clause-none
returns-in-Some-difference_from-clause-none c = search (slice_index, same_text_bytes, rules)

pub returns-in-Some-difference_from-2-clause-none : goal.returns-in-Some-difference_from-2-clause-none
returns-in-Some-difference_from-2-clause-none c = search (slice_index, same_text_bytes, rules)

pub returns-else-self-other-clause-none : goal.returns-else-self-other-clause-none
returns-else-self-other-clause-none c = search (same_text_bytes, rules)
