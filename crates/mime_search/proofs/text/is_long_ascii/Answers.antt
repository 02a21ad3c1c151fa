-- Both ends are ASCII, and so is what they have together.
use Rattle.std.proofs.Common.{Bool, false, true, ◌-◌, arith, drop, length, subst, sym, take, ◌≡◌}
use Rattle.std.proofs.lemmas.List.{length-take-le, take_rest}
use Rattle.std.specs.{Str.IsAscii, Bool.MatchBool}
use Rattle.mime_search.proofs.Ascii.{ascii_from_ends}
use Rattle.mime_search.proofs.text.is_long_ascii.Goals as goal

pub slice_bounds-is_ascii-end : goal.slice_bounds-is_ascii-end
slice_bounds-is_ascii-end c = sym (length-take-le 64 c.args.bytes.now (omega (arith, c.requires)))

-- What a test says if it holds.
if_true : (test : Bool) (P Q : Type 0) → test ≡ true → MatchBool test P Q → P
if_true true P Q is cases = cases
if_true false P Q is cases = absurd cc

pub returns : goal.returns
returns c = λ is.
    let bytes = c.args.bytes.now in
    let n = length bytes in
    let first : IsAscii (take 64 bytes) = c.if-not-is_ascii.ensures.cases in
    let last : IsAscii (drop (n - 64) bytes) =
    subst IsAscii (take_rest bytes (n - 64)) (if_true _ _ _ is c.is_ascii-3.ensures.cases) in
    ascii_from_ends 64 bytes (omega (arith, c.requires)) (omega (arith, c.if-len.false)) first last
