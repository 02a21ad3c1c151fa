-- Lists of lines, as the code reads them one by one.
use Rattle.mime_headers.proofs.Common.{Bool, Finding, List, None, Option, [], ap, append_assoc, arith, drop, false, findings_after}
use Rattle.mime_headers.proofs.Common.{findings_of, if◌then◌else◌, is_none, is_start, length, length-map, map, mark_before}
use Rattle.mime_headers.proofs.Common.{mark_of_fields, needs_sign_after, option_or, own_lines, refl, sym, take}
use Rattle.mime_headers.proofs.Common.{ℕ, ◌++◌, ◌+◌, ◌-◌, ◌<◌, ◌&&◌, ◌==◌, ◌∙◌, ◌∷◌, ◌≡◌}
use Rattle.std.specs.Borrow.{Bor}
use Rattle.std.proofs.Common.{add-one, suc, zero}
use Rattle.std.proofs.lemmas.{Bool.Decides.nat_tests, List.drop-drop, List.drop-map, List.take-map}

-- The first lines are a line and so many of those after it.
pub first_lines : (lines : List (Bor (List ℕ))) (n : ℕ) (line : List ℕ) (more : List (List ℕ)) → map (λ line. line.now) lines ≡ line ∷ more
    → map (λ line. line.now) (take (n + 1) lines) ≡ line ∷ take n more
first_lines lines n line more are =
    sym (take-map (λ (line : Bor (List ℕ)). line.now) (n + 1) lines) ∙ rw (are, add-one n) refl

-- Lines that are passed over give no findings.
passed_lines : (cut : Bool) (n : ℕ) (alone needs_sign : Bool) (lines : List (List ℕ))
    → findings_after cut n alone needs_sign lines ≡ findings_after cut 0 alone needs_sign (drop n lines)
passed_lines cut zero alone needs_sign lines = refl
passed_lines cut (suc n) alone needs_sign [] = refl
passed_lines cut (suc n) alone needs_sign (line ∷ lines) =
    let some : (suc n == 0) ≡ false = grind (arith, nat_tests) in
    let less : suc n - 1 ≡ n = omega arith in
    rw (some, less) (passed_lines cut n alone needs_sign lines)

-- The lines after the first are dropped after it.
drop_after : (n : ℕ) (line : List ℕ) (more : List (List ℕ)) → 0 < n → drop n (line ∷ more) ≡ drop (n - 1) more
drop_after zero line more some = absurd (omega (arith, some))
drop_after (suc n) line more some = let less : suc n - 1 ≡ n = omega arith in rw less refl

-- the mark of the lines from one on that are one head's or block's
abbrev mark_of : Bool → Option (List ℕ) → List (List ℕ) → Option (List ℕ)
mark_of alone start own = option_or start (if alone then mark_of_fields own else None)

-- The findings of the lines from one on, as the code adds them.
pub next_findings : (cut alone needs_sign : Bool) (lines : List (Bor (List ℕ))) (at : ℕ) (line : List ℕ) (more : List (List ℕ))
    (start mark : Option (List ℕ)) (own : List (List ℕ)) (count : ℕ) (ends still later : Bool) (before after all : List Finding)
    → map (λ line. line.now) (drop at lines) ≡ line ∷ more → start ≡ mark_before is_start needs_sign line
    → later ≡ needs_sign_after needs_sign start → own ≡ own_lines later start line more → count ≡ length own
    → mark ≡ mark_of alone start own → ends ≡ (cut && count == length (drop at lines)) → still ≡ (alone && is_none start)
    → after ≡ before ++ findings_of ends mark own
    → before ++ findings_after cut 0 alone needs_sign (map (λ line. line.now) (drop at lines)) ≡ all
    → after ++ findings_after cut 0 still later (map (λ line. line.now) (drop (at + count) lines)) ≡ all
next_findings cut alone needs_sign lines at line more start mark own count ends still later before after all are begins turns owns counts
    marks opens stays adds sum =
    let some : 0 < length (own_lines later start line more) = omega arith in
    let lens : length (drop at lines) ≡ length (line ∷ more) = sym (length-map (drop at lines) (λ line. line.now)) ∙ ap length are in
    let left : map (λ line. line.now) (drop (at + count) lines) ≡ drop (length (own_lines later start line more) - 1) more =
    ap (λ n. map (λ line. line.now) (drop (at + n) lines)) (counts ∙ ap length owns)
    ∙ (ap (map (λ line. line.now)) (sym (drop-drop (length (own_lines later start line more)) at lines))
    ∙ (sym (drop-map (λ (line : Bor (List ℕ)). line.now) (length (own_lines later start line more)) (drop at lines))
    ∙ (ap (drop (length (own_lines later start line more))) are
    ∙ drop_after (length (own_lines later start line more)) line more some))) in
    cc (
      are,
      begins,
      turns,
      owns,
      counts,
      marks,
      opens,
      stays,
      adds,
      sum,
      lens,
      left,
      passed_lines cut (length (own_lines later start line more) - 1) still later more,
      append_assoc before (findings_of ends mark own) (findings_after cut 0 still later (map (λ line. line.now) (drop (at + count) lines))),
    )
