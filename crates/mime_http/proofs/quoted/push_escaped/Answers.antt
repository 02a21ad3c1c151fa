-- A backslash is added before each byte that needs it, after the run before that byte.
use Rattle.std.proofs.lemmas.Str.{IsCharBoundary-after_ascii, IsCharBoundary-from_drop}
use Rattle.mime_http.proofs.Common.{[], append-nil, ap, arith, backslash_byte, get_or, length, nat_tests, refl, rules, slice_range}
use Rattle.mime_http.proofs.Common.{string_bytes, sym, ◌++◌, ◌+◌, ◌<◌, ◌∷◌, ◌≡◌}
use Rattle.mime_http.proofs.Contents.{run_found, special_written}
use Rattle.mime_http.proofs.ReadAt.{no_part}
use Rattle.mime_http.proofs.quoted.push_escaped.Goals.{then-from-at+in_ok-push_str, else-from-at}
use Rattle.mime_http.proofs.quoted.push_escaped.Goals as goal

pub loop-at-init : goal.loop-at-init
loop-at-init c =
    let value = c.args.value.now in
    let same = c.as_bytes-bytes.ensures.value in
    let at = c.special_from-at in
    let found = rw same at (run_found c.as_bytes-bytes.result.now 0 at.result at.ensures.special) in
    record {
      added = refl;
      run = found.0;
      stop = found.1;
      least = omega arith;
      within = omega (arith, at.ensures.within, ap length same);
      boundary = IsCharBoundary-from_drop value 0 (omega arith) c.utf8.value;
    }

pub loop-at-preserved : goal.loop-at-preserved
loop-at-preserved c =
    let value = c.args.value.now in
    let at = c.loop-at.at in
    let seen = c.loop-at.invariant in
    let same = c.as_bytes-bytes.ensures.value in
    let within : at < length value = omega (arith, c.loop-at-test.true, ap length same) in
    let ascii : get_or value at 0 < 128 = grind (arith, nat_tests, seen.stop within) in
    let run : string_bytes c.if-from-at.text ≡ string_bytes c.loop-at.text ++ slice_range value c.loop-at.from at =
    elim c.if-from-at.branch [
      | then-from-at+in_ok-push_str w ↦ search rules
      | else-from-at w ↦
          let none : c.loop-at.from ≡ at = omega (arith, seen.least, w.if-from-at.false) in
          rw (w.text-is, none, no_part value at) (sym (append-nil _))
    ] in
    let pushed : string_bytes c.push_str-in-loop-at.new.self ≡ string_bytes c.if-from-at.text
    ++ (backslash_byte ∷ get_or value at 0 ∷ []) =
    grind (arith, nat_tests, c.push_str-in-loop-at.ensures, c.in_ok-push_str-2, seen.stop within, same, c.if-bytes-at-eq92) in
    let next = c.special_from-at-in-loop-at in
    let found = rw same at (run_found c.as_bytes-bytes.result.now (at + 1) next.result next.ensures.special) in
    record {
      added = rw (pushed, run) (special_written value _ _ c.loop-at.from at within (seen.stop within) seen.run seen.added);
      run = found.0;
      stop = found.1;
      least = omega (arith, next.ensures.special);
      within = omega (arith, next.ensures.within, ap length same);
      boundary = IsCharBoundary-after_ascii value at c.utf8.value within ascii;
    }
