-- The zeros after the first block stay zeros.
use Rattle.std.proofs.Common.{◌≡◌, ◌-◌, ◌+◌, ◌++◌, ap, sym, take, drop, replicate, arith, ◌∙◌}
use Rattle.std.specs.Char.{to_ascii_lowercase}
use Rattle.std.proofs.lemmas.List.{drop-drop, drop-replicate, map-append, take-append-drop}
use Rattle.mime.specs.Values.{lowered}
use Rattle.mime.proofs.ValueLemmas.Zeros.{zeros-lowercase}
use Rattle.mime.proofs.value.short.lowercase_block.Goals as goal

pub returns-then-len-le-BLOCK : goal.returns-then-len-le-BLOCK
returns-then-len-le-BLOCK c =
    let bytes = c.args.block.now in
    let len = c.args.len in
    let sum : len + (16 - len) ≡ 16 = omega (arith, c.if-len-le-BLOCK.true) in
    let rest : drop 16 bytes ≡ replicate (48 - len - (16 - len)) 0
    = ap (λ n. drop n bytes) (sym sum) ∙ sym (drop-drop (16 - len) len bytes) ∙ ap (drop (16 - len)) c.requires
    ∙ drop-replicate (16 - len) (48 - len) 0 in
    ap (λ first. first ++ drop 16 bytes) c.make_ascii_lowercase.ensures.after
    ∙ ap (λ last. lowered (take 16 bytes) ++ last) (rest ∙ sym (zeros-lowercase _) ∙ ap lowered (sym rest))
    ∙ sym (map-append to_ascii_lowercase (take 16 bytes) (drop 16 bytes)) ∙ ap lowered (take-append-drop 16 bytes)
