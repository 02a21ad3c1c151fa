-- A search for a capital passes only bytes in lowercase.
use Rattle.std.proofs.Common.{◌≡◌, subst, sym, take}
use Rattle.mime.specs.Values.{lowered}
use Rattle.mime.proofs.StopsLemmas.{no_capital_before}
use Rattle.mime.proofs.value.kept.first_capital.Goals as goal

pub returns : goal.returns
returns c =
    let bytes = c.args.bytes.now in
    subst (λ n. lowered (take n bytes) ≡ take n bytes) (sym c.first_stop.ensures.end) (no_capital_before bytes)
