-- The scanner's verdict says how a text begins.
use Rattle.std.proofs.Common.{◌∙◌, ◌-◌, ◌≤◌, ℕ, None, Some, length, take, ap, sym, subst, arith, refl}
use Rattle.std.proofs.{lemmas.Bool.cond-false, lemmas.Option.slice_get_within}
use Rattle.mime.specs.{Inner.Remaining.Remaining, Inner.Scanning.GivesFirst, Inner.Scanning.StopsAt}
use Rattle.mime.proofs.ScanLemmas.Lists.{none_walked}
use Rattle.mime.proofs.ScanLemmas.Verdicts.{scans_at}
use Rattle.mime.proofs.CutLemmas.Pieces.{judged-from_scan, stopped-boundary, passes-whole, passes-unfinished, passes-stopped}
use Rattle.mime.proofs.iter.read_piece.Goals.{Start, Joined-verdict, in-Stopped, in-Followed}
use Rattle.mime.proofs.iter.read_piece.Goals as goal

-- the reader before the text's first byte
abbrev start : Start → Remaining
start c = record { left = c.args.text.now; count = c.args.reader.now.count - 1 }

-- The reader gives the text's first byte.
first_given : (c : Start) → GivesFirst (start c) c.args.reader.now (Some c.args.first)
first_given c = (record { bytes = c.requires.first; counted = omega (arith, c.requires.begun) }, tt)

pub returns-then-not-is_token-clause-reads : goal.returns-then-not-is_token-clause-reads
returns-then-not-is_token-clause-reads c =
    let here = (goal.at.returns-then-not-is_token-clause-reads c).Start in
    let next = c.end_of_first.ensures in
    let scans = scans_at None (none_walked (first_given here))
    (cond-false _ _ _ (sym c.is_token.ensures ∙ c.if-not-is_token.true)) refl in
    let judged = judged-from_scan _ _ _ _ _ _ scans refl refl c.count.ensures.count in
    rw (c.none.ensures.positions, c.none.ensures.steps) (passes-stopped _ _ _ _ 0 _ _ _ judged (omega (arith, c.count.ensures.count))
    c.none.ensures.piece c.range_from.ensures.value next.bound next.boundary next.nearest)

pub returns-in-Accepted-clause-reads : goal.returns-in-Accepted-clause-reads
returns-in-Accepted-clause-reads c =
    let here = (goal.at.returns-in-Accepted-clause-reads c).Start in
    rw (c.nothing_of.ensures) (passes-whole _ _ _
    (judged-from_scan _ _ _ _ _ _ (c.in-Accepted.ensures (start here) (first_given here)) refl refl c.count-steps.ensures.count))

pub returns-in-Unfinished-clause-reads : goal.returns-in-Unfinished-clause-reads
returns-in-Unfinished-clause-reads c =
    let here = (goal.at.returns-in-Unfinished-clause-reads c).Start in
    rw (
      c.none-in-Unfinished.ensures.piece,
      c.none-in-Unfinished.ensures.positions,
      c.none-in-Unfinished.ensures.left,
      c.none-in-Unfinished.ensures.steps,
    )
    (passes-unfinished _ _ _
    (judged-from_scan _ _ _ _ _ _ (c.in-Unfinished.ensures (start here) (first_given here)) refl refl c.count-steps.ensures.count))

pub returns-in-Accepted-clause-counted : goal.returns-in-Accepted-clause-counted
returns-in-Accepted-clause-counted c =
    let here = (goal.at.returns-in-Accepted-clause-counted c).Start in
    omega (arith, (c.in-Accepted.ensures (start here) (first_given here)).counted, c.count-steps.ensures.count)

pub returns-in-Unfinished-clause-counted : goal.returns-in-Unfinished-clause-counted
returns-in-Unfinished-clause-counted c =
    let here = (goal.at.returns-in-Unfinished-clause-counted c).Start in
    omega (
      arith,
      (c.in-Unfinished.ensures (start here) (first_given here)).counted,
      c.count-steps.ensures.count,
      c.none-in-Unfinished.ensures.steps,
    )

-- The scanner stopped at this position.
stopped : (c : Joined-verdict) → (b : ℕ) × (c.args.reader.now.count - 1 ≤ c.scan_after-verdict.new.reader.count)
    × StopsAt c.args.text.now (c.scan_after-verdict.new.reader.count - (c.args.reader.now.count - 1)) b c.match-verdict.positions
stopped c =
    let before : Remaining = record { left = c.args.text.now; count = c.args.reader.now.count - 1 } in
    let given : GivesFirst before c.args.reader.now (Some c.args.first) =
    (record { bytes = c.requires.first; counted = omega (arith, c.requires.begun) }, tt) in
    let stops = StopsAt c.args.text.now (c.scan_after-verdict.new.reader.count - (c.args.reader.now.count - 1)) in
    elim c.match-verdict.branch [
      | in-Stopped w ↦
          let scans = w.in-Stopped.ensures before given in
          (_, scans.counted, subst (stops _) (sym w.positions-is) scans.judged)
      | in-Followed w ↦
          let scans = w.in-Followed.ensures before given in
          (_, scans.counted, subst (stops _) (sym w.positions-is) scans.judged)
    ]

pub position-end-requires-clause-given : goal.position-end-requires-clause-given
position-end-requires-clause-given c =
    let stops = stopped (goal.at.position-end-requires-clause-given c).Joined-verdict in
    omega (arith, stops.2.0, c.count-from.ensures.count)

pub position-end-requires-clause-fits : goal.position-end-requires-clause-fits
position-end-requires-clause-fits c =
    let stops = stopped (goal.at.position-end-requires-clause-fits c).Joined-verdict in
    omega (
      arith,
      slice_get_within c.args.text.now _ _ stops.2.1.there,
      stops.1,
      ap length c.requires.first,
      c.count-from.ensures.fits,
      c.count-from.ensures.count,
    )

pub range-requires-clause-end_boundary : goal.range-requires-clause-end_boundary
range-requires-clause-end_boundary c =
    let stops = stopped (goal.at.range-requires-clause-end_boundary c).Joined-verdict in
    (stopped-boundary _ _ _ _ _ c.utf8.text stops.2 (omega (arith, c.position-end.ensures, c.count-from.ensures.count))).0

pub returns-clause-reads : goal.returns-clause-reads
returns-clause-reads c =
    let stops = stopped (goal.at.returns-clause-reads c).Joined-verdict in
    let next = c.ceil_char_boundary.ensures in
    let count = c.count-steps.ensures.count in
    passes-stopped _ _ _ _ _ _ _ _
    (subst (λ n. StopsAt c.args.text.now (n - (c.args.reader.now.count - 1)) stops.0 c.match-verdict.positions) (sym count) stops.2)
    (omega (arith, c.position-end.ensures, c.count-from.ensures.count, count))
    (c.range.ensures.value ∙ ap (λ n. take n c.args.text.now) (omega arith)) c.range_from-2.ensures.value next.bound
    next.boundary next.nearest

pub returns-clause-counted : goal.returns-clause-counted
returns-clause-counted c =
    let stops = stopped (goal.at.returns-clause-counted c).Joined-verdict in
    omega (arith, stops.1, c.count-steps.ensures.count)
