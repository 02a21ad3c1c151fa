-- The scanner's verdict is what the call answers.
use Rattle.std.proofs.Common.{◌-◌, sym, inl, inr}
use Rattle.mime.specs.Faults.{IsDeadAt}
use Rattle.mime.proofs.ValueLemmas.Reading.{Explains-from_fault, rejected-from_fault}
use Rattle.mime.proofs.GrammarLemmas.Viability.{rejected-at_dead}
use Rattle.mime.proofs.value.Mime.from_str.Goals.{In-Stopped}
use Rattle.mime.proofs.value.Mime.from_str.Goals as goal

pub returns-clause-explained : goal.returns-clause-explained
returns-clause-explained c = c.of_accepted.ensures.explained

pub returns-in-Unfinished-clause-accepted : goal.returns-in-Unfinished-clause-accepted
returns-in-Unfinished-clause-accepted c = λ accepted.
    absurd (rejected-from_fault _ _ (rw c.by_blocks-reader.ensures.left at c.in-Unfinished.ensures.judged.1) accepted)

-- The byte at which the scanner stopped is at fault.
dead_at_stop : (c : In-Stopped) → IsDeadAt c.args.s.now (c.scan.new.reader.count - c.by_blocks-reader.result.count - 1) c.in-Stopped.byte
dead_at_stop c =
    elim c.in-Stopped.is [
      | inl is ↦ (rw (is, c.by_blocks-reader.ensures.left) at c.scan.ensures.judged).1
      | inr (positions, is) ↦ (rw (is, c.by_blocks-reader.ensures.left) at c.scan.ensures.judged).1
    ]

pub returns-in-Stopped-clause-accepted : goal.returns-in-Stopped-clause-accepted
returns-in-Stopped-clause-accepted c = λ accepted.
    absurd (rejected-at_dead _ _ _ (dead_at_stop (goal.at.returns-in-Stopped-clause-accepted c).In-Stopped) accepted)

pub returns-in-Unfinished-clause-explained : goal.returns-in-Unfinished-clause-explained
returns-in-Unfinished-clause-explained c =
    rw c.new.ensures (Explains-from_fault _ _ (rw c.by_blocks-reader.ensures.left at c.in-Unfinished.ensures.judged.1))

pub returns-in-Stopped-clause-explained : goal.returns-in-Stopped-clause-explained
returns-in-Stopped-clause-explained c =
    rw (c.new-in-Stopped.ensures, c.position-pos.ensures, sym c.by_blocks-reader.ensures.count)
    (dead_at_stop (goal.at.returns-in-Stopped-clause-explained c).In-Stopped)

pub returns-clause-read : goal.returns-clause-read
returns-clause-read c = c.of_accepted.ensures.read
