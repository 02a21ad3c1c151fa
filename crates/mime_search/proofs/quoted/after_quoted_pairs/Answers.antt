-- One quoted pair or three were skipped before a further one, and then the last.
use Rattle.std.proofs.Common.{rules, ◌+◌, ◌≤◌, length, arith}
use Rattle.mime_search.proofs.Quotes.{search_past_pair, search_past_three}
use Rattle.mime_search.proofs.quoted.after_quoted_pairs.Goals as goal

pub loop-last-preserved-then-text-last-eq92-3 : goal.loop-last-preserved-then-text-last-eq92-3
loop-last-preserved-then-text-last-eq92-3 c = search (search_past_three, rules)

pub loop-last-preserved : goal.loop-last-preserved
loop-last-preserved c =
    let text = c.args.text.now in
    let last = c.loop-last.last in
    let before = c.loop-last.invariant in
    let room : last + 8 ≤ length text = omega (arith, c.loop-last-test.true, c.saturating_sub-end.ensures) in
    record {
      least = omega (arith, before.least);
      within = omega (arith, room);
      pair = c.if-text-last-eq92.true;
      left = search_past_pair text last _ before.left (omega (arith, room)) before.pair;
    }
