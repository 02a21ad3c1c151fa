-- Both are read, or the call says why not.
use Rattle.std.proofs.Common.{rules, ap}
use Rattle.std.proofs.lemmas.Bool.{true≢false}
use Rattle.mime_http.specs.HttpList.{Header}
use Rattle.mime_c.specs.HeaderAnswers.{an_offer_is_bad, offers_have_no_memory}
use Rattle.mime_c.proofs.HeaderOutcome.{none_bad}
use Rattle.mime_c.proofs.read_header_and_offers.Goals as goal

pub returns-in_default-clause-stopped : goal.returns-in_default-clause-stopped
returns-in_default-clause-stopped c = search (offers_have_no_memory, true≢false, rules)

pub returns-in-Some-clause-stopped : goal.returns-in-Some-clause-stopped
returns-in-Some-clause-stopped c = an_offer_is_bad c.in-Some.first (rw c.in-Some.is at c.in-Ok.ensures.first)

pub returns-in-Ok-accepted-clause-read : goal.returns-in-Ok-accepted-clause-read
returns-in-Ok-accepted-clause-read c =
    let header = c.in-Ok-accepted.ensures.header in
    let offered = c.in-Ok.ensures.header in (
      header.0,
      offered.0,
      header.1,
      offered.1,
      none_bad _ _ offered.0 c.in-Ok.ensures.first c.in_default-first.not-Some offered.3,
      header.2,
      ap (λ (it : Header). it.ranges) offered.2,
    )

pub returns-in-Err-clause-stopped : goal.returns-in-Err-clause-stopped
returns-in-Err-clause-stopped c = search (offers_have_no_memory, true≢false, rules)
