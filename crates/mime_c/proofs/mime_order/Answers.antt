-- Each answer is what it says.
use Rattle.std.proofs.Common.{◌≡◌, ◌≢◌, ◌∙◌, ◌++◌, ℕ, List, [], length, drop, sym, ap, subst, arith, IsOk}
use Rattle.std.specs.Vec.{vec_items}
use Rattle.std.proofs.{lemmas.Bool.Decides.nat_tests, lemmas.Bool.true≢false, lemmas.List.length-map, lemmas.List.nil_from_length}
use Rattle.mime.specs.Values.{OwnedMedia}
use Rattle.mime_http.specs.{HttpList.Header, HttpList.IsHeader}
use Rattle.mime_http.proofs.HandedOut.{one_header}
use Rattle.mime_c.specs.Strings.{overwritten}
use Rattle.mime_c.specs.Answers.{has_room, has_no_room, succeeds}
use Rattle.mime_c.specs.HeaderAnswers.{HaveNoEntry, offers_have_no_memory, OrderIs, order_is, none_is_ordered}
use Rattle.mime_c.proofs.HeaderOutcome.{of_good, of_stopped}
use Rattle.mime_c.proofs.mime_order.Goals as goal

-- A header without an entry has no range.
no_offer : {lines : List (List ℕ)} {header : Header} → IsHeader lines header → HaveNoEntry lines → header.ranges ≡ []
no_offer {lines} {header} is none = ap (λ (h : Header). h.ranges) (one_header lines header _ is none)

pub returns-in-Err : goal.returns-in-Err
returns-in-Err c = of_stopped c.in-Err.ensures.stopped

pub returns-in_default : goal.returns-in_default
returns-in_default c =
    offers_have_no_memory (λ none.
    let read = c.in-Ok.ensures.read in
    let empty = c.ranges-2.ensures ∙ read.6 ∙ no_offer read.3 none.0 in
    let offers = nil_from_length c.ranges-2.result.now
    (sym (length-map c.ranges-2.result.now (λ (range : OwnedMedia). range.media)) ∙ ap length empty) in
    true≢false (sym (subst IsOk c.in_default.is (c.order.ensures.none offers))))

pub returns-then-is_empty : goal.returns-then-is_empty
returns-then-is_empty c =
    let empty : vec_items c.in-Ok-order.positions ≡ [] = nil_from_length _ (grind (arith, nat_tests, c.if-is_empty.ensures)) in
    of_good c.in-Ok.ensures.read c.ranges-2.ensures
    (none_is_ordered (rw empty at c.in-Ok-order.ensures.order))

pub returns-then-len-order : goal.returns-then-len-order
returns-then-len-order c =
    let order = vec_items c.in-Ok-order.positions in
    let some : order ≢ [] = λ empty. absurd (grind (arith, nat_tests, ap length empty, c.if-is_empty.ensures)) in
    of_good c.in-Ok.ensures.read c.ranges-2.ensures
    (order_is order _ _ c.in-Ok-order.ensures.order some (has_no_room (omega (arith, c.if-len-order.true, c.len.ensures))))

pub returns : goal.returns
returns c =
    let order = vec_items c.in-Ok-order.positions in
    let some : order ≢ [] = λ empty. absurd (grind (arith, nat_tests, ap length empty, c.if-is_empty.ensures)) in
    let IsHeld = OrderIs c.args.is_there c.args.accept.now c.args.offers.now c.args.order.now 0 in
    let length_is : c.len-3.result ≡ length order =
    omega (arith, c.len-3.ensures, c.deref.ensures.len, ap length c.deref.ensures.value) in
    let answer : IsHeld (overwritten order c.args.order.now, length order) =
    of_good c.in-Ok.ensures.read c.ranges-2.ensures
    (order_is order _ _ c.in-Ok-order.ensures.order some (has_room _ _ (omega (arith, c.if-len-order.false, c.len.ensures)) succeeds)) in
    let places : overwritten order c.args.order.now ≡ c.copy_from_slice.new.self ++ drop c.len-2.result c.args.order.now =
    cc (c.copy_from_slice.ensures.after, c.deref.ensures.value, c.len-2.ensures) in
    subst (λ count. IsHeld (c.copy_from_slice.new.self ++ drop c.len-2.result c.args.order.now, count)) (sym length_is)
    (subst (λ new. IsHeld (new, length order)) places answer)
