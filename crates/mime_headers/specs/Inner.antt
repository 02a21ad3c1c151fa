-- What only contracts of this crate say.
use Rattle.std.specs.Prelude.{ℕ, List, Option, Vec, option_map, map, vec_items}
use Rattle.std.specs.{Borrow.Bor, Global.Global}
use Rattle.mime.specs.{Values.MediaType, declared.value.Mime.Mime}
use Rattle.mime_headers.specs.{Field.Field, Head.Finding, Head.Head, Head.head, Head.stray, Report.Progress}
use Rattle.mime_headers.specs.declared as declared

-- the lines that a vector borrows
abbrev pub lines_now : Vec (Bor (List ℕ)) Global → List (List ℕ)
lines_now lines = map (λ line. line.now) (vec_items lines)

abbrev pub medias : List Mime → List MediaType
medias mimes = map (λ mime. mime.media) mimes

abbrev pub ranges_now : Option (Vec Mime Global) → Option (List MediaType)
ranges_now ranges = option_map (λ ranges. medias (vec_items ranges)) ranges

abbrev pub field_now : declared.field.Field.Field → Field
field_now it = record { name = it.name; value = it.value.now; is_spaced = it.is_spaced }

abbrev pub head_now : declared.head.Head.Head → Head
head_now it = record { kind = it.kind; texts = lines_now it.texts }

abbrev pub finding_now : declared.head.Finding.Finding → Finding
finding_now (declared.head.Finding.Finding.Head it) = head (head_now it)
finding_now (declared.head.Finding.Finding.Stray line) = stray line.now

abbrev pub findings_now : Vec declared.head.Finding.Finding Global → List Finding
findings_now findings = map finding_now (vec_items findings)

-- what a report knows
abbrev pub state_now : declared.report.Report.Report → Progress
state_now it = record {
  text = vec_items it.text;
  are_good = it.are_good;
  choice = it.choice;
  waiting = it.waiting;
  asked = ranges_now it.asked;
  sent = option_map (λ mime. mime.media) it.sent;
}
