-- A line that begins with another byte is neither field.
use Rattle.mime_headers.proofs.Common.{None, ap, field_of, option_map, subst, sym, ◌∙◌, ◌≡◌}
use Rattle.mime_headers.specs.Field.{field_named}
use Rattle.mime_headers.specs.Inner.{field_now}
use Rattle.mime_headers.proofs.field.field_of.Goals as goal

pub returns-in_err-name_from : goal.returns-in_err-name_from
returns-in_err-name_from c = ap (option_map field_now) c.from_residual-in_err-name_from.ensures ∙ subst (λ line. None ≡ field_of line)
    (sym c.in_ok-first.ensures.cases.0) (sym (c.in_err-name_from.ensures c.in_ok-first._rest.now))

pub returns : goal.returns
returns c = c.field_named.ensures ∙ subst (λ line. field_named c.in_ok-name_from.field-0 line ≡ field_of line)
    (sym c.in_ok-first.ensures.cases.0) (sym (c.in_ok-name_from.ensures c.in_ok-first._rest.now))
