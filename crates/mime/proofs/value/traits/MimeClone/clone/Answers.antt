-- The copy has the bytes of the text, so what is kept is the same.
use Rattle.std.proofs.Common.{rules, ◌≡◌}
use Rattle.mime.specs.Inner.KeptBytes.{bytes_of}
use Rattle.mime.proofs.value.traits.MimeClone.clone.Goals as goal

pub invariant_of-result : goal.invariant_of-result
invariant_of-result c =
    let same : bytes_of c.match-self.text ≡ bytes_of c.self.inside.text = search rules in
    rw same c.self.invariant
