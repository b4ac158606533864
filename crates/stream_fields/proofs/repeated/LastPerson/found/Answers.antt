use Rattle.std.proofs.Common.{◌≡◌, Some, subst, sym, ap, ◌∙◌}
use Rattle.std.specs.Prelude.{IfSome, Option}
use Rattle.plain_model.specs.declared.person.Person.{Person}
use Rattle.plain_model.specs.Parts.{person_parts, rest_after}
use Rattle.plain_model.specs.Paths.{Bytes}
use Rattle.field_laws.proofs.Lines.{after_is}
use Rattle.stream_fields.specs.Spellings.{Spells}
use Rattle.stream_fields.proofs.repeated.LastPerson.found.Goals as goal

pub returns : goal.returns
returns c =
    let front : Bytes = c.self.inside.front in
    let text : Bytes = c.args.text.now in
    let tail : Bytes = c.in_ok-tail.tail.now in
    let cut : rest_after front text ≡ Some tail = ap (λ (w : Bytes). rest_after w text) (sym c.as_slice.ensures) ∙ sym c.in_ok-tail.ensures in
    let spelled : Spells front c.in-Some.person = subst (λ (o : Option Person). IfSome o (Spells front)) c.in-Some.is c.self.invariant in
    ap person_parts (after_is front text tail cut) ∙ spelled tail
