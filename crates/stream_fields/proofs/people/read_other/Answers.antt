use Rattle.std.proofs.Common.{subst, sym}
use Rattle.plain_model.specs.declared.person.Person.{Person}
use Rattle.plain_model.specs.Paths.{Bytes}
use Rattle.stream_fields.specs.Spellings.{Spells}
use Rattle.stream_fields.proofs.SpelledFronts.{spells_front}
use Rattle.stream_fields.proofs.people.read_other.Goals as goal

pub keep_spelled-requires : goal.keep_spelled-requires
keep_spelled-requires c =
    let front = c.before_tail-front.result.now in
    let name = c.in-Some.name.now in
    let email = c.in-Some.email.now in
    subst (λ (p : Person). Spells front p) (sym c.in_ok-person.ensures)
    (subst (λ (f : Bytes). Spells f (record { name = name; email = email })) (sym c.before_tail-front.ensures)
    (spells_front c.args.text.now name email c.in-Some.tail.now c.in-Some-moment_after.when (sym c.in-Some.ensures) (sym c.in-Some-moment_after.ensures)))
