-- What was read of a text up to the end of the email is read of each text that begins so.
use Rattle.std.proofs.Common.{◌≡◌, ◌-◌, ◌∷◌, ◌++◌, [], ap, sym, ◌∙◌, append_assoc, arith, length, length-append, take, Some, Ok, None, Option, refl}
use Rattle.std.proofs.Math.Seq.{take-append_seam}
use Rattle.plain_model.specs.declared.person.When.{When}
use Rattle.plain_model.specs.declared.fault.Why.TheVariants.{BadPerson, BadWhen}
use Rattle.plain_model.specs.Fields.{or_defect, person_in, signed}
use Rattle.plain_model.specs.Fields.{◌>>=◌ as ◌then_field◌}
use Rattle.plain_model.specs.Parts.{person_parts, when_after}
use Rattle.plain_model.specs.Paths.{Bytes}
use Rattle.field_laws.proofs.Persons.{person_in_is, person_read}
use Rattle.stream_fields.specs.Spellings.{Spells}

joined : (part email tail : Bytes) → (part ++ 60 ∷ (email ++ 62 ∷ [])) ++ tail ≡ part ++ 60 ∷ (email ++ 62 ∷ tail)
joined part email tail =
    append_assoc part (60 ∷ (email ++ 62 ∷ [])) tail ∙ ap (λ (t : Bytes). part ++ 60 ∷ t) (append_assoc email (62 ∷ []) tail)

abbrev third_of : Bytes → Option (Bytes × Bytes × Bytes) → Bytes
third_of other None = other
third_of other (Some p) = p.2

both_read : (text name email tail : Bytes) (when : When) → person_parts text ≡ Some (name, email, tail) → when_after tail ≡ Some when → person_in text ≡ Ok (signed (name, email, tail) when)
unfolding person_in
both_read text name email tail when parts after =
    ap (λ (o : Option (Bytes × Bytes × Bytes)). or_defect BadPerson o then_field λ p. or_defect BadWhen (when_after p.2) then_field λ w. Ok (signed p w)) parts
    ∙ ap (λ (o : Option When). or_defect BadWhen o then_field λ w. Ok (signed (name, email, tail) w)) after

pub spells_front : (text name email tail : Bytes) (when : When) → person_parts text ≡ Some (name, email, tail) → when_after tail ≡ Some when → Spells (take (length text - length tail) text) (record { name = name; email = email })
spells_front text name email tail when parts after next =
    let read = both_read text name email tail when parts after in
    let who = signed (name, email, tail) when in
    let h = person_in_is text who read in
    let rest : Bytes = 32 ∷ (h.digits ++ 32 ∷ h.zone) in
    let front : Bytes = h.part ++ 60 ∷ (email ++ 62 ∷ []) in
    let found : person_parts text ≡ Some (name, email, rest) = person_read text name email rest (record { part = h.part; is = h.is; named = h.name; clean_name = h.clean_name; clean_email = h.clean_email }) in
    let same : rest ≡ tail = ap (third_of rest) (sym found ∙ parts) in
    let whole : text ≡ front ++ rest = h.is ∙ sym (joined h.part email rest) in
    let size : length text - length tail ≡ length front = omega (arith, ap length whole, length-append front rest, ap length same) in
    let begun : take (length text - length tail) text ≡ front = ap (λ n. take n text) size ∙ ap (take (length front)) whole ∙ take-append_seam front rest in
    ap (λ (t : Bytes). person_parts (t ++ next)) begun
    ∙ ap person_parts (joined h.part email next)
    ∙ person_read (h.part ++ 60 ∷ (email ++ 62 ∷ next)) name email next (record { part = h.part; is = refl; named = h.name; clean_name = h.clean_name; clean_email = h.clean_email })
