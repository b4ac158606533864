-- A name, an address and a date are a person.
use Rattle.std.proofs.Common.{◌≡◌, ◌∙◌, ℕ, List, [], ◌++◌, ap, sym, append_assoc, nat_lt, length, codes, if◌then◌else◌}
use Rattle.std.specs.Fmt.{decimal}
use Rattle.plain_model.specs.declared.person.Signed.{Signed}
use Rattle.plain_model.specs.Text.{person, zone}
use Rattle.stream_fields.specs.Written.{name_part, address, date}

flat_three : (x a b c : List ℕ) → x ++ (a ++ b ++ c) ≡ x ++ a ++ b ++ c
flat_three x a b c = sym (append_assoc x (a ++ b) c) ∙ ap (λ (t : List ℕ). t ++ c) (sym (append_assoc x a b))

flat_four : (x a b c d : List ℕ) → x ++ (a ++ b ++ c ++ d) ≡ x ++ a ++ b ++ c ++ d
flat_four x a b c d = sym (append_assoc x (a ++ b ++ c) d) ∙ ap (λ (t : List ℕ). t ++ d) (flat_three x a b c)

regroup : (old a b c d e f g h i : List ℕ) → old ++ (a ++ b) ++ (c ++ d ++ e) ++ (f ++ g ++ h ++ i) ≡ old ++ (a ++ b ++ c ++ d ++ e ++ f ++ g ++ h ++ i)
regroup old a b c d e f g h i =
    ap (λ (t : List ℕ). t ++ (f ++ g ++ h ++ i)) (append_assoc old (a ++ b) (c ++ d ++ e))
    ∙ append_assoc old (a ++ b ++ (c ++ d ++ e)) (f ++ g ++ h ++ i)
    ∙ ap (λ (t : List ℕ). old ++ (t ++ (f ++ g ++ h ++ i))) (flat_three (a ++ b) c d e)
    ∙ ap (λ (t : List ℕ). old ++ t) (flat_four (a ++ b ++ c ++ d ++ e) f g h i)

pub whole_person : (old : List ℕ) (s : Signed) → old ++ name_part s.person.name ++ address s.person ++ date s.when ≡ old ++ person s
whole_person old s =
    regroup old s.person.name (if nat_lt 0 (length s.person.name) then codes " " else []) (codes "<") s.person.email (codes "> ") (decimal s.when.seconds) (codes " ") (if s.when.minus then codes "-" else codes "+") (zone s.when.offset)
