-- The authors of a file have names and emails such as a stream spells them.
use Rattle.std.proofs.Common.{◌≡◌, ◌∙◌, ℕ, ◌+◌, Bool, true, false, cond, not, List, [], ◌∷◌, length, take, drop, refl, ap, subst, codes, Option, Some, None, option_map, Ok, Err, Result}
use Rattle.std.specs.Prelude.{◌&&◌, ◌==◌, IfSome, IsTrue, bytes_eq}
use Rattle.std.specs.List.{AllByRecursion}
use Rattle.std.specs.Option.{option_or}
use Rattle.std.proofs.lemmas.Bool.{and_parts}
use Rattle.std.proofs.lemmas.List.{take-append-drop}
use Rattle.std.proofs.lemmas.Option.{same_Some}
use Rattle.plain_model.specs.declared.person.Person.{Person}
use Rattle.plain_model.specs.People.{is_clean}
use Rattle.plain_model.specs.Parts.{◌>>=◌, begins, has_no_lf}
use Rattle.plain_model.specs.Paths.{Bytes, is_empty}
use Rattle.field_laws.proofs.Steps.{bind_some}
use Rattle.field_laws.proofs.Written.{plain_parts}
use Rattle.mailbox_laws.specs.Boxes.{lines_in}
use Rattle.mailbox_laws.specs.Headers.{identity_in}
use Rattle.mailbox_laws.proofs.Forms.{identity_formed}
use Rattle.mailbox_laws.proofs.Lines.{IsPlain, lines_plain}
use Rattle.people_laws.specs.Authors.{Author, and_then, author_and, author_by, author_of, authors_from, authors_in, cut_by, is_passed_over, named, person_for}

-- a name and an email of a stream
abbrev pub IsCleanPerson : Person → Type 0
IsCleanPerson p = IsTrue (is_clean p.name && has_no_lf p.name && is_clean p.email && has_no_lf p.email)

abbrev pub IsCleanAuthor : Author → Type 0
IsCleanAuthor author = IsCleanPerson author.person

-- ---- one line

drop_plain : (n : ℕ) (text : Bytes) → IsPlain text → IsPlain (drop n text)
drop_plain n text h = (plain_parts (take n text) (drop n text) (ap has_no_lf (take-append-drop n text) ∙ h)).1

-- what is after a text
plain_after : (text line : Bytes) (parts : Bytes × Bytes) → IsPlain line → cut_by text line ≡ Some parts → IsPlain parts.1
plain_after text [] parts h is = absurd cc
plain_after text (b ∷ bs) parts h is =
    go (begins text (b ∷ bs)) (cut_by text bs) refl (λ p e. plain_after text bs p (and_parts (not (b == 10)) (has_no_lf bs) h).1 e) is
  where
    go : (t : Bool) (o : Option (Bytes × Bytes)) → cut_by text bs ≡ o
        → ((p : Bytes × Bytes) → cut_by text bs ≡ Some p → IsPlain p.1)
        → cond t (Some ([], drop (length text) (b ∷ bs))) (option_map (λ p. (b ∷ p.0, p.1)) o) ≡ Some parts → IsPlain parts.1
    go true o e rest is =
        subst (λ (p : Bytes × Bytes). IsPlain p.1) (same_Some ([], drop (length text) (b ∷ bs)) parts is) (drop_plain (length text) (b ∷ bs) h)
    go false None e rest is = absurd cc
    go false (Some p) e rest is = subst (λ (q : Bytes × Bytes). IsPlain q.1) (same_Some (b ∷ p.0, p.1) parts is) (rest p e)

author_clean : (line : Bytes) (author : Author) → IsPlain line → author_of line ≡ Some author → IsCleanAuthor author
unfolding author_of
author_clean line author h is =
    let parts = bind_some (cut_by (codes " = ") line) author_by author is in
    go parts.0 (plain_after (codes " = ") line parts.0 h parts.1) (is_empty parts.0.0) parts.2
  where
    whole : (key : Bytes) (person : Person) → IsCleanPerson person → (t : Bool)
        → cond t None (Some (let made : Author = record { key = key; person = person } in made)) ≡ Some author
        → IsCleanAuthor author
    whole key person clean true is = absurd cc
    whole key person clean false is =
        subst IsCleanAuthor (same_Some (let made : Author = record { key = key; person = person } in made) author is) clean

    go : (parts : Bytes × Bytes) → IsPlain parts.1 → (t : Bool)
        → cond t None (identity_in parts.1 >>= named parts.0) ≡ Some author → IsCleanAuthor author
    go parts plain true is = absurd cc
    go parts plain false is =
        let p = bind_some (identity_in parts.1) (named parts.0) author is in
        whole parts.0 p.0 (identity_formed parts.1 p.0 p.1 plain) (is_empty p.0.name) p.2

-- ---- all of them

pub and_then_ok : (author : Author) (r : Result (List Author) ℕ) (authors : List Author) → and_then author r ≡ Ok authors
    → (rest : List Author) × (r ≡ Ok rest) × (author ∷ rest ≡ authors)
and_then_ok author (Ok rest) authors is = (rest, refl, cc)
and_then_ok author (Err line) authors is = absurd cc

authors_clean : (n : ℕ) (lines : List Bytes) (authors : List Author) → AllByRecursion IsPlain lines
    → authors_from n lines ≡ Ok authors → AllByRecursion IsCleanAuthor authors
authors_clean n [] authors h is = let same : [] ≡ authors = cc in subst (AllByRecursion IsCleanAuthor) same tt
authors_clean n (line ∷ lines) authors h is =
    go (is_passed_over line) (author_of line) refl (λ rest e. authors_clean (n + 1) lines rest h.1 e) is
  where
    go : (t : Bool) (o : Option Author) → author_of line ≡ o
        → ((rest : List Author) → authors_from (n + 1) lines ≡ Ok rest → AllByRecursion IsCleanAuthor rest)
        → cond t (authors_from (n + 1) lines) (author_and n o (authors_from (n + 1) lines)) ≡ Ok authors
        → AllByRecursion IsCleanAuthor authors
    go true o e clean is = clean authors is
    go false None e clean is = absurd cc
    go false (Some author) e clean is =
        let more = and_then_ok author (authors_from (n + 1) lines) authors is in
        subst (AllByRecursion IsCleanAuthor) more.2 (author_clean line author h.0 e, clean more.0 more.1)

pub file_clean : (bytes : Bytes) (authors : List Author) → authors_in bytes ≡ Ok authors → AllByRecursion IsCleanAuthor authors
file_clean bytes authors is = authors_clean 1 (lines_in bytes) authors (lines_plain bytes) is

pub person_clean : (authors : List Author) (email : Bytes) → AllByRecursion IsCleanAuthor authors
    → IfSome (person_for authors email) IsCleanPerson
person_clean [] email h = tt
person_clean (author ∷ authors) email h = go (person_for authors email) (bytes_eq email author.key) (person_clean authors email h.1)
  where
    go : (o : Option Person) (t : Bool) → IfSome o IsCleanPerson
        → IfSome (option_or o (cond t (Some author.person) None)) IsCleanPerson
    go (Some p) t c = c
    go None true c = h.0
    go None false c = tt
