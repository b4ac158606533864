-- A table by email, line by line.
use Rattle.std.proofs.Common.{◌≡◌, ◌∙◌, false, cond, inl, inr, List, [], ◌∷◌, Option, None, Some, refl, sym, ap, nat_eq, true≢false}
use Rattle.std.specs.Borrow.{Bor}
use Rattle.std.specs.Cmp.Lexicographic.{pointwise}
use Rattle.std.specs.Map.{lookup}
use Rattle.std.specs.Option.{option_or}
use Rattle.std.specs.Prelude.{bytes_eq}
use Rattle.std.proofs.lemmas.Bool.{cases_Bool, false_from_ne_true}
use Rattle.std.proofs.lemmas.Slice.Eq.{bytes_eq-Decides}
use Rattle.indexmap.specs.IndexMap.{insert_entry}
use Rattle.plain_model.specs.declared.person.Person.{Person}
use Rattle.plain_model.specs.Paths.{Bytes}
use Rattle.people_laws.specs.Authors.{Author, person_for}
use Rattle.people_edit.specs.Tables.{author_at, authors_at, put_all, said_for, with_author}

-- ---- entries of a map

pub found_author : (email : Bytes) (es : List (Bor Bytes × Person))
    → lookup (λ (k : Bor Bytes). pointwise nat_eq email k.now) es ≡ said_for (authors_at es) email
found_author email [] = refl
found_author email (e ∷ es) = elim (cases_Bool (pointwise nat_eq email e.0.now)) [
  | inl it ↦ rw it refl
  | inr other ↦ rw other (found_author email es)
]

pub put_author : (key : Bor Bytes) (person : Person) (es : List (Bor Bytes × Person))
    → authors_at (insert_entry (λ (a b : Bor Bytes). pointwise nat_eq a.now b.now) es key person)
    ≡ with_author key.now person (authors_at es)
put_author key person [] = refl
put_author key person (e ∷ es) = elim (cases_Bool (pointwise nat_eq key.now e.0.now)) [
  | inl it ↦ rw it refl
  | inr other ↦ rw other (ap (λ (more : List Author). author_at e ∷ more) (put_author key person es))
]

-- ---- who is said for an email

-- what one more line makes of it
said_with : (key : Bytes) (person : Person) (email : Bytes) (table : List Author)
    → said_for (with_author key person table) email ≡ option_or (cond (bytes_eq email key) (Some person) None) (said_for table email)
said_with key person email [] = elim (cases_Bool (bytes_eq email key)) [ inl it ↦ rw it refl | inr other ↦ rw other refl ]
said_with key person email (a ∷ table) = elim (cases_Bool (bytes_eq key a.key)) [
  | inl same ↦
      let is : key ≡ a.key = (bytes_eq-Decides key a.key).0 same in
      rw (same, is) (elim (cases_Bool (bytes_eq email a.key)) [ inl it ↦ rw it refl | inr other ↦ rw other refl ])
  | inr differs ↦
      rw differs (elim (cases_Bool (bytes_eq email a.key)) [
        | inl it ↦
            let none : bytes_eq email key ≡ false =
            false_from_ne_true (bytes_eq email key) (λ both. true≢false
            (sym ((bytes_eq-Decides key a.key).1 (sym ((bytes_eq-Decides email key).0 both) ∙ (bytes_eq-Decides email a.key).0 it))
            ∙ differs)) in
            rw (it, none) refl
        | inr other ↦ rw other (said_with key person email table)
      ])
]

or_either : {T : Type 0} (a b c : Option T) → option_or a (option_or b c) ≡ option_or (option_or a b) c
or_either None b c = refl
or_either (Some x) b c = refl

-- of several lines the last counts
said_all : (email : Bytes) (authors table : List Author)
    → said_for (put_all authors table) email ≡ option_or (person_for authors email) (said_for table email)
said_all email [] table = refl
said_all email (a ∷ authors) table =
    said_all email authors (with_author a.key a.person table)
    ∙ ap (option_or (person_for authors email)) (said_with a.key a.person email table)
    ∙ or_either (person_for authors email) (cond (bytes_eq email a.key) (Some a.person) None) (said_for table email)

or_nothing : {T : Type 0} (a : Option T) → option_or a None ≡ a
or_nothing None = refl
or_nothing (Some x) = refl

pub said_is : (email : Bytes) (authors : List Author) → said_for (put_all authors []) email ≡ person_for authors email
said_is email authors = said_all email authors [] ∙ or_nothing (person_for authors email)
