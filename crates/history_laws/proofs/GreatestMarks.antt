-- No event of a history has a mark above the greatest.
use Rattle.std.proofs.Common.{◌≡◌, ℕ, ◌≤◌, ◌<◌, true, false, List, [], ◌∷◌, sym, inl, inr, arith, eqb-true, true≢false, ◌∙◌, Some, None}
use Rattle.std.proofs.Math.Bool.{or-false}
use Rattle.std.specs.Prelude.{◌==◌, ◌||◌, max}
use Rattle.std.specs.List.{fold}
use Rattle.std.proofs.Math.Nat.{le-max_left, le-max_right}
use Rattle.std.proofs.lemmas.Bool.{cases_Bool, or_cases}
use Rattle.plain_model.specs.declared.event.PlainEvent.{PlainEvent}
use Rattle.plain_model.specs.declared.event.PlainEvent.TheVariants.{Blob, Commit, Tag, Reset, Pass}
use Rattle.plain_model.specs.Lookups.{greatest_mark, greatest_of, top_mark}
use Rattle.plain_model.specs.Streams.{is_among, is_marked}

abbrev up : ℕ → PlainEvent → ℕ
up n e = max n (top_mark e)

no_less : (n : ℕ) (es : List PlainEvent) → n ≤ fold up n es
no_less n [] = omega arith
no_less n (e ∷ es) =
    let one = no_less (max n (top_mark e)) es in
    let two = le-max_left n (top_mark e) in
    omega arith

-- nor is one of the aliases of a commit
no_lower : (n : ℕ) (marks : List ℕ) → n ≤ greatest_of n marks
no_lower n [] = omega arith
no_lower n (k ∷ marks) =
    let one = no_lower (max n k) marks in
    let two = le-max_left n k in
    omega arith

among_below : (n m : ℕ) (marks : List ℕ) → is_among marks m ≡ true → m ≤ greatest_of n marks
among_below n m [] h = absurd (true≢false (sym h))
among_below n m (k ∷ marks) h =
    elim (or_cases (k == m) (is_among marks m) h) [
      | inl it ↦ let same : k ≡ m = eqb-true k m it in let one = no_lower (max n k) marks in let two = le-max_right n k in omega arith
      | inr later ↦ among_below (max n k) m marks later
    ]

-- no mark is above the greatest
none_above : (n m : ℕ) (es : List PlainEvent) → is_marked es m ≡ true → m ≤ fold up n es
none_above n m [] h = absurd (true≢false (sym h))
none_above n m (Blob id mark bytes ∷ es) h =
    elim (or_cases (mark == m) (is_marked es m) h) [
      | inl it ↦ let same : mark ≡ m = eqb-true mark m it in let one = no_less (max n mark) es in let two = le-max_right n mark in omega arith
      | inr later ↦ none_above (max n mark) m es later
    ]
none_above n m (Commit id mark branch author committer encoding comment parents ops aliases ∷ es) h =
    let one = no_less (max n (greatest_of mark aliases)) es in
    let two = le-max_right n (greatest_of mark aliases) in
    elim (or_cases (mark == m) (is_among aliases m || is_marked es m) h) [
      | inl it ↦ let same : mark ≡ m = eqb-true mark m it in let three = no_lower mark aliases in omega arith
      | inr more ↦ elim (or_cases (is_among aliases m) (is_marked es m) more) [
        | inl alias ↦ let three = among_below mark m aliases alias in omega arith
        | inr later ↦ none_above (max n (greatest_of mark aliases)) m es later
      ]
    ]
none_above n m (Tag id name target tagger comment None ∷ es) h = none_above (max n 0) m es h
none_above n m (Tag id name target tagger comment (Some mark) ∷ es) h =
    elim (or_cases ((mark == m) || false) (is_marked es m) h) [
      | inl it ↦ let same : mark ≡ m = eqb-true mark m (sym (or-false (mark == m)) ∙ it) in let one = no_less (max n mark) es in let two = le-max_right n mark in omega arith
      | inr later ↦ none_above (max n mark) m es later
    ]
none_above n m (Reset id branch target ∷ es) h = none_above (max n 0) m es h
none_above n m (Pass id line ∷ es) h = none_above (max n 0) m es h

pub above_is_new : (es : List PlainEvent) (m : ℕ) → greatest_mark es < m → is_marked es m ≡ false
above_is_new es m above =
    elim (cases_Bool (is_marked es m)) [
      | inl there ↦ let low = none_above 0 m es there in absurd (omega (arith, above, low))
      | inr absent ↦ absent
    ]
