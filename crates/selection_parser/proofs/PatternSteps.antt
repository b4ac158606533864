-- A byte more of letters, a pattern or a path.
use Rattle.std.proofs.Common.{◌≡◌, ℕ, ◌-◌, ◌≤◌, ◌==◌, ◌&&◌, Bool, true, false, cond, [], ◌∷◌, ◌++◌, length, take, Option, Some, None, refl, sym, ◌∙◌, ap}
use Rattle.std.proofs.Common.{subst, inl, inr, append_assoc, append-nil, arith}
use Rattle.std.specs.Prelude.{not, codes, ◌⊎◌}
use Rattle.std.specs.List.{list_all}
use Rattle.std.proofs.lemmas.Bool.{and_parts, and_from, eqb-true, not-true, cases_Bool}
use Rattle.std.proofs.lemmas.Grind.{common_steps}
use Rattle.plain_model.specs.Paths.{Bytes, is_empty}
use Rattle.selection_parser.specs.declared.place.Place.{Place}
use Rattle.selection_parser.specs.declared.place.Place.TheVariants as place
use Rattle.selection_parser.specs.Spelling.{Adds, no_fields, escaped, ends_in_backslash, whole_mark}
use Rattle.selection_parser.specs.Reading.{placed, in_pattern, in_path, after_path_pattern}
use Rattle.selection_parser.proofs.HasRead.{pattern_sign, PlaceHasRead}

-- which way a choice went
pub chosen : {A : Type 0} (b : Bool) (x y z : A) → cond b x y ≡ z → ((b ≡ true) × (x ≡ z)) ⊎ ((b ≡ false) × (y ≡ z))
chosen true x y z h = inl (refl, h)
chosen false x y z h = inr (refl, h)

-- what was placed
pub was_placed : {A B : Type 0} (f : A → B) (o : Option A) (y : B) → placed f o ≡ Some y → (x : A) × (o ≡ Some x) × (f x ≡ y)
was_placed f None y h = absurd cc
was_placed f (Some x) y h = (x, refl, cc)

-- ---- letters

pub adds_push : {A : Type 0} (with : A → ℕ → Option A) (letters : Bytes) (set new next : A) (b : ℕ) → Adds with set letters new → with new b ≡ Some next
    → Adds with set (letters ++ b ∷ []) next
adds_push with [] set new next b h k = (next, ap (λ s. with s b) h ∙ k, refl)
adds_push with (c ∷ letters) set new next b h k = (h.0, h.1, adds_push with letters h.0 new next b h.2 k)

-- ---- bytes that aren't this one

pub all_push : (p : ℕ → Bool) (xs : Bytes) (b : ℕ) → list_all p xs ≡ true → p b ≡ true → list_all p (xs ++ b ∷ []) ≡ true
all_push p [] b h k = and_from (p b) true k refl
all_push p (x ∷ xs) b h k =
    let q = and_parts (p x) (list_all p xs) h in
    and_from (p x) (list_all p (xs ++ b ∷ [])) q.0 (all_push p xs b q.1 k)

-- ---- patterns

pub escaped_append : (x y : Bytes) → escaped (x ++ y) ≡ escaped x ++ escaped y
escaped_append [] y = refl
escaped_append (b ∷ bs) y =
    elim (cases_Bool (b == 47)) [
      | inl slash ↦ rw slash (ap (λ t. 92 ∷ 47 ∷ t) (escaped_append bs y))
      | inr other ↦ rw other (ap (λ t. b ∷ t) (escaped_append bs y))
    ]

escaped_push : (x : Bytes) (b : ℕ) → (b == 47) ≡ false → escaped (x ++ b ∷ []) ≡ escaped x ++ b ∷ []
escaped_push x b h = escaped_append x (b ∷ []) ∙ ap (λ c. escaped x ++ cond c (92 ∷ 47 ∷ []) (b ∷ [])) h

pub ends_split : (p : Bytes) → ends_in_backslash p ≡ true → (front : Bytes) × (p ≡ front ++ 92 ∷ [])
ends_split [] h = absurd cc
ends_split (b ∷ []) h = ([], ap (λ c. c ∷ []) (eqb-true b 92 h))
ends_split (b ∷ c ∷ bs) h = let rest = ends_split (c ∷ bs) h in (b ∷ rest.0, ap (λ t. b ∷ t) rest.1)

take_pushed : (xs : Bytes) (b : ℕ) → take (length (xs ++ b ∷ []) - 1) (xs ++ b ∷ []) ≡ xs
take_pushed xs b = grind (arith, common_steps)

-- a slash after a backslash
slash_escaped : (p : Bytes) → ends_in_backslash p ≡ true → escaped (take (length p - 1) p ++ 47 ∷ []) ≡ escaped p ++ 47 ∷ []
slash_escaped p h =
    let split = ends_split p h in
    let front : take (length p - 1) p ≡ split.0 = ap (λ t. take (length t - 1) t) split.1 ∙ take_pushed split.0 92 in
    ap (λ t. escaped (t ++ 47 ∷ [])) front
    ∙ escaped_append split.0 (47 ∷ [])
    ∙ sym (append_assoc (escaped split.0) (92 ∷ []) (47 ∷ []))
    ∙ ap (λ t. t ++ 47 ∷ []) (sym (escaped_append split.0 (92 ∷ [])) ∙ ap escaped (sym split.1))

pub pattern_has_read : (deep : ℕ) (bracketed : Bool) (pattern text : Bytes) (b : ℕ) (q : Place) → PlaceHasRead deep (place.InPattern bracketed pattern) text
    → in_pattern bracketed pattern b ≡ Some q → PlaceHasRead deep q (text ++ b ∷ [])
unfolding in_pattern
pattern_has_read deep bracketed pattern text b q h k =
    elim (chosen (not (b == 47)) (Some (place.InPattern bracketed (pattern ++ b ∷ [])))
    (cond (ends_in_backslash pattern) (Some (place.InPattern bracketed (take (length pattern - 1) pattern ++ 47 ∷ [])))
    (cond (is_empty pattern) None (cond bracketed (Some (place.AfterPathPattern pattern false)) (Some (place.InFields pattern no_fields))))) (Some q) k) [
      | inl other ↦
          let is : place.InPattern bracketed (pattern ++ b ∷ []) ≡ q = cc in
          subst (λ z. PlaceHasRead deep z (text ++ b ∷ [])) is
          (ap (λ t. t ++ b ∷ []) h ∙ append_assoc (pattern_sign bracketed) (escaped pattern) (b ∷ [])
          ∙ ap (λ t. pattern_sign bracketed ++ t) (sym (escaped_push pattern b (not-true (b == 47) other.0))))
      | inr slash ↦ at_slash (is_slash (b == 47) refl slash.0) slash.1
    ]
  where
    is_slash : (t : Bool) → (b == 47) ≡ t → not t ≡ false → b ≡ 47
    is_slash true e n = eqb-true b 47 e
    is_slash false e n = absurd cc

    closed : (t : Bool) → b ≡ 47 → ends_in_backslash pattern ≡ false → 1 ≤ length pattern
        → cond t (Some (place.AfterPathPattern pattern false)) (Some (place.InFields pattern no_fields)) ≡ Some q → text ≡ pattern_sign t ++ escaped pattern
        → PlaceHasRead deep q (text ++ b ∷ [])
    closed true is ends some e so_far =
        let same : place.AfterPathPattern pattern false ≡ q = cc in
        subst (λ z. PlaceHasRead deep z (text ++ b ∷ [])) same (
          record { some = some; ends = ends },
          ap (λ c. text ++ c ∷ []) is ∙ ap (λ t. t ++ 47 ∷ []) so_far ∙ sym (append-nil (codes "[/" ++ escaped pattern ++ 47 ∷ [])),
        )
    closed false is ends some e so_far =
        let same : place.InFields pattern no_fields ≡ q = cc in
        subst (λ z. PlaceHasRead deep z (text ++ b ∷ [])) same (
          record { some = some; ends = ends },
          [],
          refl,
          ap (λ c. text ++ c ∷ []) is ∙ ap (λ t. t ++ 47 ∷ []) so_far ∙ sym (append-nil (codes "/" ++ escaped pattern ++ 47 ∷ [])),
        )

    not_empty : (p : Bytes) (x : Option Place) → cond (is_empty p) None x ≡ Some q → (1 ≤ length p) × (x ≡ Some q)
    not_empty [] x e = absurd cc
    not_empty (c ∷ cs) x e = (omega arith, e)

    at_slash : b ≡ 47 → cond (ends_in_backslash pattern) (Some (place.InPattern bracketed (take (length pattern - 1) pattern ++ 47 ∷ [])))
        (cond (is_empty pattern) None (cond bracketed (Some (place.AfterPathPattern pattern false)) (Some (place.InFields pattern no_fields)))) ≡ Some q
        → PlaceHasRead deep q (text ++ b ∷ [])
    at_slash is e =
        elim (chosen (ends_in_backslash pattern) (Some (place.InPattern bracketed (take (length pattern - 1) pattern ++ 47 ∷ [])))
        (cond (is_empty pattern) None (cond bracketed (Some (place.AfterPathPattern pattern false)) (Some (place.InFields pattern no_fields)))) (Some q) e) [
          | inl ends ↦
              let same : place.InPattern bracketed (take (length pattern - 1) pattern ++ 47 ∷ []) ≡ q = cc in
              subst (λ z. PlaceHasRead deep z (text ++ b ∷ [])) same
              (ap (λ c. text ++ c ∷ []) is ∙ ap (λ t. t ++ 47 ∷ []) h ∙ append_assoc (pattern_sign bracketed) (escaped pattern) (47 ∷ [])
              ∙ ap (λ t. pattern_sign bracketed ++ t) (sym (slash_escaped pattern ends.0)))
          | inr ends ↦
              let some = not_empty pattern (cond bracketed (Some (place.AfterPathPattern pattern false)) (Some (place.InFields pattern no_fields))) ends.1 in
              closed bracketed is ends.0 some.0 some.1 h
        ]

-- ---- paths

pub path_has_read : (deep : ℕ) (path text : Bytes) (b : ℕ) (q : Place) → PlaceHasRead deep (place.InPath path) text
    → in_path path b ≡ Some q → PlaceHasRead deep q (text ++ b ∷ [])
unfolding in_path
path_has_read deep [] text b q h k =
    elim (chosen (b == 47) (Some (place.InPattern true [])) (cond (b == 93) None (Some (place.InPath (b ∷ [])))) (Some q) k) [
      | inl slash ↦
          let same : place.InPattern true [] ≡ q = cc in
          subst (λ z. PlaceHasRead deep z (text ++ b ∷ [])) same
          (ap (λ c. text ++ c ∷ []) (eqb-true b 47 slash.0) ∙ ap (λ t. t ++ 47 ∷ []) h.1)
      | inr other ↦
          elim (chosen (b == 93) None (Some (place.InPath (b ∷ []))) (Some q) other.1) [
            | inl bracket ↦ absurd (let wrong : None ≡ Some q = bracket.1 in cc)
            | inr plain ↦
                let same : place.InPath (b ∷ []) ≡ q = cc in
                subst (λ z. PlaceHasRead deep z (text ++ b ∷ [])) same (
                  (other.0, record { some = omega arith; without = all_push (λ d. not (d == 93)) [] b refl (ap not plain.0) }),
                  ap (λ t. t ++ b ∷ []) h.1,
                )
          ]
    ]
path_has_read deep (c ∷ cs) text b q h k =
    elim (chosen (b == 93) (Some (place.AfterPath (c ∷ cs))) (Some (place.InPath ((c ∷ cs) ++ b ∷ []))) (Some q) k) [
      | inl bracket ↦
          let same : place.AfterPath (c ∷ cs) ≡ q = cc in
          subst (λ z. PlaceHasRead deep z (text ++ b ∷ [])) same
          (h.0.0, h.0.1, ap (λ d. text ++ d ∷ []) (eqb-true b 93 bracket.0) ∙ ap (λ t. t ++ 93 ∷ []) h.1)
      | inr other ↦
          let same : place.InPath ((c ∷ cs) ++ b ∷ []) ≡ q = cc in
          subst (λ z. PlaceHasRead deep z (text ++ b ∷ [])) same (
            (h.0.0, record { some = omega arith; without = all_push (λ d. not (d == 93)) (c ∷ cs) b h.0.1.without (ap not other.0) }),
            ap (λ t. t ++ b ∷ []) h.1,
          )
    ]

pub closing_has_read : (deep : ℕ) (pattern text : Bytes) (trees : Bool) (b : ℕ) (q : Place) → PlaceHasRead deep (place.AfterPathPattern pattern trees) text
    → after_path_pattern pattern trees b ≡ Some q → PlaceHasRead deep q (text ++ b ∷ [])
unfolding after_path_pattern
closing_has_read deep pattern text trees b q h k =
    elim (chosen (b == 93) (Some (place.AfterBracket pattern trees)) (cond ((b == 99) && not trees) (Some (place.AfterPathPattern pattern true)) None)
    (Some q) k) [
      | inl bracket ↦
          let same : place.AfterBracket pattern trees ≡ q = cc in
          subst (λ z. PlaceHasRead deep z (text ++ b ∷ [])) same
          (h.0, ap (λ d. text ++ d ∷ []) (eqb-true b 93 bracket.0) ∙ ap (λ t. t ++ 93 ∷ []) h.1)
      | inr other ↦
          elim (chosen ((b == 99) && not trees) (Some (place.AfterPathPattern pattern true)) None (Some q) other.1) [
            | inl both ↦
                let p = and_parts (b == 99) (not trees) both.0 in
                let plain : trees ≡ false = not-true trees p.1 in
                let same : place.AfterPathPattern pattern true ≡ q = cc in
                subst (λ z. PlaceHasRead deep z (text ++ b ∷ [])) same (
                  h.0,
                  ap (λ d. text ++ d ∷ []) (eqb-true b 99 p.0)
                      ∙ ap (λ t. t ++ 99 ∷ []) (h.1 ∙ ap (λ t. codes "[/" ++ escaped pattern ++ codes "/" ++ whole_mark t) plain)
                      ∙ append_assoc (codes "[/" ++ escaped pattern ++ codes "/") [] (99 ∷ []),
                )
            | inr neither ↦ absurd (let wrong : None ≡ Some q = neither.1 in cc)
          ]
    ]
