-- A byte more of a primary, and a primary that may end.
use Rattle.std.proofs.Common.{◌≡◌, ℕ, ◌+◌, ◌-◌, ◌*◌, ◌≤◌, ◌==◌, ◌&&◌, Bool, true, false, cond, List, [], ◌∷◌, ◌++◌, length, Option, Some, None, refl, sym}
use Rattle.std.proofs.Common.{◌∙◌, ap, subst, inl, inr, append_assoc, append-nil, arith, zero-add}
use Rattle.std.specs.Prelude.{not, nat_lt, codes}
use Rattle.std.proofs.lemmas.Bool.{and_parts, eqb-true}
use Rattle.std.proofs.lemmas.Bool.Decides.{nat_tests}
use Rattle.std.proofs.lemmas.Grind.{common_steps}
use Rattle.plain_model.specs.Numbers.{is_digit, IsNumeral}
use Rattle.plain_model.proofs.Numbers.{value_push}
use Rattle.plain_model.specs.Paths.{Bytes, is_empty}
use Rattle.selection_parser.specs.declared.item.Item.{Item}
use Rattle.selection_parser.specs.declared.item.Spot.{Spot}
use Rattle.selection_parser.specs.declared.item.Spot.TheVariants.{Last, Named}
use Rattle.selection_parser.specs.declared.place.Place.{Place}
use Rattle.selection_parser.specs.declared.place.Place.TheVariants as place
use Rattle.selection_parser.specs.declared.place.SpotPlace.{SpotPlace}
use Rattle.selection_parser.specs.declared.place.SpotPlace.TheVariants as spot
use Rattle.selection_parser.specs.Plain.{PlainSelection}
use Rattle.selection_parser.specs.Spelling.{SpellsEach, SpellsNumber, SpellsSpot, SpellsItem, SpellsPrimary, with_kind, with_field, no_kinds, no_fields}
use Rattle.selection_parser.specs.Spelling.{escaped}
use Rattle.selection_parser.specs.Spelling.SpellsPrimary.{kinds, search, at_path, at_pattern, items}
use Rattle.selection_parser.specs.Reading.{placed, spot_begun, one_point, item_of, number_spot, in_spot, after_spot, begins_name, inside, primary_at, items_at}
use Rattle.selection_parser.proofs.HasRead.{followed_push, followed_last, mark_sign, SpotHasRead, DotFits, StartHasRead, ItemsHaveRead, PlaceHasRead}
use Rattle.selection_parser.proofs.PatternSteps.{chosen, was_placed, adds_push, all_push, pattern_has_read, path_has_read, closing_has_read}

-- ---- spots

numeral_push : (ds : Bytes) (n b : ℕ) → IsNumeral ds n → is_digit b ≡ true → IsNumeral (ds ++ b ∷ []) (10 * n + (b - 48))
numeral_push ds n b h k = record {
  some = (let more = length_push ds b in omega arith);
  all = all_push is_digit ds b h.all k;
  value = value_push 0 ds b ∙ ap (λ v. 10 * v + (b - 48)) h.value;
}
  where
    length_push : (xs : Bytes) (c : ℕ) → 1 ≤ length (xs ++ c ∷ [])
    length_push [] c = omega arith
    length_push (x ∷ xs) c = omega arith

length_pushed : (xs : Bytes) (c : ℕ) → length (xs ++ c ∷ []) ≡ length xs + 1
length_pushed xs c = grind (arith, common_steps)

one_digit : (b : ℕ) → is_digit b ≡ true → IsNumeral (b ∷ []) (b - 48)
one_digit b h = record { some = omega arith; all = all_push is_digit [] b refl h; value = zero-add (b - 48) }

-- what a byte begins, and that it is no point after the start of a range
abbrev Begins : ℕ → SpotPlace → Type 0
Begins b a = SpotHasRead a (b ∷ []) × ((start : Option Spot) → DotFits a start)

begun_has_read : (b : ℕ) (a : SpotPlace) → spot_begun b ≡ Some a → Begins b a
unfolding spot_begun
begun_has_read b a k =
    elim (chosen (is_digit b) (Some (spot.Digits false (b - 48, 1)))
    (cond (b == 58) (Some spot.AfterColon) (cond (b == 36) (Some (spot.After Last)) (cond (b == 60) (Some (spot.InText [])) None))) (Some a) k) [
      | inl digit ↦
          let same : spot.Digits false (b - 48, 1) ≡ a = cc in
          subst (Begins b) same ((b ∷ [], one_digit b digit.0, refl, omega arith, refl), λ start. tt)
      | inr h1 ↦
          elim (chosen (b == 58) (Some spot.AfterColon) (cond (b == 36) (Some (spot.After Last)) (cond (b == 60) (Some (spot.InText [])) None)) (Some a) h1.1) [
            | inl colon ↦
                let same : spot.AfterColon ≡ a = cc in
                subst (Begins b) same (ap (λ c. c ∷ []) (eqb-true b 58 colon.0), λ start. tt)
            | inr h2 ↦
                elim (chosen (b == 36) (Some (spot.After Last)) (cond (b == 60) (Some (spot.InText [])) None) (Some a) h2.1) [
                  | inl dollar ↦
                      let same : spot.After Last ≡ a = cc in
                      subst (Begins b) same (ap (λ c. c ∷ []) (eqb-true b 36 dollar.0), λ start. tt)
                  | inr h3 ↦
                      elim (chosen (b == 60) (Some (spot.InText [])) None (Some a) h3.1) [
                        | inl angle ↦
                            let same : spot.InText [] ≡ a = cc in
                            subst (Begins b) same ((refl, ap (λ c. c ∷ []) (eqb-true b 60 angle.0)), λ start. tt)
                        | inr h4 ↦ absurd (let wrong : None ≡ Some a = h4.1 in cc)
                      ]
                ]
          ]
    ]

-- with a byte more of the last spot
items_have_read : (before : List Item) (start : Option Spot) (at new : SpotPlace) (text : Bytes) (b : ℕ) (h : ItemsHaveRead before start at text)
    → SpotHasRead new (h.here ++ b ∷ []) → DotFits new start → ItemsHaveRead before start new (text ++ b ∷ [])
items_have_read before start at new text b h k f = record {
  done = h.done;
  left = h.left;
  here = h.here ++ b ∷ [];
  items = h.items;
  end = h.end;
  last = k;
  alone = f;
  joined = ap (λ t. t ++ b ∷ []) h.joined ∙ append_assoc (h.done ++ h.left) h.here (b ∷ []);
}

-- a number with its sign
pub number_spelled : (marked : Bool) (digits text : Bytes) (n : ℕ) → IsNumeral digits n → length digits ≤ 19 → text ≡ mark_sign marked ++ digits
    → SpellsSpot text (number_spot marked n)
number_spelled true digits text n h few e = (digits, record { numeral = h; few = few }, e)
number_spelled false digits text n h few e = subst (λ t. SpellsNumber t n) (sym e) (record { numeral = h; few = few })

-- an item whose last spot this is
pub item_spelled : (start : Option Spot) (left here : Bytes) (s : Spot) → StartHasRead start left → SpellsSpot here s
    → SpellsItem (left ++ here) (item_of start s)
item_spelled None left here s h k = subst (λ t. SpellsSpot (t ++ here) s) (sym h) k
item_spelled (Some f) left here s h k = (h.0, here, h.1, k, ap (λ t. t ++ here) h.2)

-- after a whole spot
spot_followed : (deep : ℕ) (before : List Item) (start : Option Spot) (at : SpotPlace) (text : Bytes) (s : Spot) (b : ℕ) (q : Place)
    → (h : ItemsHaveRead before start at text) → SpellsSpot h.here s → after_spot before start s b ≡ Some q → PlaceHasRead deep q (text ++ b ∷ [])
unfolding after_spot
spot_followed deep before start at text s b q h spelled k =
    elim (chosen (b == 44) (Some (place.InItems (before ++ item_of start s ∷ []) None spot.Start)) (cond (b == 46) (one_point before start s) None)
    (Some q) k) [
      | inl comma ↦
          let same : place.InItems (before ++ item_of start s ∷ []) None spot.Start ≡ q = cc in
          subst (λ z. PlaceHasRead deep z (text ++ b ∷ [])) same
          (record {
            done = h.done ++ (h.left ++ h.here) ++ 44 ∷ [];
            left = [];
            here = [];
            items = followed_push 44 SpellsItem before h.done (h.left ++ h.here) (item_of start s) h.items (item_spelled start h.left h.here s h.end spelled);
            end = refl;
            last = refl;
            alone = tt;
            joined = ap (λ c. text ++ c ∷ []) (eqb-true b 44 comma.0) ∙ ap (λ t. t ++ 44 ∷ []) h.joined ∙ simp (append_assoc, append-nil);
          })
      | inr h1 ↦
          elim (chosen (b == 46) (one_point before start s) None (Some q) h1.1) [
            | inl point ↦ at_point start refl (eqb-true b 46 point.0) point.1
            | inr none ↦ absurd (let wrong : None ≡ Some q = none.1 in cc)
          ]
    ]
  where
    at_point : (f : Option Spot) → start ≡ f → b ≡ 46 → one_point before f s ≡ Some q → PlaceHasRead deep q (text ++ b ∷ [])
    at_point (Some t) e is p = absurd (let wrong : None ≡ Some q = p in cc)
    at_point None e is p =
        let same : place.InItems before None (spot.AfterDot s) ≡ q = cc in
        subst (λ z. PlaceHasRead deep z (text ++ b ∷ [])) same
        (subst (λ f. ItemsHaveRead before f (spot.AfterDot s) (text ++ b ∷ [])) e
        (items_have_read before start at (spot.AfterDot s) text b h (h.here, spelled, ap (λ c. h.here ++ c ∷ []) is) e))

below_19 : (count : ℕ) → nat_lt count 19 ≡ true → count + 1 ≤ 19
below_19 count h = grind (arith, nat_tests)

spot_has_read : (deep : ℕ) (before : List Item) (start : Option Spot) (at : SpotPlace) (text : Bytes) (b : ℕ) (q : Place)
    → ItemsHaveRead before start at text → in_spot before start at b ≡ Some q → PlaceHasRead deep q (text ++ b ∷ [])
unfolding in_spot
spot_has_read deep before start spot.Start text b q h k =
    let new = was_placed (place.InItems before start) (spot_begun b) q k in
    let begun = begun_has_read b new.0 new.1 in
    let so_far : SpotHasRead new.0 (h.here ++ b ∷ []) = subst (λ t. SpotHasRead new.0 (t ++ b ∷ [])) (sym h.last) begun.0 in
    subst (λ z. PlaceHasRead deep z (text ++ b ∷ [])) new.2
    (items_have_read before start spot.Start new.0 text b h so_far (begun.1 start))
spot_has_read deep before start spot.AfterColon text b q h k =
    elim (chosen (is_digit b) (Some (place.InItems before start (spot.Digits true (b - 48, 1)))) None (Some q) k) [
      | inl digit ↦
          let same : place.InItems before start (spot.Digits true (b - 48, 1)) ≡ q = cc in
          subst (λ z. PlaceHasRead deep z (text ++ b ∷ [])) same
          (items_have_read before start spot.AfterColon (spot.Digits true (b - 48, 1)) text b h
          (b ∷ [], one_digit b digit.0, refl, omega arith, ap (λ t. t ++ b ∷ []) h.last) tt)
      | inr none ↦ absurd (let wrong : None ≡ Some q = none.1 in cc)
    ]
spot_has_read deep before start (spot.Digits marked (n, count)) text b q h k =
    let so_far = h.last in
    elim (chosen (is_digit b && nat_lt count 19) (Some (place.InItems before start (spot.Digits marked (10 * n + (b - 48), count + 1))))
    (after_spot before start (number_spot marked n) b) (Some q) k) [
      | inl more ↦
          let p = and_parts (is_digit b) (nat_lt count 19) more.0 in
          let same : place.InItems before start (spot.Digits marked (10 * n + (b - 48), count + 1)) ≡ q = cc in
          subst (λ z. PlaceHasRead deep z (text ++ b ∷ [])) same
          (items_have_read before start (spot.Digits marked (n, count)) (spot.Digits marked (10 * n + (b - 48), count + 1)) text b h (
            so_far.0 ++ b ∷ [],
            numeral_push so_far.0 n b so_far.1 p.0,
            length_pushed so_far.0 b ∙ ap (λ c. c + 1) so_far.2,
            below_19 count p.1,
            ap (λ t. t ++ b ∷ []) so_far.4 ∙ append_assoc (mark_sign marked) so_far.0 (b ∷ []),
          ) tt)
      | inr other ↦
          let few : length so_far.0 ≤ 19 = (let e = so_far.2 in let m = so_far.3 in omega arith) in
          spot_followed deep before start (spot.Digits marked (n, count)) text (number_spot marked n) b q h
          (number_spelled marked so_far.0 h.here n so_far.1 few so_far.4) other.1
    ]
spot_has_read deep before start (spot.InText name) text b q h k =
    elim (chosen (b == 62) (cond (is_empty name) None (Some (place.InItems before start (spot.After (Named name)))))
    (Some (place.InItems before start (spot.InText (name ++ b ∷ [])))) (Some q) k) [
      | inl angle ↦
          let some = filled name (Some (place.InItems before start (spot.After (Named name)))) angle.1 in
          let same : place.InItems before start (spot.After (Named name)) ≡ q = (let e = some.1 in cc) in
          subst (λ z. PlaceHasRead deep z (text ++ b ∷ [])) same
          (items_have_read before start (spot.InText name) (spot.After (Named name)) text b h (
            record { some = some.0; without = h.last.0 },
            ap (λ c. h.here ++ c ∷ []) (eqb-true b 62 angle.0) ∙ ap (λ t. t ++ 62 ∷ []) h.last.1,
          ) tt)
      | inr other ↦
          let same : place.InItems before start (spot.InText (name ++ b ∷ [])) ≡ q = cc in
          subst (λ z. PlaceHasRead deep z (text ++ b ∷ [])) same
          (items_have_read before start (spot.InText name) (spot.InText (name ++ b ∷ [])) text b h
          (all_push (λ d. not (d == 62)) name b h.last.0 (ap not other.0), ap (λ t. t ++ b ∷ []) h.last.1) tt)
    ]
  where
    filled : (p : Bytes) (x : Option Place) → cond (is_empty p) None x ≡ Some q → (1 ≤ length p) × (x ≡ Some q)
    filled [] x e = absurd cc
    filled (c ∷ cs) x e = (omega arith, e)
spot_has_read deep before start (spot.After s) text b q h k = spot_followed deep before start (spot.After s) text s b q h h.last k
spot_has_read deep before start (spot.AfterDot s) text b q h k =
    elim (chosen (b == 46) (Some (place.InItems before (Some s) spot.Start)) None (Some q) k) [
      | inl point ↦
          let same : place.InItems before (Some s) spot.Start ≡ q = cc in
          let nothing : h.left ≡ [] = left_empty start h.left h.alone h.end in
          subst (λ z. PlaceHasRead deep z (text ++ b ∷ [])) same
          (record {
            done = h.done;
            left = h.here ++ 46 ∷ [];
            here = [];
            items = h.items;
            end = (h.last.0, h.last.1, ap (λ t. t ++ 46 ∷ []) h.last.2 ∙ append_assoc h.last.0 (46 ∷ []) (46 ∷ []));
            last = refl;
            alone = tt;
            joined = ap (λ c. text ++ c ∷ []) (eqb-true b 46 point.0) ∙ ap (λ t. t ++ 46 ∷ []) (h.joined ∙ ap (λ t. h.done ++ t ++ h.here) nothing)
                ∙ simp (append_assoc, append-nil);
          })
      | inr none ↦ absurd (let wrong : None ≡ Some q = none.1 in cc)
    ]
  where
    left_empty : (f : Option Spot) (l : Bytes) → f ≡ None → StartHasRead f l → l ≡ []
    left_empty None l e c = c
    left_empty (Some t) l e c = absurd cc

-- ---- places

-- a byte more, inside a primary
pub place_has_read : (at q : Place) (deep : ℕ) (text : Bytes) (b : ℕ) → PlaceHasRead deep at text → inside at b ≡ Some q → PlaceHasRead deep q (text ++ b ∷ [])
unfolding inside
place_has_read place.Start q deep text b h k =
    elim (chosen (b == 61) (Some place.AfterEquals)
    (cond (b == 47) (Some (place.InPattern false [])) (cond (b == 91) (Some (place.InPath [])) (placed (place.InItems [] None) (spot_begun b))))
    (Some q) k) [
      | inl equals ↦
          let same : place.AfterEquals ≡ q = cc in
          subst (λ z. PlaceHasRead deep z (text ++ b ∷ [])) same (ap (λ c. text ++ c ∷ []) (eqb-true b 61 equals.0) ∙ ap (λ t. t ++ 61 ∷ []) h)
      | inr h1 ↦
          elim (chosen (b == 47) (Some (place.InPattern false [])) (cond (b == 91) (Some (place.InPath [])) (placed (place.InItems [] None) (spot_begun b)))
          (Some q) h1.1) [
            | inl slash ↦
                let same : place.InPattern false [] ≡ q = cc in
                subst (λ z. PlaceHasRead deep z (text ++ b ∷ [])) same (ap (λ c. text ++ c ∷ []) (eqb-true b 47 slash.0) ∙ ap (λ t. t ++ 47 ∷ []) h)
            | inr h2 ↦
                elim (chosen (b == 91) (Some (place.InPath [])) (placed (place.InItems [] None) (spot_begun b)) (Some q) h2.1) [
                  | inl bracket ↦
                      let same : place.InPath [] ≡ q = cc in
                      subst (λ z. PlaceHasRead deep z (text ++ b ∷ [])) same (tt, ap (λ c. text ++ c ∷ []) (eqb-true b 91 bracket.0) ∙ ap (λ t. t ++ 91 ∷ []) h)
                  | inr h3 ↦
                      let new = was_placed (place.InItems [] None) (spot_begun b) q h3.1 in
                      let begun = begun_has_read b new.0 new.1 in
                      subst (λ z. PlaceHasRead deep z (text ++ b ∷ [])) new.2
                      (record {
                        done = [];
                        left = [];
                        here = b ∷ [];
                        items = refl;
                        end = refl;
                        last = begun.0;
                        alone = begun.1 None;
                        joined = ap (λ t. t ++ b ∷ []) h;
                      })
                ]
          ]
    ]
place_has_read (place.InName name) q deep text b h k =
    elim (chosen (begins_name (name ++ b ∷ [])) (Some (place.InName (name ++ b ∷ []))) None (Some q) k) [
      | inl goes ↦
          let same : place.InName (name ++ b ∷ []) ≡ q = cc in
          subst (λ z. PlaceHasRead deep z (text ++ b ∷ [])) same (h.0, h.1, goes.0, ap (λ t. t ++ b ∷ []) h.3)
      | inr none ↦ absurd (let wrong : None ≡ Some q = none.1 in cc)
    ]
place_has_read place.AfterEquals q deep text b h k =
    let new = was_placed place.InKinds (with_kind no_kinds b) q k in
    subst (λ z. PlaceHasRead deep z (text ++ b ∷ [])) new.2 (b, [], (new.0, new.1, refl), ap (λ t. t ++ b ∷ []) h)
place_has_read (place.InKinds set) q deep text b h k =
    let new = was_placed place.InKinds (with_kind set b) q k in
    subst (λ z. PlaceHasRead deep z (text ++ b ∷ [])) new.2
    (h.0, h.1 ++ b ∷ [], adds_push with_kind (h.0 ∷ h.1) no_kinds set new.0 b h.2 new.1, ap (λ t. t ++ b ∷ []) h.3)
place_has_read (place.InItems before start at) q deep text b h k = spot_has_read deep before start at text b q h k
place_has_read (place.InPattern bracketed pattern) q deep text b h k = pattern_has_read deep bracketed pattern text b q h k
place_has_read (place.InFields pattern fields) q deep text b h k =
    let new = was_placed (place.InFields pattern) (with_field fields b) q k in
    subst (λ z. PlaceHasRead deep z (text ++ b ∷ [])) new.2 (
      h.0,
      h.1 ++ b ∷ [],
      adds_push with_field h.1 no_fields fields new.0 b h.2 new.1,
      ap (λ t. t ++ b ∷ []) h.3 ∙ append_assoc (codes "/" ++ escaped pattern ++ codes "/") h.1 (b ∷ []),
    )
place_has_read (place.InPath path) q deep text b h k = path_has_read deep path text b q h k
place_has_read (place.AfterPathPattern pattern trees) q deep text b h k = closing_has_read deep pattern text trees b q h k
place_has_read (place.AfterPath path) q deep text b h k = absurd cc
place_has_read (place.AfterBracket pattern trees) q deep text b h k = absurd cc

-- ---- a primary that may end

items_at_spelled : (before : List Item) (start : Option Spot) (at : SpotPlace) (x : PlainSelection) (text : Bytes) → ItemsHaveRead before start at text
    → items_at before start at ≡ Some x → (Inner : Bytes → PlainSelection → Type 0) → SpellsPrimary Inner text x
items_at_spelled before start (spot.Digits marked (n, count)) x text h k Inner =
    let so_far = h.last in
    let few : length so_far.0 ≤ 19 = (let e = so_far.2 in let m = so_far.3 in omega arith) in
    items (before ++ item_of start (number_spot marked n) ∷ [])
    (subst (SpellsEach 44 SpellsItem (before ++ item_of start (number_spot marked n) ∷ [])) (sym (h.joined ∙ append_assoc h.done h.left h.here))
    (followed_last 44 SpellsItem before h.done (h.left ++ h.here) (item_of start (number_spot marked n)) h.items
    (item_spelled start h.left h.here (number_spot marked n) h.end (number_spelled marked so_far.0 h.here n so_far.1 few so_far.4))))
    cc
items_at_spelled before start (spot.After s) x text h k Inner =
    items (before ++ item_of start s ∷ [])
    (subst (SpellsEach 44 SpellsItem (before ++ item_of start s ∷ [])) (sym (h.joined ∙ append_assoc h.done h.left h.here))
    (followed_last 44 SpellsItem before h.done (h.left ++ h.here) (item_of start s) h.items (item_spelled start h.left h.here s h.end h.last)))
    cc
items_at_spelled before start spot.Start x text h k Inner = absurd cc
items_at_spelled before start spot.AfterColon x text h k Inner = absurd cc
items_at_spelled before start (spot.InText name) x text h k Inner = absurd cc
items_at_spelled before start (spot.AfterDot s) x text h k Inner = absurd cc

pub primary_at_spelled : (at : Place) (x : PlainSelection) (deep : ℕ) (text : Bytes) → PlaceHasRead deep at text → primary_at at ≡ Some x
    → (Inner : Bytes → PlainSelection → Type 0) → SpellsPrimary Inner text x
primary_at_spelled (place.InKinds set) x deep text h k Inner = kinds h.0 h.1 set h.2 h.3 cc
primary_at_spelled (place.InItems before start at) x deep text h k Inner = items_at_spelled before start at x text h k Inner
primary_at_spelled (place.InFields pattern fields) x deep text h k Inner = search pattern h.1 fields h.0 h.2 h.3 cc
primary_at_spelled (place.AfterPath path) x deep text h k Inner = at_path path h.0 h.1 h.2 cc
primary_at_spelled (place.AfterBracket pattern trees) x deep text h k Inner = at_pattern pattern trees h.0 h.1 cc
primary_at_spelled place.Start x deep text h k Inner = absurd cc
primary_at_spelled (place.InName name) x deep text h k Inner = absurd cc
primary_at_spelled place.AfterEquals x deep text h k Inner = absurd cc
primary_at_spelled (place.InPattern bracketed pattern) x deep text h k Inner = absurd cc
primary_at_spelled (place.InPath path) x deep text h k Inner = absurd cc
primary_at_spelled (place.AfterPathPattern pattern trees) x deep text h k Inner = absurd cc
