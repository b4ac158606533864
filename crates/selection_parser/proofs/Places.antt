-- A primary's own bytes, one after another.
use Rattle.std.proofs.Common.{◌≡◌, ℕ, ◌+◌, ◌-◌, ◌*◌, ◌≤◌, ◌==◌, Bool, true, false, List, [], ◌∷◌, ◌++◌, length, take, Option, Some, None, refl, sym, ◌∙◌}
use Rattle.std.proofs.Common.{ap, subst, inl, inr, append_assoc, append-nil, arith, zero-add}
use Rattle.std.specs.Prelude.{not, nat_lt, codes}
use Rattle.std.specs.List.{list_all}
use Rattle.std.proofs.lemmas.Bool.{and_parts, eqb-true, not-true, cases_Bool}
use Rattle.std.proofs.lemmas.Bool.Decides.{nat_tests}
use Rattle.std.proofs.lemmas.Grind.{common_steps}
use Rattle.plain_model.specs.Numbers.{is_digit, value_after}
use Rattle.plain_model.specs.Paths.{Bytes}
use Rattle.selection_parser.specs.declared.kind.KindSet.{KindSet}
use Rattle.selection_parser.specs.declared.field.FieldSet.{FieldSet}
use Rattle.selection_parser.specs.declared.item.Item.{Item}
use Rattle.selection_parser.specs.declared.item.Item.TheVariants.{One, Span}
use Rattle.selection_parser.specs.declared.item.Spot.{Spot}
use Rattle.selection_parser.specs.declared.item.Spot.TheVariants.{Number, Marked, Last, Named}
use Rattle.selection_parser.specs.declared.place.Place.{Place}
use Rattle.selection_parser.specs.declared.place.Place.TheVariants as place
use Rattle.selection_parser.specs.declared.place.SpotPlace.{SpotPlace}
use Rattle.selection_parser.specs.declared.place.SpotPlace.TheVariants as spot
use Rattle.selection_parser.specs.Plain.PlainSelection.{Listed}
use Rattle.selection_parser.specs.Spelling.{SpellsFrom, SpellsNumber, SpellsSpot, SpellsItem, IsWithout, Adds, with_kind, with_field, escaped}
use Rattle.selection_parser.specs.Spelling.{ends_in_backslash}
use Rattle.selection_parser.specs.Reading.{reader_at as at, placed, spot_begun, item_of, number_spot, in_spot, after_spot, in_pattern, in_path, inside}
use Rattle.selection_parser.specs.Reading.{primary_at, nesting, step, Parts, Frame}
use Rattle.selection_parser.specs.Reading.State.{Inside}
use Rattle.selection_parser.specs.Reading.Next.{Goes}
use Rattle.selection_parser.proofs.Runs.{run, run_goes, run_joined}

-- the bytes lead from one place to another of the same primary, whatever is around it
abbrev pub Leads : Place → Bytes → Place → Type 0
Leads p text q = (parts : Parts) (frames : List Frame) → run (at p parts frames) text ≡ Some (at q parts frames)

-- nothing nests at this place and byte
abbrev pub NestsNone : Place → ℕ → Type 0
NestsNone p b = (parts : Parts) (frames : List Frame) → nesting (Inside p) parts frames b ≡ None

pub step_inside : (p q : Place) (b : ℕ) → NestsNone p b → inside p b ≡ Some q → (parts : Parts) (frames : List Frame)
    → step (at p parts frames) b ≡ Goes (at q parts frames)
unfolding step
step_inside p q b none h parts frames = rw (none parts frames, h) refl

pub leads_on : (p q z : Place) (b : ℕ) (text : Bytes) → NestsNone p b → inside p b ≡ Some q → Leads q text z → Leads p (b ∷ text) z
leads_on p q z b text none h rest parts frames =
    run_goes (at p parts frames) (at q parts frames) b text (step_inside p q b none h parts frames) ∙ rest parts frames

pub leads_joined : (p q z : Place) (x y : Bytes) → Leads p x q → Leads q y z → Leads p (x ++ y) z
leads_joined p q z x y h k parts frames =
    run_joined (at p parts frames) (at q parts frames) (at z parts frames) x y (h parts frames) (k parts frames)

pub push_append : (xs ys : Bytes) (b : ℕ) → (xs ++ b ∷ []) ++ ys ≡ xs ++ b ∷ ys
push_append xs ys b = append_assoc xs (b ∷ []) ys

-- ---- kinds and fields

pub kinds_lead : (letters : Bytes) (set new : KindSet) → Adds with_kind set letters new → Leads (place.InKinds set) letters (place.InKinds new)
unfolding inside nesting
kinds_lead [] set new h = λ parts frames. ap (λ s. Some (at (place.InKinds s) parts frames)) h
kinds_lead (b ∷ letters) set new h =
    leads_on (place.InKinds set) (place.InKinds h.0) (place.InKinds new) b letters (λ parts frames. refl)
    (ap (placed place.InKinds) h.1) (kinds_lead letters h.0 new h.2)

pub fields_lead : (letters pattern : Bytes) (set new : FieldSet) → Adds with_field set letters new
    → Leads (place.InFields pattern set) letters (place.InFields pattern new)
unfolding inside nesting
fields_lead [] pattern set new h = λ parts frames. ap (λ s. Some (at (place.InFields pattern s) parts frames)) h
fields_lead (b ∷ letters) pattern set new h =
    leads_on (place.InFields pattern set) (place.InFields pattern h.0) (place.InFields pattern new) b letters (λ parts frames. refl)
    (ap (placed (place.InFields pattern)) h.1) (fields_lead letters pattern h.0 new h.2)

-- ---- patterns

pub ends_in_backslash_push : (xs : Bytes) (b : ℕ) → ends_in_backslash (xs ++ b ∷ []) ≡ (b == 92)
ends_in_backslash_push [] b = refl
ends_in_backslash_push (x ∷ []) b = refl
ends_in_backslash_push (x ∷ y ∷ xs) b = ends_in_backslash_push (y ∷ xs) b

pub take_push : (xs : Bytes) (b : ℕ) → take (length (xs ++ b ∷ []) - 1) (xs ++ b ∷ []) ≡ xs
take_push xs b = grind (arith, common_steps)

in_pattern_other : (bracketed : Bool) (so_far : Bytes) (b : ℕ) → (b == 47) ≡ false
    → in_pattern bracketed so_far b ≡ Some (place.InPattern bracketed (so_far ++ b ∷ []))
unfolding in_pattern
in_pattern_other bracketed so_far b h = rw h refl

in_pattern_slash : (bracketed : Bool) (so_far : Bytes)
    → in_pattern bracketed (so_far ++ 92 ∷ []) 47 ≡ Some (place.InPattern bracketed (so_far ++ 47 ∷ []))
unfolding in_pattern
in_pattern_slash bracketed so_far = rw (ends_in_backslash_push so_far 92, take_push so_far 92) refl

pub pattern_leads : (pattern so_far : Bytes) (bracketed : Bool)
    → Leads (place.InPattern bracketed so_far) (escaped pattern) (place.InPattern bracketed (so_far ++ pattern))
unfolding inside nesting
pattern_leads [] so_far bracketed = λ parts frames. ap (λ p. Some (at (place.InPattern bracketed p) parts frames)) (sym (append-nil so_far))
pattern_leads (b ∷ bs) so_far bracketed =
    let ih : Leads (place.InPattern bracketed (so_far ++ b ∷ [])) (escaped bs) (place.InPattern bracketed (so_far ++ b ∷ bs)) =
    subst (λ z. Leads (place.InPattern bracketed (so_far ++ b ∷ [])) (escaped bs) (place.InPattern bracketed z))
    (push_append so_far bs b) (pattern_leads bs (so_far ++ b ∷ []) bracketed) in
    elim (cases_Bool (b == 47)) [
      | inl slash ↦
          let is : b ≡ 47 = eqb-true b 47 slash in
          let from : Leads (place.InPattern bracketed (so_far ++ 47 ∷ [])) (escaped bs) (place.InPattern bracketed (so_far ++ b ∷ bs)) =
          subst (λ c. Leads (place.InPattern bracketed (so_far ++ c ∷ [])) (escaped bs) (place.InPattern bracketed (so_far ++ b ∷ bs))) is ih in
          rw slash
          (leads_on (place.InPattern bracketed so_far) (place.InPattern bracketed (so_far ++ 92 ∷ [])) (place.InPattern bracketed (so_far ++ b ∷ bs))
          92 (47 ∷ escaped bs) (λ parts frames. refl) (in_pattern_other bracketed so_far 92 refl)
          (leads_on (place.InPattern bracketed (so_far ++ 92 ∷ [])) (place.InPattern bracketed (so_far ++ 47 ∷ []))
          (place.InPattern bracketed (so_far ++ b ∷ bs))
          47 (escaped bs) (λ parts frames. refl) (in_pattern_slash bracketed so_far) from))
      | inr other ↦
          rw other
          (leads_on (place.InPattern bracketed so_far) (place.InPattern bracketed (so_far ++ b ∷ [])) (place.InPattern bracketed (so_far ++ b ∷ bs))
          b (escaped bs) (λ parts frames. refl) (in_pattern_other bracketed so_far b other) ih)
    ]

-- ---- paths

pub path_leads : (path so_far : Bytes) (c : ℕ) → list_all (λ b. not (b == 93)) path ≡ true
    → Leads (place.InPath (c ∷ so_far)) path (place.InPath ((c ∷ so_far) ++ path))
unfolding inside nesting in_path
path_leads [] so_far c h = λ parts frames. ap (λ p. Some (at (place.InPath p) parts frames)) (sym (append-nil (c ∷ so_far)))
path_leads (b ∷ bs) so_far c h =
    let p = and_parts (not (b == 93)) (list_all (λ d. not (d == 93)) bs) h in
    leads_on (place.InPath (c ∷ so_far)) (place.InPath ((c ∷ so_far) ++ b ∷ [])) (place.InPath ((c ∷ so_far) ++ b ∷ bs)) b bs
    (λ parts frames. refl) (rw (not-true (b == 93) p.0) refl)
    (subst (λ z. Leads (place.InPath ((c ∷ so_far) ++ b ∷ [])) bs (place.InPath z)) (push_append (c ∷ so_far) bs b)
    (path_leads bs (so_far ++ b ∷ []) c p.1))

-- ---- spots

pub text_leads : (name so_far : Bytes) (before : List Item) (start : Option Spot) → list_all (λ b. not (b == 62)) name ≡ true
    → Leads (place.InItems before start (spot.InText so_far)) name (place.InItems before start (spot.InText (so_far ++ name)))
unfolding inside nesting in_spot
text_leads [] so_far before start h =
    λ parts frames. ap (λ p. Some (at (place.InItems before start (spot.InText p)) parts frames)) (sym (append-nil so_far))
text_leads (b ∷ bs) so_far before start h =
    let p = and_parts (not (b == 62)) (list_all (λ d. not (d == 62)) bs) h in
    leads_on (place.InItems before start (spot.InText so_far)) (place.InItems before start (spot.InText (so_far ++ b ∷ [])))
    (place.InItems before start (spot.InText (so_far ++ b ∷ bs))) b bs
    (λ parts frames. refl) (rw (not-true (b == 62) p.0) refl)
    (subst (λ z. Leads (place.InItems before start (spot.InText (so_far ++ b ∷ []))) bs (place.InItems before start (spot.InText z)))
    (push_append so_far bs b) (text_leads bs (so_far ++ b ∷ []) before start p.1))

in_digits : (before : List Item) (start : Option Spot) (marked : Bool) (n count d : ℕ) → is_digit d ≡ true → count + 1 ≤ 19
    → in_spot before start (spot.Digits marked (n, count)) d
    ≡ Some (place.InItems before start (spot.Digits marked (10 * n + (d - 48), count + 1)))
unfolding in_spot
in_digits before start marked n count d h few =
    let below : nat_lt count 19 ≡ true = grind (arith, nat_tests) in
    rw (h, below) refl

pub digits_lead : (ds : Bytes) (before : List Item) (start : Option Spot) (marked : Bool) (n count : ℕ)
    → list_all is_digit ds ≡ true → count + length ds ≤ 19
    → (c : ℕ) × Leads (place.InItems before start (spot.Digits marked (n, count))) ds
    (place.InItems before start (spot.Digits marked (value_after n ds, c)))
unfolding inside nesting
digits_lead [] before start marked n count h few = (count, λ parts frames. refl)
digits_lead (d ∷ ds) before start marked n count h few =
    let p = and_parts (is_digit d) (list_all is_digit ds) h in
    let ih = digits_lead ds before start marked (10 * n + (d - 48)) (count + 1) p.1 (omega arith) in (
      ih.0,
      leads_on (place.InItems before start (spot.Digits marked (n, count)))
          (place.InItems before start (spot.Digits marked (10 * n + (d - 48), count + 1)))
          (place.InItems before start (spot.Digits marked (value_after (10 * n + (d - 48)) ds, ih.0))) d ds
          (λ parts frames. refl) (in_digits before start marked n count d p.0 (omega arith)) ih.1,
    )

-- a spot is there, which digits may go on with
abbrev pub MayEnd : SpotPlace → Spot → Type 0
MayEnd (spot.Digits marked (n, count)) s = number_spot marked n ≡ s
MayEnd (spot.After t) s = t ≡ s
MayEnd spot.Start s = ⊥
MayEnd spot.AfterColon s = ⊥
MayEnd (spot.InText text) s = ⊥
MayEnd (spot.AfterDot t) s = ⊥

-- the spot is read, from its first byte on
abbrev pub SpotLeads : Bytes → Spot → List Item → Option Spot → Type 0
SpotLeads text s before start =
    (a : SpotPlace) × MayEnd a s × Leads (place.InItems before start spot.Start) text (place.InItems before start a)

leading_digit : (before : List Item) (start : Option Spot) (marked : Bool) (from : SpotPlace) (d n : ℕ) (ds : Bytes)
    → in_spot before start from d ≡ Some (place.InItems before start (spot.Digits marked (d - 48, 1)))
    → SpellsNumber (d ∷ ds) n
    → (a : SpotPlace) × MayEnd a (number_spot marked n) × Leads (place.InItems before start from) (d ∷ ds) (place.InItems before start a)
unfolding inside nesting
leading_digit before start marked from d n ds step h =
    let p = and_parts (is_digit d) (list_all is_digit ds) h.numeral.all in
    let few = h.few in
    let rest = digits_lead ds before start marked (d - 48) 1 p.1 (omega arith) in
    let value : value_after (d - 48) ds ≡ n = ap (λ k. value_after k ds) (sym (zero-add (d - 48))) ∙ h.numeral.value in (
      spot.Digits marked (value_after (d - 48) ds, rest.0),
      ap (number_spot marked) value,
      leads_on (place.InItems before start from) (place.InItems before start (spot.Digits marked (d - 48, 1)))
          (place.InItems before start (spot.Digits marked (value_after (d - 48) ds, rest.0))) d ds (λ parts frames. refl) step rest.1,
    )

start_digit : (before : List Item) (start : Option Spot) (d : ℕ) → is_digit d ≡ true
    → in_spot before start spot.Start d ≡ Some (place.InItems before start (spot.Digits false (d - 48, 1)))
unfolding in_spot spot_begun
start_digit before start d h = rw h refl

mark_digit : (before : List Item) (start : Option Spot) (d : ℕ) → is_digit d ≡ true
    → in_spot before start spot.AfterColon d ≡ Some (place.InItems before start (spot.Digits true (d - 48, 1)))
unfolding in_spot
mark_digit before start d h = rw h refl

number_leads : (text : Bytes) (n : ℕ) (before : List Item) (start : Option Spot) → SpellsNumber text n → SpotLeads text (Number n) before start
number_leads [] n before start h = let some = h.numeral.some in absurd (omega arith)
number_leads (d ∷ ds) n before start h =
    let p = and_parts (is_digit d) (list_all is_digit ds) h.numeral.all in
    leading_digit before start false spot.Start d n ds (start_digit before start d p.0) h

marked_leads : (digits : Bytes) (n : ℕ) (before : List Item) (start : Option Spot) → SpellsNumber digits n
    → SpotLeads (58 ∷ digits) (Marked n) before start
unfolding inside nesting in_spot spot_begun
marked_leads [] n before start h = let some = h.numeral.some in absurd (omega arith)
marked_leads (d ∷ ds) n before start h =
    let p = and_parts (is_digit d) (list_all is_digit ds) h.numeral.all in
    let rest = leading_digit before start true spot.AfterColon d n ds (mark_digit before start d p.0) h in (
      rest.0,
      rest.1,
      leads_on (place.InItems before start spot.Start) (place.InItems before start spot.AfterColon)
          (place.InItems before start rest.0) 58 (d ∷ ds) (λ parts frames. refl) refl rest.2,
    )

named_ends : (name : Bytes) (before : List Item) (start : Option Spot) → 1 ≤ length name
    → in_spot before start (spot.InText name) 62 ≡ Some (place.InItems before start (spot.After (Named name)))
unfolding in_spot
named_ends [] before start h = absurd (omega arith)
named_ends (b ∷ bs) before start h = refl

named_leads : (name : Bytes) (before : List Item) (start : Option Spot) → IsWithout 62 name
    → SpotLeads (60 ∷ name ++ 62 ∷ []) (Named name) before start
unfolding inside nesting in_spot spot_begun
named_leads name before start h = (
  spot.After (Named name),
  refl,
  leads_on (place.InItems before start spot.Start) (place.InItems before start (spot.InText []))
      (place.InItems before start (spot.After (Named name))) 60 (name ++ 62 ∷ []) (λ parts frames. refl) refl
      (leads_joined (place.InItems before start (spot.InText [])) (place.InItems before start (spot.InText name))
      (place.InItems before start (spot.After (Named name))) name (62 ∷ [])
      (text_leads name [] before start h.without)
      (leads_on (place.InItems before start (spot.InText name)) (place.InItems before start (spot.After (Named name)))
      (place.InItems before start (spot.After (Named name))) 62 [] (λ parts frames. refl)
      (named_ends name before start h.some) (λ parts frames. refl))),
)

last_leads : (before : List Item) (start : Option Spot) → SpotLeads (36 ∷ []) Last before start
unfolding inside nesting in_spot spot_begun
last_leads before start = (
  spot.After Last,
  refl,
  leads_on (place.InItems before start spot.Start) (place.InItems before start (spot.After Last))
      (place.InItems before start (spot.After Last)) 36 [] (λ parts frames. refl) refl (λ parts frames. refl),
)

pub spot_leads : (text : Bytes) (s : Spot) (before : List Item) (start : Option Spot) → SpellsSpot text s → SpotLeads text s before start
spot_leads text (Number n) before start h = number_leads text n before start h
spot_leads text (Marked n) before start h =
    subst (λ t. SpotLeads t (Marked n) before start) (sym h.2) (marked_leads h.0 n before start h.1)
spot_leads text Last before start h = subst (λ t. SpotLeads t Last before start) (sym h) (last_leads before start)
spot_leads text (Named name) before start h =
    subst (λ t. SpotLeads t (Named name) before start) (sym h.1) (named_leads name before start h.0)

-- ---- items

-- after a spot, a byte that is no digit
pub after_last_spot : (a : SpotPlace) (s : Spot) (before : List Item) (start : Option Spot) (b : ℕ) → MayEnd a s → is_digit b ≡ false
    → in_spot before start a b ≡ after_spot before start s b
unfolding in_spot
after_last_spot (spot.Digits marked (n, count)) s before start b h c = rw c (ap (λ t. after_spot before start t b) h)
after_last_spot (spot.After t) s before start b h c = ap (λ t. after_spot before start t b) h
after_last_spot spot.Start s before start b h c = absurd h
after_last_spot spot.AfterColon s before start b h c = absurd h
after_last_spot (spot.InText text) s before start b h c = absurd h
after_last_spot (spot.AfterDot t) s before start b h c = absurd h

-- the item is read, up to its last spot
abbrev pub ItemLeads : Bytes → Item → List Item → Type 0
ItemLeads text item before =
    (start : Option Spot) × (s : Spot) × (a : SpotPlace) × MayEnd a s × (item_of start s ≡ item)
    × Leads (place.InItems before None spot.Start) text (place.InItems before start a)

span_leads : (left right : Bytes) (l r : Spot) (before : List Item) → SpellsSpot left l → SpellsSpot right r
    → ItemLeads (left ++ 46 ∷ 46 ∷ right) (Span l r) before
unfolding inside nesting in_spot after_spot
span_leads left right l r before h k =
    let one = spot_leads left l before None h in
    let two = spot_leads right r before (Some l) k in (
      Some l,
      r,
      two.0,
      two.1,
      refl,
      leads_joined (place.InItems before None spot.Start) (place.InItems before None one.0) (place.InItems before (Some l) two.0)
          left (46 ∷ 46 ∷ right) one.2
          (leads_on (place.InItems before None one.0) (place.InItems before None (spot.AfterDot l)) (place.InItems before (Some l) two.0)
          46 (46 ∷ right) (λ parts frames. refl) (after_last_spot one.0 l before None 46 one.1 refl)
          (leads_on (place.InItems before None (spot.AfterDot l)) (place.InItems before (Some l) spot.Start) (place.InItems before (Some l) two.0)
          46 right (λ parts frames. refl) refl two.2)),
    )

pub item_leads : (text : Bytes) (item : Item) (before : List Item) → SpellsItem text item → ItemLeads text item before
item_leads text (One s) before h = let one = spot_leads text s before None h in (None, s, one.0, one.1, refl, one.2)
item_leads text (Span l r) before h =
    subst (λ t. ItemLeads t (Span l r) before) (sym (h.4 ∙ append_assoc h.0 (codes "..") h.1)) (span_leads h.0 h.1 l r before h.2 h.3)

-- the items are read, up to the last spot
abbrev pub ItemsLead : Bytes → List Item → List Item → Type 0
ItemsLead text list before =
    (q : Place) × (primary_at q ≡ Some (Listed (before ++ list))) × Leads (place.InItems before None spot.Start) text q

primary_at_spot : (before : List Item) (start : Option Spot) (a : SpotPlace) (s : Spot) (x : Item) → MayEnd a s → item_of start s ≡ x
    → primary_at (place.InItems before start a) ≡ Some (Listed (before ++ x ∷ []))
primary_at_spot before start (spot.Digits marked (n, count)) s x h e = ap (λ t. Some (Listed (before ++ item_of start t ∷ []))) h
    ∙ ap (λ y. Some (Listed (before ++ y ∷ []))) e
primary_at_spot before start (spot.After t) s x h e = ap (λ t. Some (Listed (before ++ item_of start t ∷ []))) h ∙ ap (λ y. Some (Listed (before ++ y ∷ []))) e
primary_at_spot before start spot.Start s x h e = absurd h
primary_at_spot before start spot.AfterColon s x h e = absurd h
primary_at_spot before start (spot.InText text) s x h e = absurd h
primary_at_spot before start (spot.AfterDot t) s x h e = absurd h

items_push : (before list : List Item) (x : Item) → (before ++ x ∷ []) ++ list ≡ before ++ x ∷ list
items_push before list x = append_assoc before (x ∷ []) list

pub items_lead : (xs : List Item) (x : Item) (text : Bytes) (before : List Item) → SpellsFrom 44 SpellsItem x xs text
    → ItemsLead text (x ∷ xs) before
unfolding inside nesting after_spot
items_lead [] x text before h =
    let one = item_leads text x before h in
    (place.InItems before one.0 one.2, primary_at_spot before one.0 one.2 one.1 x one.3 one.4, one.5)
items_lead (y ∷ ys) x text before h =
    let one = item_leads h.0 x before h.2 in
    let rest = items_lead ys y h.1 (before ++ x ∷ []) h.3 in
    let comma : inside (place.InItems before one.0 one.2) 44 ≡ Some (place.InItems (before ++ x ∷ []) None spot.Start) =
    after_last_spot one.2 one.1 before one.0 44 one.3 refl
    ∙ ap (λ i. Some (place.InItems (before ++ i ∷ []) None spot.Start)) one.4 in (
      rest.0,
      rest.1 ∙ ap (λ l. Some (Listed l)) (items_push before (y ∷ ys) x),
      subst (λ t. Leads (place.InItems before None spot.Start) t rest.0) (sym h.4)
          (leads_joined (place.InItems before None spot.Start) (place.InItems before one.0 one.2) rest.0 h.0 (44 ∷ h.1) one.5
          (leads_on (place.InItems before one.0 one.2) (place.InItems (before ++ x ∷ []) None spot.Start) rest.0 44 h.1
          (λ parts frames. refl) comma rest.2)),
    )
