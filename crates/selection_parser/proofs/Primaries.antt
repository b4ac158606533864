-- A primary that is spelled is read.
use Rattle.std.proofs.Common.{◌≡◌, ℕ, ◌==◌, Bool, true, false, List, [], ◌∷◌, ◌++◌, Option, Some, None, cond, refl, sym, ◌∙◌, ap, subst, inl, inr}
use Rattle.std.proofs.Common.{append_assoc, arith}
use Rattle.std.specs.Prelude.{not, codes}
use Rattle.std.specs.List.{list_all}
use Rattle.std.proofs.lemmas.Bool.{and_parts, eqb-true, not-true, cases_Bool}
use Rattle.plain_model.specs.Paths.{Bytes}
use Rattle.selection_parser.specs.declared.kind.KindSet.{KindSet}
use Rattle.selection_parser.specs.declared.field.FieldSet.{FieldSet}
use Rattle.selection_parser.specs.declared.function.Function.{Function}
use Rattle.selection_parser.specs.declared.function.Function.TheVariants as function
use Rattle.selection_parser.specs.declared.item.Item.{Item}
use Rattle.selection_parser.specs.declared.place.Place.{Place}
use Rattle.selection_parser.specs.declared.place.Place.TheVariants as place
use Rattle.selection_parser.specs.declared.place.SpotPlace.{SpotPlace}
use Rattle.selection_parser.specs.declared.place.SpotPlace.TheVariants as spot
use Rattle.selection_parser.specs.Plain.{PlainSelection, near}
use Rattle.selection_parser.specs.Plain.PlainSelection.{Listed, Call}
use Rattle.selection_parser.specs.Spelling.{SpellsEach, SpellsItem, SpellsPrimary, IsWithout, Adds, with_kind, with_field, no_kinds, no_fields, escaped}
use Rattle.selection_parser.specs.Spelling.{IsPattern, BeginsPath, whole_mark, name_of}
use Rattle.selection_parser.specs.Spelling.SpellsPrimary.{group, call, kinds, search, at_path, at_pattern, items}
use Rattle.selection_parser.specs.Reading.{reader_at as at, placed, spot_begun, in_spot, in_pattern, in_path, after_path_pattern, begins_name, function_of}
use Rattle.selection_parser.specs.Reading.{inside, primary_at, near_at, nesting, or_after, negated, around, closed, whole, called, no_parts, before_term}
use Rattle.selection_parser.specs.Reading.{has_room, step, State, Parts, Frame, Reader}
use Rattle.selection_parser.specs.Reading.State.{Inside, After}
use Rattle.selection_parser.specs.Reading.Frame.{Opened}
use Rattle.selection_parser.specs.Reading.Next.{Goes, Stops}
use Rattle.selection_parser.specs.Reading.{after_term}
use Rattle.selection_parser.proofs.Runs.{gone, onto, run, run_goes, run_joined, run_push}
use Rattle.selection_parser.proofs.Closing.{closes_parenthesis, step_closed}
use Rattle.selection_parser.proofs.Places.{Leads, leads_on, leads_joined, kinds_lead, fields_lead, pattern_leads, path_leads, items_lead}

-- ---- items, where a primary begins

not_begun : (b c : ℕ) (p : SpotPlace) → spot_begun b ≡ Some p → spot_begun c ≡ None → (b == c) ≡ false
not_begun b c p h none =
    elim (cases_Bool (b == c)) [
      | inl same ↦ absurd (let wrong : spot_begun b ≡ None = ap spot_begun (eqb-true b c same) ∙ none in cc)
      | inr other ↦ other
    ]

begun_alike : (b : ℕ) (p : SpotPlace) → spot_begun b ≡ Some p → (parts : Parts) (frames : List Frame)
    → step (at place.Start parts frames) b ≡ Goes (at (place.InItems [] None p) parts frames)
unfolding step nesting inside spot_begun
begun_alike b p h parts frames =
    let n126 = not_begun b 126 p h refl in
    let n40 = not_begun b 40 p h refl in
    let n64 = not_begun b 64 p h refl in
    let n61 = not_begun b 61 p h refl in
    let n47 = not_begun b 47 p h refl in
    let n91 = not_begun b 91 p h refl in
    rw (n126, n40, n64, n61, n47, n91) (ap (λ q. or_after (placed (place.InItems [] None) q) (Inside place.Start) parts frames b) h)

items_alike : (b : ℕ) (p : SpotPlace) → spot_begun b ≡ Some p → (parts : Parts) (frames : List Frame)
    → step (at (place.InItems [] None spot.Start) parts frames) b ≡ Goes (at (place.InItems [] None p) parts frames)
unfolding step nesting inside in_spot
items_alike b p h parts frames =
    ap (λ q. or_after (placed (place.InItems [] None) q) (Inside (place.InItems [] None spot.Start)) parts frames b) h

items_stop : (b : ℕ) → spot_begun b ≡ None → (parts : Parts) (frames : List Frame)
    → step (at (place.InItems [] None spot.Start) parts frames) b ≡ Stops
unfolding step nesting inside in_spot
items_stop b h parts frames =
    ap (λ q. or_after (placed (place.InItems [] None) q) (Inside (place.InItems [] None spot.Start)) parts frames b) h

items_from_start : (b : ℕ) (bs : Bytes) (q : Place) → Leads (place.InItems [] None spot.Start) (b ∷ bs) q → Leads place.Start (b ∷ bs) q
items_from_start b bs q h parts frames = go (spot_begun b) refl
  where
    go : (o : Option SpotPlace) → spot_begun b ≡ o → run (at place.Start parts frames) (b ∷ bs) ≡ Some (at q parts frames)
    go (Some p) e =
        run_goes (at place.Start parts frames) (at (place.InItems [] None p) parts frames) b bs (begun_alike b p e parts frames)
        ∙ sym (run_goes (at (place.InItems [] None spot.Start) parts frames) (at (place.InItems [] None p) parts frames) b bs (items_alike b p e parts frames))
        ∙ h parts frames
    go None e =
        absurd (let wrong : None ≡ Some (at q parts frames) =
        sym (ap (λ s. onto (gone s) (λ n. run n bs)) (items_stop b e parts frames)) ∙ h parts frames in cc)

-- ---- primaries

-- a run leads to the end of a primary, and all else is as it was
abbrev pub ComesTo : Bytes → PlainSelection → Parts → List Frame → Type 0
ComesTo text x parts frames =
    (s : State) × (near_at s ≡ Some (0, x)) × (run (before_term parts frames) text ≡ Some (record { state = s; parts = parts; frames = frames }))

place_comes : (text : Bytes) (x : PlainSelection) (q : Place) → primary_at q ≡ Some x → Leads place.Start text q
    → (parts : Parts) (frames : List Frame) → ComesTo text x parts frames
place_comes text x q h k parts frames = (Inside q, ap (placed (λ y. (0, y))) h, k parts frames)

kinds_come : (b : ℕ) (letters : Bytes) (set : KindSet) → Adds with_kind no_kinds (b ∷ letters) set
    → Leads place.Start (61 ∷ b ∷ letters) (place.InKinds set)
unfolding inside nesting
kinds_come b letters set h =
    leads_on place.Start place.AfterEquals (place.InKinds set) 61 (b ∷ letters) (λ parts frames. refl) refl
    (leads_on place.AfterEquals (place.InKinds h.0) (place.InKinds set) b letters (λ parts frames. refl)
    (ap (placed place.InKinds) h.1) (kinds_lead letters h.0 set h.2))

pattern_ends : (bracketed : Bool) (pattern : Bytes) → IsPattern pattern
    → in_pattern bracketed pattern 47 ≡ cond bracketed (Some (place.AfterPathPattern pattern false)) (Some (place.InFields pattern no_fields))
unfolding in_pattern
pattern_ends bracketed [] h = let some = h.some in absurd (omega arith)
pattern_ends bracketed (b ∷ bs) h = rw h.ends refl

search_comes : (pattern letters : Bytes) (fields : FieldSet) → IsPattern pattern → Adds with_field no_fields letters fields
    → Leads place.Start (47 ∷ escaped pattern ++ 47 ∷ letters) (place.InFields pattern fields)
unfolding inside nesting
search_comes pattern letters fields h k =
    leads_on place.Start (place.InPattern false []) (place.InFields pattern fields) 47 (escaped pattern ++ 47 ∷ letters) (λ parts frames. refl) refl
    (leads_joined (place.InPattern false []) (place.InPattern false pattern) (place.InFields pattern fields) (escaped pattern) (47 ∷ letters)
    (pattern_leads pattern [] false)
    (leads_on (place.InPattern false pattern) (place.InFields pattern no_fields) (place.InFields pattern fields) 47 letters
    (λ parts frames. refl) (pattern_ends false pattern h) (fields_lead letters pattern no_fields fields k)))

path_begins : (b : ℕ) → (b == 47) ≡ false → (b == 93) ≡ false → in_path [] b ≡ Some (place.InPath (b ∷ []))
unfolding in_path
path_begins b h k = rw (h, k) refl

path_comes : (path : Bytes) → BeginsPath path → IsWithout 93 path → Leads place.Start (91 ∷ path ++ 93 ∷ []) (place.AfterPath path)
unfolding inside nesting in_path
path_comes [] h k = absurd h
path_comes (b ∷ bs) h k =
    let p = and_parts (not (b == 93)) (list_all (λ d. not (d == 93)) bs) k.without in
    leads_on place.Start (place.InPath []) (place.AfterPath (b ∷ bs)) 91 (b ∷ bs ++ 93 ∷ []) (λ parts frames. refl) refl
    (leads_on (place.InPath []) (place.InPath (b ∷ [])) (place.AfterPath (b ∷ bs)) b (bs ++ 93 ∷ []) (λ parts frames. refl)
    (path_begins b h (not-true (b == 93) p.0))
    (leads_joined (place.InPath (b ∷ [])) (place.InPath (b ∷ bs)) (place.AfterPath (b ∷ bs)) bs (93 ∷ [])
    (path_leads bs [] b p.1)
    (leads_on (place.InPath (b ∷ bs)) (place.AfterPath (b ∷ bs)) (place.AfterPath (b ∷ bs)) 93 [] (λ parts frames. refl) refl (λ parts frames. refl))))

pattern_closes : (pattern : Bytes) (whole : Bool)
    → Leads (place.AfterPathPattern pattern false) (whole_mark whole ++ 93 ∷ []) (place.AfterBracket pattern whole)
unfolding inside nesting after_path_pattern
pattern_closes pattern false =
    leads_on (place.AfterPathPattern pattern false) (place.AfterBracket pattern false) (place.AfterBracket pattern false) 93 [] (λ parts frames. refl) refl
    (λ parts frames. refl)
pattern_closes pattern true =
    leads_on (place.AfterPathPattern pattern false) (place.AfterPathPattern pattern true) (place.AfterBracket pattern true) 99 (93 ∷ [])
    (λ parts frames. refl) refl
    (leads_on (place.AfterPathPattern pattern true) (place.AfterBracket pattern true) (place.AfterBracket pattern true) 93 [] (λ parts frames. refl) refl
    (λ parts frames. refl))

at_pattern_comes : (pattern : Bytes) (whole : Bool) → IsPattern pattern
    → Leads place.Start (91 ∷ 47 ∷ escaped pattern ++ (47 ∷ whole_mark whole ++ 93 ∷ [])) (place.AfterBracket pattern whole)
unfolding inside nesting in_path
at_pattern_comes pattern whole h =
    leads_on place.Start (place.InPath []) (place.AfterBracket pattern whole) 91 (47 ∷ escaped pattern ++ (47 ∷ whole_mark whole ++ 93 ∷ []))
    (λ parts frames. refl) refl
    (leads_on (place.InPath []) (place.InPattern true []) (place.AfterBracket pattern whole) 47 (escaped pattern ++ (47 ∷ whole_mark whole ++ 93 ∷ []))
    (λ parts frames. refl) refl
    (leads_joined (place.InPattern true []) (place.InPattern true pattern) (place.AfterBracket pattern whole) (escaped pattern)
    (47 ∷ whole_mark whole ++ 93 ∷ [])
    (pattern_leads pattern [] true)
    (leads_on (place.InPattern true pattern) (place.AfterPathPattern pattern false) (place.AfterBracket pattern whole) 47 (whole_mark whole ++ 93 ∷ [])
    (λ parts frames. refl) (pattern_ends true pattern h) (pattern_closes pattern whole))))

-- the place of a reader in a primary
abbrev place_or : Option Reader → Place
place_or None = place.Start
place_or (Some r) = state_place r.state
  where
    state_place : State → Place
    state_place (Inside p) = p
    state_place (After times x) = place.Start

items_come : (list : List Item) (text : Bytes) → SpellsEach 44 SpellsItem list text
    → (q : Place) × (primary_at q ≡ Some (Listed list)) × Leads place.Start text q
items_come [] text h = absurd h
items_come (x ∷ xs) [] h =
    let run = items_lead xs x [] [] h in
    absurd (let same : place.InItems [] None spot.Start ≡ run.0 = (ap place_or (run.2 no_parts [])) in
    let wrong : None ≡ Some (Listed (x ∷ xs)) = ap primary_at same ∙ run.1 in cc)
items_come (x ∷ xs) (b ∷ bs) h =
    let run = items_lead xs x (b ∷ bs) [] h in
    (run.0, run.1, items_from_start b bs run.0 run.2)

-- ---- parentheses

-- The reader is after a selection that a closing parenthesis or a blank may follow.
pub record IsReady (r : Reader) (frames : List Frame) (x : PlainSelection) : Type 0 where
  pub times : ℕ
  pub last : PlainSelection
  pub is_near : near_at r.state ≡ Some (times, last)
  pub is_around : around r.frames ≡ frames
  pub value : whole (negated (near times last) r.frames) r.parts ≡ x

-- what is in parentheses is read
abbrev pub Reads : (Bytes → PlainSelection → Type 0) → List Frame → Type 0
Reads Inner frames = (text : Bytes) (x : PlainSelection) → Inner text x → (f : Option Function) (parts : Parts)
    → (has_room frames ≡ true)
    × ((r : Reader) × IsReady r (Opened f parts ∷ frames) x × (run (before_term no_parts (Opened f parts ∷ frames)) text ≡ Some r))

parenthesis_closes : (r : Reader) (f : Option Function) (parts : Parts) (frames : List Frame) (x : PlainSelection)
    → IsReady r (Opened f parts ∷ frames) x
    → step r 41 ≡ Goes (record { state = After 0 (called f x); parts = parts; frames = frames })
unfolding after_term
parenthesis_closes r f parts frames x h =
    step_closed r (h.times, h.last) h.is_near 41 closes_parenthesis
    ∙ ap (λ fs. closed (negated (near h.times h.last) r.frames) r.parts fs) h.is_around
    ∙ ap (λ y. Goes (record { state = After 0 (called f y); parts = parts; frames = frames })) h.value

group_comes : (inner : Bytes) (x : PlainSelection) (f : Option Function) (parts : Parts) (frames : List Frame) (r : Reader) (opening : Bytes)
    → run (before_term parts frames) opening ≡ Some (before_term no_parts (Opened f parts ∷ frames))
    → IsReady r (Opened f parts ∷ frames) x → run (before_term no_parts (Opened f parts ∷ frames)) inner ≡ Some r
    → run (before_term parts frames) (opening ++ inner ++ 41 ∷ [])
    ≡ Some (record { state = After 0 (called f x); parts = parts; frames = frames })
group_comes inner x f parts frames r opening opens ready inside_run =
    run_push (before_term parts frames) r (record { state = After 0 (called f x); parts = parts; frames = frames }) (opening ++ inner) 41
    (run_joined (before_term parts frames) (before_term no_parts (Opened f parts ∷ frames)) r opening inner opens inside_run)
    (parenthesis_closes r f parts frames x ready)

parenthesis_opens : (parts : Parts) (frames : List Frame) → has_room frames ≡ true
    → run (before_term parts frames) (40 ∷ []) ≡ Some (before_term no_parts (Opened None parts ∷ frames))
unfolding step nesting
parenthesis_opens parts frames h = rw h refl

function_opens : (f : Function) (parts : Parts) (frames : List Frame) → has_room frames ≡ true
    → run (before_term parts frames) (64 ∷ name_of f ++ 40 ∷ []) ≡ Some (before_term no_parts (Opened (Some f) parts ∷ frames))
unfolding step nesting inside begins_name function_of
function_opens function.Min parts frames h = rw h refl
function_opens function.Max parts frames h = rw h refl
function_opens function.Amp parts frames h = rw h refl
function_opens function.Par parts frames h = rw h refl
function_opens function.Chn parts frames h = rw h refl
function_opens function.Dsc parts frames h = rw h refl
function_opens function.Anc parts frames h = rw h refl
function_opens function.Pre parts frames h = rw h refl
function_opens function.Suc parts frames h = rw h refl
function_opens function.Srt parts frames h = rw h refl

-- a primary that is spelled is read
pub primary_comes : (Inner : Bytes → PlainSelection → Type 0) (text : Bytes) (x : PlainSelection) (parts : Parts) (frames : List Frame)
    → Reads Inner frames → SpellsPrimary Inner text x → ComesTo text x parts frames
primary_comes Inner text x parts frames reads (group inner h e) =
    let go = reads inner x h None parts in
    subst (λ t. ComesTo t x parts frames) (sym e)
    (After 0 x, refl, group_comes inner x None parts frames go.1.0 (40 ∷ []) (parenthesis_opens parts frames go.0) go.1.1 go.1.2)
primary_comes Inner text x parts frames reads (call f inner y h e is) =
    let go = reads inner y h (Some f) parts in
    subst (λ t. ComesTo t x parts frames) (sym e)
    (subst (λ z. ComesTo (64 ∷ name_of f ++ 40 ∷ [] ++ inner ++ 41 ∷ []) z parts frames) (sym is)
    (After 0 (Call f y), refl, group_comes inner y (Some f) parts frames go.1.0 (64 ∷ name_of f ++ 40 ∷ []) (function_opens f parts frames go.0) go.1.1 go.1.2))
primary_comes Inner text x parts frames reads (kinds b letters set h e is) =
    subst (λ t. ComesTo t x parts frames) (sym e)
    (place_comes (61 ∷ b ∷ letters) x (place.InKinds set) (ap Some (sym is)) (kinds_come b letters set h) parts frames)
primary_comes Inner text x parts frames reads (search pattern letters fields h k e is) =
    subst (λ t. ComesTo t x parts frames) (sym (e ∙ append_assoc (47 ∷ escaped pattern) (codes "/") letters))
    (place_comes (47 ∷ escaped pattern ++ 47 ∷ letters) x (place.InFields pattern fields) (ap Some (sym is))
    (search_comes pattern letters fields h k) parts frames)
primary_comes Inner text x parts frames reads (at_path path h k e is) =
    subst (λ t. ComesTo t x parts frames) (sym e)
    (place_comes (91 ∷ path ++ 93 ∷ []) x (place.AfterPath path) (ap Some (sym is)) (path_comes path h k) parts frames)
primary_comes Inner text x parts frames reads (at_pattern pattern whole h e is) =
    subst (λ t. ComesTo t x parts frames)
    (sym (e ∙ ap (λ t. t ++ codes "]") (append_assoc (91 ∷ 47 ∷ escaped pattern) (codes "/") (whole_mark whole))
    ∙ append_assoc (91 ∷ 47 ∷ escaped pattern) (47 ∷ whole_mark whole) (codes "]")))
    (place_comes (91 ∷ 47 ∷ escaped pattern ++ (47 ∷ whole_mark whole ++ 93 ∷ [])) x (place.AfterBracket pattern whole) (ap Some (sym is))
    (at_pattern_comes pattern whole h) parts frames)
primary_comes Inner text x parts frames reads (items list h is) =
    let go = items_come list text h in
    place_comes text x go.0 (go.1 ∙ ap Some (sym is)) go.2 parts frames
