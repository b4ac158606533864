-- The neighbours, parents and children of the events of a list.
use Rattle.std.proofs.Common.{◌≡◌, ◌∙◌, ℕ, zero, suc, ◌<◌, ◌≤◌, Bool, true, false, List, [], ◌∷◌, ◌++◌, Some, None, inl, inr, refl, sym, ap, length, get_or, take, map, arith}
use Rattle.std.proofs.Math.Bool.{or-false}
use Rattle.std.proofs.lemmas.Bool.{cases_Bool, or_left, or_right}
use Rattle.std.proofs.lemmas.Grind.{flat_map-append}
use Rattle.std.proofs.lemmas.List.{map-append}
use Rattle.std.proofs.lemmas.List.Elements.{filter-append}
use Rattle.std.proofs.lemmas.List.Folds.{list_any-append}
use Rattle.std.proofs.lemmas.Option.{none-some, same_Some}
use Rattle.std.specs.List.{list_any}
use Rattle.std.specs.Prelude.{◌&&◌, ◌||◌, flat_map, slice_get}
use Rattle.plain_model.specs.Lookups.{children_of, id_of, is_listed, op_blobs, same_id}
use Rattle.plain_model.specs.declared.id.AnyId.{AnyId}
use Rattle.plain_model.specs.declared.id.AnyId.TheVariants as any
use Rattle.plain_model.specs.declared.operation.Content.TheVariants.{Blob as OfBlob, Object}
use Rattle.plain_model.specs.declared.operation.FileOp.{FileOp}
use Rattle.plain_model.specs.declared.operation.FileOp.TheVariants.{Modify, Delete, Copy, Rename, DeleteAll}
use Rattle.plain_model.specs.declared.event.PlainEvent.{PlainEvent}
use Rattle.plain_model.specs.declared.event.PlainEvent.TheVariants.{Blob, Commit, Tag, Reset, Pass}
use Rattle.history_laws.proofs.Ids.{same_id_comm, same_id_true}
use Rattle.history_laws.specs.Once.{AreDistinct}
use Rattle.history_laws.proofs.Lists.{item_at}
use Rattle.event_arena.proofs.ChangeLemmas.{is_listed_append}
use Rattle.event_arena.proofs.ListLemmas.{append-nil, take_all, take_item}
use Rattle.event_sets.specs.Around.{linked, puts_one}
use Rattle.event_sets.specs.Bits.{Adds, bits_of}
use Rattle.event_sets.specs.Once.{AreLive}
use Rattle.event_sets.specs.Sets.{Ids, around, is_live, members, passing, puts}
use Rattle.event_sets.proofs.BitLemmas.{bit_of, live_misses, picks_passing, picks_tied}

-- ---- what is marked for each member, one event after another

-- of the first events the members' lists are marked
abbrev pub Found : (PlainEvent → Ids) → List PlainEvent → List Bool → ℕ → List Bool → Type 0
Found f es bits k found =
    (ids : Ids) → bits ≡ bits_of es ids → found ≡ bits_of es (flat_map f (members (take k es) ids))

module _ (f : PlainEvent → Ids) (es : List PlainEvent) (bits : List Bool) where
  pub found_more : (k : ℕ) (e : PlainEvent) (old new : List Bool) → slice_get es k ≡ Some e →
      get_or bits k false ≡ true → Adds es (f e) old new → Found f es bits k old → Found f es bits (suc k) new
  found_more k e old new at on adds so_far = λ ids tied.
      let listed : is_listed (id_of e) ids ≡ true =
      sym (bit_of es ids k e at) ∙ ap (λ bs. get_or bs k false) (sym tied) ∙ on in
      let one : members (e ∷ []) ids ≡ e ∷ [] = rw listed refl in
      adds (flat_map f (members (take k es) ids)) (so_far ids tied)
      ∙ ap (bits_of es) (sym (
      ap (λ xs. flat_map f (members xs ids)) (take_item es k e at)
      ∙ ap (flat_map f) (filter-append (λ d. is_listed (id_of d) ids) (take k es) (e ∷ [])
      ∙ ap (λ xs. members (take k es) ids ++ xs) one)
      ∙ flat_map-append f (members (take k es) ids) (e ∷ [])
      ∙ ap (λ xs. flat_map f (members (take k es) ids) ++ xs) (append-nil (f e))
      ))

  pub found_skip : (k : ℕ) (found : List Bool) → k < length es → get_or bits k false ≡ false → Found f es bits k found →
      Found f es bits (suc k) found
  found_skip k found low off so_far = λ ids tied.
      let item = item_at es k low in
      let e = item.0 in
      let listed : is_listed (id_of e) ids ≡ false =
      sym (bit_of es ids k e item.1) ∙ ap (λ bs. get_or bs k false) (sym tied) ∙ off in
      let none : members (e ∷ []) ids ≡ [] = rw listed refl in
      so_far ids tied
      ∙ ap (bits_of es) (sym (
      ap (λ xs. flat_map f (members xs ids)) (take_item es k e item.1)
      ∙ ap (flat_map f) (filter-append (λ d. is_listed (id_of d) ids) (take k es) (e ∷ [])
      ∙ ap (λ xs. members (take k es) ids ++ xs) none ∙ append-nil (members (take k es) ids))
      ))

  pub found_all : (k : ℕ) (found : List Bool) → length es ≤ k → Found f es bits k found → (ids : Ids) →
      bits ≡ bits_of es ids → found ≡ bits_of es (flat_map f (members es ids))
  found_all k found all so_far =
      λ ids tied. so_far ids tied ∙ ap (λ xs. bits_of es (flat_map f (members xs ids))) (take_all es k all)

-- ---- lists of commits

pub map_flat : {X Y Z : Type 0} (g : Y → Z) (f : X → List Y) (xs : List X) →
    flat_map (λ x. map g (f x)) xs ≡ map g (flat_map f xs)
map_flat g f [] = refl
map_flat g f (x ∷ xs) = ap (λ ys. map g (f x) ++ ys) (map_flat g f xs) ∙ sym (map-append g (f x) (flat_map f xs))

-- ---- tests of some item

any_or : {X : Type 0} (f g : X → Bool) (xs : List X) → list_any f xs || list_any g xs ≡ list_any (λ x. f x || g x) xs
any_or f g [] = refl
any_or f g (x ∷ xs) = by (f x) (g x) (list_any f xs) (list_any g xs) ∙ ap (λ b. (f x || g x) || b) (any_or f g xs)
  where
    by : (a b c d : Bool) → (a || c) || (b || d) ≡ (a || b) || (c || d)
    by true b c d = refl
    by false true true d = refl
    by false true false d = refl
    by false false c d = refl

any_none : {X : Type 0} (xs : List X) → false ≡ list_any (λ x. false) xs
any_none [] = refl
any_none (x ∷ xs) = any_none xs

-- either list may be gone over first
any_swap : {X Y : Type 0} (r : X → Y → Bool) (xs : List X) (ys : List Y) →
    list_any (λ x. list_any (r x) ys) xs ≡ list_any (λ y. list_any (λ x. r x y) xs) ys
any_swap r [] ys = any_none ys
any_swap r (x ∷ xs) ys =
    ap (λ b. list_any (r x) ys || b) (any_swap r xs ys) ∙ any_or (r x) (λ y. list_any (λ z. r z y) xs) ys

any_same : {X : Type 0} (f g : X → Bool) → ((x : X) → f x ≡ g x) → (xs : List X) → list_any f xs ≡ list_any g xs
any_same f g h [] = refl
any_same f g h (x ∷ xs) = λ i. h x i || any_same f g h xs i

any_map : {X Y : Type 0} (f : Y → Bool) (g : X → Y) (xs : List X) → list_any f (map g xs) ≡ list_any (λ x. f (g x)) xs
any_map f g [] = refl
any_map f g (x ∷ xs) = ap (λ b. f (g x) || b) (any_map f g xs)

-- what holds of an item's list holds in all of them
pub any_flat : {X Y : Type 0} (p : Y → Bool) (f : X → List Y) (xs : List X) (k : ℕ) (x : X) → k < length xs →
    x ≡ get_or xs k x → list_any p (f x) ≡ true → list_any p (flat_map f xs) ≡ true
any_flat p f [] k x low at is = absurd (omega arith)
any_flat p f (y ∷ xs) zero x low at is = list_any-append p (f y) (flat_map f xs)
    ∙ or_left (list_any p (f y)) (list_any p (flat_map f xs)) (ap (λ z. list_any p (f z)) (sym at) ∙ is)
any_flat p f (y ∷ xs) (suc k) x low at is = list_any-append p (f y) (flat_map f xs)
    ∙ or_right (list_any p (f y)) (list_any p (flat_map f xs)) (any_flat p f xs k x (omega arith) at is)

-- ---- members

-- the members are those of a list that are there
pub listed_members : (es : List PlainEvent) (ids : Ids) (id : AnyId) →
    is_listed id (map id_of (members es ids)) ≡ is_live es id && is_listed id ids
listed_members [] ids id = refl
listed_members (e ∷ es) ids id = elim (cases_Bool (is_listed (id_of e) ids)) [
  | inl in_list ↦ elim (cases_Bool (same_id id (id_of e))) [
    | inl it ↦ rw (in_list, it) (sym (ap (λ x. is_listed x ids) (same_id_true id (id_of e) it) ∙ in_list))
    | inr no_it ↦ rw (in_list, no_it) (listed_members es ids id)
  ]
  | inr out ↦ elim (cases_Bool (same_id id (id_of e))) [
    | inl it ↦
        let off : is_listed id ids ≡ false = ap (λ x. is_listed x ids) (same_id_true id (id_of e) it) ∙ out in
        rw (out, it) (listed_members es ids id ∙ rw off (and-false (is_live es id)))
    | inr no_it ↦ rw (out, no_it) (listed_members es ids id)
  ]
]
  where
    and-false : (b : Bool) → b && false ≡ false
    and-false true = refl
    and-false false = refl

pub listed_live : (es : List PlainEvent) (ids : Ids) (id : AnyId) → AreLive es ids →
    is_listed id (map id_of (members es ids)) ≡ is_listed id ids
listed_live es ids id h = listed_members es ids id ∙ by (is_live es id) refl
  where
    by : (b : Bool) → is_live es id ≡ b → b && is_listed id ids ≡ is_listed id ids
    by true is = refl
    by false is = sym (live_misses es ids id h is)

-- an event is among those that pass a test where it passes it
passing_own : (test : PlainEvent → Bool) (es : List PlainEvent) (k : ℕ) (e : PlainEvent) → AreDistinct es →
    slice_get es k ≡ Some e → is_listed (id_of e) (passing test es) ≡ test e
passing_own test es k e once at =
    ap (is_listed (id_of e)) (sym (picks_passing test es))
    ∙ sym (bit_of es _ k e at) ∙ ap (λ bs. get_or bs k false) (sym (picks_tied (map test es) es once (count es)))
    ∙ got es k at
  where
    count : (es : List PlainEvent) → length (map test es) ≡ length es
    count [] = refl
    count (x ∷ es) = ap suc (count es)

    got : (es : List PlainEvent) (k : ℕ) → slice_get es k ≡ Some e → get_or (map test es) k false ≡ test e
    got [] k h = absurd (none-some e h)
    got (x ∷ es) zero h = ap test (same_Some x e h)
    got (x ∷ es) (suc k) h = got es k h

-- ---- neighbours

-- a member that is a blob, which the event puts
abbrev put_by : PlainEvent → PlainEvent → Bool
put_by e (Blob id mark bytes) = puts (any.Blob id) e
put_by e (Commit id mark branch author committer encoding comment parents ops aliases) = false
put_by e (Tag id name target tagger comment mark) = false
put_by e (Reset id branch target) = false
put_by e (Pass id line) = false

module _ (es : List PlainEvent) (k : ℕ) (e : PlainEvent) (once : AreDistinct es) (at : slice_get es k ≡ Some e) where
  around_one : (m : PlainEvent) → is_listed (id_of e) (around es m) ≡ is_listed (id_of e) (linked es m) || put_by e m
  around_one (Blob id mark bytes) = passing_own (puts (any.Blob id)) es k e once at
  around_one (Commit id mark branch author committer encoding comment parents ops aliases) =
      let near = any.Commit id ∷ (map any.Commit parents ++ map any.Commit (children_of id es)) in
      sym (or-false (is_listed (id_of e) near))
  around_one (Tag id name target tagger comment mark) =
      sym (or-false (is_listed (id_of e) (any.Tag id ∷ any.Commit target ∷ [])))
  around_one (Reset id branch (Some target)) =
      sym (or-false (is_listed (id_of e) (any.Reset id ∷ any.Commit target ∷ [])))
  around_one (Reset id branch None) = sym (or-false (is_listed (id_of e) (any.Reset id ∷ [])))
  around_one (Pass id line) = sym (or-false (is_listed (id_of e) (any.Pass id ∷ [])))

  around_all : (ms : List PlainEvent) →
      is_listed (id_of e) (flat_map (around es) ms)
      ≡ is_listed (id_of e) (flat_map (linked es) ms) || list_any (put_by e) ms
  around_all [] = refl
  around_all (m ∷ ms) =
      is_listed_append (around es m) (flat_map (around es) ms) (id_of e)
      ∙ (λ i. around_one m i || around_all ms i)
      ∙ by (is_listed (id_of e) (linked es m)) (put_by e m) (is_listed (id_of e) (flat_map (linked es) ms))
      (list_any (put_by e) ms)
      ∙ ap (λ b. b || (put_by e m || list_any (put_by e) ms))
      (sym (is_listed_append (linked es m) (flat_map (linked es) ms) (id_of e)))
    where
      by : (a b c d : Bool) → (a || b) || (c || d) ≡ (a || c) || (b || d)
      by true b c d = refl
      by false true true d = refl
      by false true false d = refl
      by false false c d = refl

-- only blobs are named by operations
no_blob : (id : AnyId) → ((b : ℕ) → same_id id (any.Blob b) ≡ false) → (ops : List FileOp) →
    false ≡ is_listed id (flat_map op_blobs ops)
no_blob id other [] = refl
no_blob id other (Modify mode (OfBlob b) path ∷ ops) = rw (other b) (no_blob id other ops)
no_blob id other (Modify mode (Object digits) path ∷ ops) = no_blob id other ops
no_blob id other (Delete path ∷ ops) = no_blob id other ops
no_blob id other (Copy source target ∷ ops) = no_blob id other ops
no_blob id other (Rename source target ∷ ops) = no_blob id other ops
no_blob id other (DeleteAll ∷ ops) = no_blob id other ops

-- an event that is no commit is put by none
none_put : (e : PlainEvent) → ((b : AnyId) → puts b e ≡ false) → (ms : List PlainEvent) → list_any (put_by e) ms ≡ false
none_put e never [] = refl
none_put e never (Blob id mark bytes ∷ ms) = rw (never (any.Blob id)) (none_put e never ms)
none_put e never (Commit id mark branch author committer encoding comment parents ops aliases ∷ ms) =
    none_put e never ms
none_put e never (Tag id name target tagger comment mark ∷ ms) = none_put e never ms
none_put e never (Reset id branch target ∷ ms) = none_put e never ms
none_put e never (Pass id line ∷ ms) = none_put e never ms

-- a commit puts one of a list where a member is put by it
puts_any : (es : List PlainEvent) (ids : Ids) (e : PlainEvent) → AreLive es ids →
    list_any (put_by e) (members es ids) ≡ puts_one ids e
puts_any es ids (Blob id mark bytes) h = none_put (Blob id mark bytes) (λ b. refl) (members es ids)
puts_any es ids (Commit id mark branch author committer encoding comment parents ops aliases) h =
    any_same (put_by (Commit id mark branch author committer encoding comment parents ops aliases))
    (λ m. is_listed (id_of m) (flat_map op_blobs ops)) own (members es ids)
    ∙ any_swap (λ m b. same_id (id_of m) b) (members es ids) (flat_map op_blobs ops)
    ∙ any_same (λ b. list_any (λ m. same_id (id_of m) b) (members es ids)) (λ b. is_listed b ids) turned
    (flat_map op_blobs ops)
  where
    own : (m : PlainEvent) →
        put_by (Commit id mark branch author committer encoding comment parents ops aliases) m
        ≡ is_listed (id_of m) (flat_map op_blobs ops)
    own (Blob i mark bytes) = refl
    own (Commit i mark branch author committer encoding comment parents os aliases) =
        no_blob (any.Commit i) (λ b. refl) ops
    own (Tag i name target tagger comment mark) = no_blob (any.Tag i) (λ b. refl) ops
    own (Reset i branch target) = no_blob (any.Reset i) (λ b. refl) ops
    own (Pass i line) = no_blob (any.Pass i) (λ b. refl) ops

    turned : (b : AnyId) → list_any (λ m. same_id (id_of m) b) (members es ids) ≡ is_listed b ids
    turned b =
        any_same (λ m. same_id (id_of m) b) (λ m. same_id b (id_of m)) (λ m. same_id_comm (id_of m) b) (members es ids)
        ∙ sym (any_map (same_id b) id_of (members es ids)) ∙ listed_live es ids b h
puts_any es ids (Tag id name target tagger comment mark) h =
    none_put (Tag id name target tagger comment mark) (λ b. refl) (members es ids)
puts_any es ids (Reset id branch target) h = none_put (Reset id branch target) (λ b. refl) (members es ids)
puts_any es ids (Pass id line) h = none_put (Pass id line) (λ b. refl) (members es ids)

-- an event is near a list where one of its events is linked with it, or it puts one
pub near_step : (es : List PlainEvent) (ids : Ids) (k : ℕ) (e : PlainEvent) → AreDistinct es → AreLive es ids →
    slice_get es k ≡ Some e →
    is_listed (id_of e) (flat_map (around es) (members es ids))
    ≡ is_listed (id_of e) (flat_map (linked es) (members es ids)) || puts_one ids e
near_step es ids k e once live at =
    around_all es k e once at (members es ids)
    ∙ ap (λ b. is_listed (id_of e) (flat_map (linked es) (members es ids)) || b) (puts_any es ids e live)
