-- Bits that are set event by event: that of an event itself, and those of the blobs that it names.
use Rattle.std.proofs.Common.{◌≡◌, ◌∙◌, ℕ, suc, ◌<◌, ◌≤◌, Bool, true, false, List, [], ◌∷◌, ◌++◌, Some, inl, inr, refl, sym, ap, length, get_or, take, map, append_assoc}
use Rattle.std.proofs.Math.Bool.{or-false}
use Rattle.std.proofs.Math.ListN.{set}
use Rattle.std.proofs.lemmas.Bool.{cases_Bool}
use Rattle.std.proofs.lemmas.Grind.{flat_map-append}
use Rattle.std.proofs.lemmas.List.{length-map}
use Rattle.std.proofs.lemmas.List.Folds.{list_any-append}
use Rattle.std.specs.List.{list_any}
use Rattle.std.specs.Prelude.{◌||◌, flat_map, slice_get, if◌then◌else◌}
use Rattle.plain_model.specs.Lookups.{id_of, is_listed, same_id}
use Rattle.plain_model.specs.declared.id.AnyId.{AnyId}
use Rattle.plain_model.specs.declared.event.PlainEvent.{PlainEvent}
use Rattle.history_laws.specs.Once.{AreDistinct}
use Rattle.event_arena.proofs.ChangeLemmas.{is_listed_append, listed_more}
use Rattle.event_arena.proofs.ListLemmas.{append-nil, flat_take_item, take_all, take_more}
use Rattle.event_sets.specs.Bits.{Adds, bits_of}
use Rattle.event_sets.specs.Sets.{Ids, passing}
use Rattle.event_sets.proofs.BitLemmas.{picks_passing, picks_tied}
use Rattle.event_sets.proofs.SetLemmas.{place_own}

-- ---- lists, one item more

pub any_more : {X : Type 0} (p : X → Bool) (xs : List X) (k : ℕ) (x : X) → k < length xs → x ≡ get_or xs k x →
    list_any p (take (suc k) xs) ≡ list_any p (take k xs) || p x
any_more p xs k x low at =
    ap (list_any p) (take_more xs k x low at) ∙ list_any-append p (take k xs) (x ∷ [])
    ∙ ap (λ b. list_any p (take k xs) || b) (or-false (p x))

pub flat_more : {X Y : Type 0} (f : X → List Y) (xs : List X) (k : ℕ) (x : X) → k < length xs → x ≡ get_or xs k x →
    flat_map f (take (suc k) xs) ≡ flat_map f (take k xs) ++ f x
flat_more f xs k x low at =
    ap (flat_map f) (take_more xs k x low at) ∙ flat_map-append f (take k xs) (x ∷ [])
    ∙ ap (λ ys. flat_map f (take k xs) ++ ys) (append-nil (f x))

-- where two tests are the same at each item, so are they together with a third
map_or : {X : Type 0} (p q r : X → Bool) (xs : List X) → map p xs ≡ map q xs →
    map (λ x. p x || r x) xs ≡ map (λ x. q x || r x) xs
map_or p q r [] h = refl
map_or p q r (x ∷ xs) h =
    let first : p x ≡ q x = cc in
    let rest : map p xs ≡ map q xs = cc in
    λ i. (first i || r x) ∷ map_or p q r xs rest i

-- ---- events that pass a test, and the ids that each event names

module _ (f : PlainEvent → Bool) (g : PlainEvent → Ids) where
  abbrev pub marks : PlainEvent → Ids
  marks e = g e ++ (if f e then id_of e ∷ [] else [])

  -- the bits after the first events
  abbrev pub Marked : List PlainEvent → ℕ → List Bool → Type 0
  Marked es k bits = bits ≡ bits_of es (flat_map marks (take k es))

  pub marked_own : (es : List PlainEvent) (k : ℕ) (e : PlainEvent) (old mid : List Bool) → AreDistinct es →
      slice_get es k ≡ Some e → f e ≡ true → Adds es (g e) old mid → Marked es k old →
      Marked es (suc k) (set mid k true)
  marked_own es k e old mid once at is adds so_far =
      let before = flat_map marks (take k es) in
      let one : marks e ≡ g e ++ id_of e ∷ [] = rw is refl in
      ap (λ bits. set bits k true) (adds before so_far)
      ∙ listed_more es (before ++ g e) (id_of e) k once (place_own es k e once at)
      ∙ ap (bits_of es) (
      append_assoc before (g e) (id_of e ∷ []) ∙ ap (λ ids. before ++ ids) (sym one)
      ∙ sym (flat_take_item marks es k e at)
      )

  pub marked_not : (es : List PlainEvent) (k : ℕ) (e : PlainEvent) (old new : List Bool) →
      slice_get es k ≡ Some e → f e ≡ false → Adds es (g e) old new → Marked es k old → Marked es (suc k) new
  marked_not es k e old new at isnt adds so_far =
      let before = flat_map marks (take k es) in
      let one : marks e ≡ g e = rw isnt (append-nil (g e)) in
      adds before so_far
      ∙ ap (bits_of es) (ap (λ ids. before ++ ids) (sym one) ∙ sym (flat_take_item marks es k e at))

  listed_marks : (id : AnyId) (es : List PlainEvent) →
      is_listed id (flat_map marks es) ≡ is_listed id (passing f es) || is_listed id (flat_map g es)
  listed_marks id [] = refl
  listed_marks id (e ∷ es) = elim (cases_Bool (f e)) [
    | inl it ↦ rw it (
        is_listed_append (g e ++ id_of e ∷ []) (flat_map marks es) id
        ∙ (λ i. is_listed_append (g e) (id_of e ∷ []) id i || listed_marks id es i)
        ∙ with_own named (same_id id (id_of e)) passed others
        ∙ ap (λ b. is_listed id (id_of e ∷ passing f es) || b) (sym all)
        )
    | inr no_it ↦ rw no_it (
        is_listed_append (g e ++ []) (flat_map marks es) id
        ∙ (λ i. is_listed id (append-nil (g e) i) || listed_marks id es i)
        ∙ without named passed others
        ∙ ap (λ b. passed || b) (sym all)
        )
  ]
    where
      named : Bool
      named = is_listed id (g e)

      passed : Bool
      passed = is_listed id (passing f es)

      others : Bool
      others = is_listed id (flat_map g es)

      all : is_listed id (g e ++ flat_map g es) ≡ is_listed id (g e) || is_listed id (flat_map g es)
      all = is_listed_append (g e) (flat_map g es) id

      with_own : (a b c d : Bool) → (a || (b || false)) || (c || d) ≡ (b || c) || (a || d)
      with_own true true c d = refl
      with_own true false true d = refl
      with_own true false false d = refl
      with_own false true c d = refl
      with_own false false c d = refl

      without : (a c d : Bool) → a || (c || d) ≡ c || (a || d)
      without true true d = refl
      without true false d = refl
      without false c d = refl

  own_bits : (es : List PlainEvent) → AreDistinct es → bits_of es (passing f es) ≡ map f es
  own_bits es once =
      ap (bits_of es) (sym (picks_passing f es)) ∙ sym (picks_tied (map f es) es once (length-map es f))

  -- at the end they are those of the events that pass the test or are named
  pub marked_all : (es : List PlainEvent) (k : ℕ) (bits : List Bool) → length es ≤ k → AreDistinct es →
      Marked es k bits → bits ≡ map (λ e. f e || is_listed (id_of e) (flat_map g es)) es
  marked_all es k bits all once so_far =
      so_far
      ∙ ap (λ xs. bits_of es (flat_map marks xs)) (take_all es k all)
      ∙ (λ i. map (λ e. listed_marks (id_of e) es i) es)
      ∙ map_or (λ e. is_listed (id_of e) (passing f es)) f (λ e. is_listed (id_of e) (flat_map g es)) es
      (own_bits es once)
