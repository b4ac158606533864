-- Two commits in the order of the list: the one with the lesser event number comes first.
use Rattle.std.proofs.Common.{◌≡◌, ℕ, suc, ◌+◌, ◌<◌, Bool, true, false, cond, List, [], ◌∷◌, filter, map, refl, sym, ap, ◌∙◌, arith, true≢false, eq-eqb, is_some, Option, Some, None}
use Rattle.std.specs.Prelude.{◌||◌, ◌==◌, option_map, unwrap_or}
use Rattle.std.proofs.lemmas.Bool.{eqb-true, or_from, or_left, or_parts, or_right}
use Rattle.plain_model.specs.declared.id.AnyId.{AnyId}
use Rattle.plain_model.specs.declared.id.AnyId.TheVariants as any
use Rattle.plain_model.specs.declared.event.PlainEvent.{PlainEvent}
use Rattle.plain_model.specs.declared.event.PlainEvent.TheVariants.{Blob, Commit, Tag, Reset, Pass}
use Rattle.plain_model.specs.Histories.{Node, nodes}
use Rattle.plain_model.specs.Lookups.{is_listed, place_of}
use Rattle.plain_model.specs.Soundness.{IsCommitOf, IsSound, has_id}
use Rattle.plain_model.proofs.Numbers.{eqb_turned}
use Rattle.history_laws.specs.Finding.{event_number}
use Rattle.history_laws.specs.Once.{AreDistinct}
use Rattle.history_laws.proofs.Ids.{found_place, place_at, some_suc}
use Rattle.history_laws.proofs.SoundOnce.{has_id_find, sound_once}
use Rattle.commit_laws.specs.Selected.{listed}

-- what has a place is there
placed_there : (es : List PlainEvent) (id : AnyId) (p : ℕ) → place_of id es ≡ Some p → has_id es id ≡ true
placed_there es id p at = has_id_find es id ∙ ap is_some (place_at id es p at).2

-- a set of two commits
module _ (set : List AnyId) (low high : ℕ) (has_low : is_listed (any.Commit low) set ≡ true) (has_high : is_listed (any.Commit high) set ≡ true)
    (no_other : (x : ℕ) → (x == low) ≡ false → (x == high) ≡ false → is_listed (any.Commit x) set ≡ false)
  where
    -- a commit of the list, before those after it
    abbrev before_if : Bool → ℕ → List PlainEvent → List ℕ
    before_if b i es = cond b (i ∷ listed set es) (listed set es)

    listed_more : (b : Bool) (n : Node) (es : List PlainEvent) → is_listed (any.Commit n.id) set ≡ b →
        map (λ (m : Node). m.id) (cond (is_listed (any.Commit n.id) set) (n ∷ filter (λ m. is_listed (any.Commit m.id) set) (nodes es)) (filter (λ m. is_listed (any.Commit m.id) set) (nodes es))) ≡ before_if b n.id es
    listed_more b n es is =
        ap (λ x. map (λ (m : Node). m.id) (cond x (n ∷ filter (λ m. is_listed (any.Commit m.id) set) (nodes es)) (filter (λ m. is_listed (any.Commit m.id) set) (nodes es)))) is
        ∙ elim b as (λ x. map (λ (m : Node). m.id) (cond x (n ∷ filter (λ m. is_listed (any.Commit m.id) set) (nodes es)) (filter (λ m. is_listed (any.Commit m.id) set) (nodes es))) ≡ before_if x n.id es) [ true ↦ refl | false ↦ refl ]

    neither : (es : List PlainEvent) → has_id es (any.Commit low) ≡ false → has_id es (any.Commit high) ≡ false → listed set es ≡ []
    neither [] l k = refl
    neither (Commit i mark branch author committer encoding comment parents ops aliases ∷ es) l k =
        let lows = or_parts (i == low) (has_id es (any.Commit low)) l in
        let highs = or_parts (i == high) (has_id es (any.Commit high)) k in
        listed_more false (record { id = i; parents = parents; ops = ops }) es (no_other i lows.0 highs.0) ∙ neither es lows.1 highs.1
    neither (Blob i mark bytes ∷ es) l k = neither es l k
    neither (Tag i name target tagger comment mark ∷ es) l k = neither es l k
    neither (Reset i branch target ∷ es) l k = neither es l k
    neither (Pass i line ∷ es) l k = neither es l k

    high_alone : (es : List PlainEvent) → AreDistinct es → has_id es (any.Commit low) ≡ false → has_id es (any.Commit high) ≡ true → listed set es ≡ high ∷ []
    high_alone [] d l k = absurd (true≢false (sym k))
    high_alone (Commit i mark branch author committer encoding comment parents ops aliases ∷ es) d l k = go (i == high) refl k (high_alone es d.1 (or_parts (i == low) (has_id es (any.Commit low)) l).1)
      where
        n : Node
        n = record { id = i; parents = parents; ops = ops }

        lows : ((i == low) ≡ false) × (has_id es (any.Commit low) ≡ false)
        lows = or_parts (i == low) (has_id es (any.Commit low)) l

        go : (b : Bool) → (i == high) ≡ b → b || has_id es (any.Commit high) ≡ true → (has_id es (any.Commit high) ≡ true → listed set es ≡ high ∷ []) → map (λ (m : Node). m.id) (cond (is_listed (any.Commit i) set) (n ∷ filter (λ m. is_listed (any.Commit m.id) set) (nodes es)) (filter (λ m. is_listed (any.Commit m.id) set) (nodes es))) ≡ high ∷ []
        go true it k f =
            let is : i ≡ high = eqb-true i high it in
            listed_more true n es (ap (λ x. is_listed (any.Commit x) set) is ∙ has_high)
            ∙ (λ j. is j ∷ neither es lows.1 (ap (λ x. has_id es (any.Commit x)) (sym is) ∙ has_id_find es (any.Commit i) ∙ ap is_some d.0) j)
        go false it k f = listed_more false n es (no_other i lows.0 it) ∙ f k
    high_alone (Blob i mark bytes ∷ es) d l k = high_alone es d.1 l k
    high_alone (Tag i name target tagger comment mark ∷ es) d l k = high_alone es d.1 l k
    high_alone (Reset i branch target ∷ es) d l k = high_alone es d.1 l k
    high_alone (Pass i line ∷ es) d l k = high_alone es d.1 l k

    -- another event first
    later : (es : List PlainEvent) (p q : ℕ) → option_map suc (place_of (any.Commit low) es) ≡ Some p → option_map suc (place_of (any.Commit high) es) ≡ Some q → p < q
        → ((p q : ℕ) → place_of (any.Commit low) es ≡ Some p → place_of (any.Commit high) es ≡ Some q → p < q → listed set es ≡ low ∷ high ∷ [])
        → listed set es ≡ low ∷ high ∷ []
    later es p q l k less f =
        let low_at = some_suc (place_of (any.Commit low) es) p l in
        let high_at = some_suc (place_of (any.Commit high) es) q k in
        let lows = low_at.2 in
        let highs = high_at.2 in
        f low_at.0 high_at.0 low_at.1 high_at.1 (omega arith)

    both : (es : List PlainEvent) → AreDistinct es → (p q : ℕ) → place_of (any.Commit low) es ≡ Some p → place_of (any.Commit high) es ≡ Some q → p < q → listed set es ≡ low ∷ high ∷ []
    both [] d p q l k less = absurd cc
    both (Commit i mark branch author committer encoding comment parents ops aliases ∷ es) d p q l k less = go (low == i) refl (high == i) refl l k (both es d.1)
      where
        n : Node
        n = record { id = i; parents = parents; ops = ops }

        go : (b : Bool) → (low == i) ≡ b → (t : Bool) → (high == i) ≡ t
            → cond b (Some 0) (option_map suc (place_of (any.Commit low) es)) ≡ Some p
            → cond t (Some 0) (option_map suc (place_of (any.Commit high) es)) ≡ Some q
            → ((p q : ℕ) → place_of (any.Commit low) es ≡ Some p → place_of (any.Commit high) es ≡ Some q → p < q → listed set es ≡ low ∷ high ∷ [])
            → map (λ (m : Node). m.id) (cond (is_listed (any.Commit i) set) (n ∷ filter (λ m. is_listed (any.Commit m.id) set) (nodes es)) (filter (λ m. is_listed (any.Commit m.id) set) (nodes es))) ≡ low ∷ high ∷ []
        go b x true y l k f = let first : 0 ≡ q = cc in absurd (omega arith)
        go true x false y l k f =
            let is : i ≡ low = sym (eqb-true low i x) in
            let at = some_suc (place_of (any.Commit high) es) q k in
            listed_more true n es (ap (λ z. is_listed (any.Commit z) set) is ∙ has_low)
            ∙ (λ j. is j ∷ high_alone es d.1 (ap (λ z. has_id es (any.Commit z)) (sym is) ∙ has_id_find es (any.Commit i) ∙ ap is_some d.0) (placed_there es (any.Commit high) at.0 at.1) j)
        go false x false y l k f =
            listed_more false n es (no_other i (eqb_turned i low ∙ x) (eqb_turned i high ∙ y)) ∙ later es p q l k less f
    both (Blob i mark bytes ∷ es) d p q l k less = later es p q l k less (both es d.1)
    both (Tag i name target tagger comment mark ∷ es) d p q l k less = later es p q l k less (both es d.1)
    both (Reset i branch target ∷ es) d p q l k less = later es p q l k less (both es d.1)
    both (Pass i line ∷ es) d p q l k less = later es p q l k less (both es d.1)

    by_number : (events : List PlainEvent) → IsSound events → IsCommitOf events low → IsCommitOf events high →
        event_number events (any.Commit low) < event_number events (any.Commit high) → listed set events ≡ low ∷ high ∷ []
    by_number events h l k less = go (place_of (any.Commit low) events) refl (placed low l) (place_of (any.Commit high) events) refl (placed high k) less
      where
        placed : (c : ℕ) → IsCommitOf events c → is_some (place_of (any.Commit c) events) ≡ true
        placed c there = found_place (any.Commit c) events (sym (has_id_find events (any.Commit c)) ∙ there)

        go : (o : Option ℕ) → place_of (any.Commit low) events ≡ o → is_some o ≡ true → (u : Option ℕ) → place_of (any.Commit high) events ≡ u → is_some u ≡ true
            → unwrap_or (option_map (λ place. place + 1) o) 0 < unwrap_or (option_map (λ place. place + 1) u) 0 → listed set events ≡ low ∷ high ∷ []
        go (Some p) x s (Some q) y t less = both events (sound_once events h).ids p q x y (omega arith)
        go None x s u y t less = absurd (true≢false (sym s))
        go (Some p) x s None y t less = absurd (true≢false (sym t))

pub two_in_order : (events : List PlainEvent) (low high : ℕ) → IsSound events → IsCommitOf events low → IsCommitOf events high →
    event_number events (any.Commit low) < event_number events (any.Commit high) → listed (any.Commit low ∷ any.Commit high ∷ []) events ≡ low ∷ high ∷ []
two_in_order events low high h l k less =
    by_number (any.Commit low ∷ any.Commit high ∷ []) low high
    (or_left (low == low) ((low == high) || false) (eq-eqb low low refl))
    (or_right (high == low) ((high == high) || false) (or_left (high == high) false (eq-eqb high high refl)))
    (λ x a b. or_from (x == low) ((x == high) || false) a (or_from (x == high) false b refl))
    events h l k less

pub two_turned : (events : List PlainEvent) (low high : ℕ) → IsSound events → IsCommitOf events low → IsCommitOf events high →
    event_number events (any.Commit low) < event_number events (any.Commit high) → listed (any.Commit high ∷ any.Commit low ∷ []) events ≡ low ∷ high ∷ []
two_turned events low high h l k less =
    by_number (any.Commit high ∷ any.Commit low ∷ []) low high
    (or_right (low == high) ((low == low) || false) (or_left (low == low) false (eq-eqb low low refl)))
    (or_left (high == high) ((high == low) || false) (eq-eqb high high refl))
    (λ x a b. or_from (x == high) ((x == low) || false) b (or_from (x == low) false a refl))
    events h l k less
