-- The order in which a reorder puts the events.
use Rattle.std.proofs.Common.{◌≡◌, ◌∙◌, ℕ, suc, Bool, true, false, cond, List, [], ◌∷◌, ◌++◌, Some, map, drop, length, arith, append_assoc, refl, sym, ap}
use Rattle.std.specs.Prelude.{slice_get}
use Rattle.plain_model.specs.declared.id.AnyId.{AnyId}
use Rattle.plain_model.specs.declared.id.AnyId.TheVariants as any
use Rattle.plain_model.specs.declared.event.PlainEvent.{PlainEvent}
use Rattle.plain_model.specs.declared.event.PlainEvent.TheVariants.{Blob, Commit, Tag, Reset, Pass}
use Rattle.plain_model.specs.Histories.{Node}
use Rattle.plain_model.specs.Lookups.{id_of, is_listed}
use Rattle.event_arena.proofs.ListLemmas.{drop_item}
use Rattle.commit_laws.specs.Selected.{listed}
use Rattle.reorder_laws.specs.Reorder.{is_placed}
use Rattle.split_reorder.specs.Ordered.{ordered}

module _ (set : List AnyId) where
  -- a place is one of the set's where its event is listed
  pub placed_some : (e : PlainEvent) (c : ℕ) → c ∷ [] ≡ listed set (e ∷ []) → is_placed set e ≡ true
  placed_some (Commit id mark branch author committer encoding comment parents ops aliases) c h = go (is_listed (any.Commit id) set) h
    where
      go : (b : Bool) → c ∷ [] ≡ map (λ (n : Node). n.id) (cond b (record { id = id; parents = parents; ops = ops } ∷ []) []) → b ≡ true
      go true h = refl
      go false h = absurd cc
  placed_some (Blob id mark bytes) c h = absurd cc
  placed_some (Tag id name target tagger comment mark) c h = absurd cc
  placed_some (Reset id branch target) c h = absurd cc
  placed_some (Pass id line) c h = absurd cc

  pub placed_none : (e : PlainEvent) → [] ≡ listed set (e ∷ []) → is_placed set e ≡ false
  placed_none (Commit id mark branch author committer encoding comment parents ops aliases) h = go (is_listed (any.Commit id) set) h
    where
      go : (b : Bool) → [] ≡ map (λ (n : Node). n.id) (cond b (record { id = id; parents = parents; ops = ops } ∷ []) []) → b ≡ false
      go false h = refl
      go true h = absurd cc
  placed_none (Blob id mark bytes) h = refl
  placed_none (Tag id name target tagger comment mark) h = refl
  placed_none (Reset id branch target) h = refl
  placed_none (Pass id line) h = refl

  -- ---- the order

  -- an event that stays where it is
  pub ordered_other : (ws : List ℕ) (e : PlainEvent) (es : List PlainEvent) → is_placed set e ≡ false → ordered set ws (e ∷ es) ≡ id_of e ∷ ordered set ws es
  ordered_other [] e es h = rw h refl
  ordered_other (w ∷ ws) e es h = rw h refl

  -- the next commit in a place of the set
  pub ordered_next : (w : ℕ) (ws : List ℕ) (e : PlainEvent) (es : List PlainEvent) → is_placed set e ≡ true → ordered set (w ∷ ws) (e ∷ es) ≡ any.Commit w ∷ ordered set ws es
  ordered_next w ws e es h = rw h refl

  -- and nothing where none is left
  pub ordered_spent : (e : PlainEvent) (es : List PlainEvent) → is_placed set e ≡ true → ordered set [] (e ∷ es) ≡ ordered set [] es
  ordered_spent e es h = rw h refl

  -- ---- the order along a list: what is given so far, and what is left

  module _ (es : List PlainEvent) (k : ℕ) (e : PlainEvent) (is : slice_get es k ≡ Some e) (ids all : List AnyId) (left : List ℕ) (so_far : ids ++ ordered set left (drop k es) ≡ all) where
    abbrev rest : List PlainEvent
    rest = drop (suc k) es

    begun : ids ++ ordered set left (e ∷ rest) ≡ all
    begun = ap (λ (l : List PlainEvent). ids ++ ordered set left l) (sym (drop_item es k e is)) ∙ so_far

    pub next_given : (w : ℕ) (others : List ℕ) (more : List AnyId) → is_placed set e ≡ true → left ≡ w ∷ others → more ≡ ids ++ any.Commit w ∷ [] → more ++ ordered set others rest ≡ all
    next_given w others more placed splits longer =
        ap (λ (l : List AnyId). l ++ ordered set others rest) longer
        ∙ append_assoc ids (any.Commit w ∷ []) (ordered set others rest)
        ∙ ap (λ (l : List AnyId). ids ++ l) (sym (ordered_next w others e rest placed))
        ∙ ap (λ (ws : List ℕ). ids ++ ordered set ws (e ∷ rest)) (sym splits) ∙ begun

    pub none_given : is_placed set e ≡ true → length left ≡ 0 → ids ++ ordered set left rest ≡ all
    none_given placed none =
        let spent = empty left none in
        ap (λ (ws : List ℕ). ids ++ ordered set ws rest) spent
        ∙ ap (λ (l : List AnyId). ids ++ l) (sym (ordered_spent e rest placed))
        ∙ ap (λ (ws : List ℕ). ids ++ ordered set ws (e ∷ rest)) (sym spent) ∙ begun
      where
        empty : (ws : List ℕ) → length ws ≡ 0 → ws ≡ []
        empty [] h = refl
        empty (w ∷ ws) h = absurd (omega arith)

    pub own_given : (more : List AnyId) → is_placed set e ≡ false → more ≡ ids ++ id_of e ∷ [] → more ++ ordered set left rest ≡ all
    own_given more other longer =
        ap (λ (l : List AnyId). l ++ ordered set left rest) longer
        ∙ append_assoc ids (id_of e ∷ []) (ordered set left rest)
        ∙ ap (λ (l : List AnyId). ids ++ l) (sym (ordered_other left e rest other)) ∙ begun
