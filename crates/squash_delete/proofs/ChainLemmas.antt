-- Chains of removed commits by what is noted of each, and what they carry along.
use Rattle.std.proofs.Common.{◌≡◌, ◌∙◌, ℕ, zero, suc, ◌≤◌, Bool, true, false, cond, ◌||◌, ◌&&◌, inl, inr, ◌⊎◌, List, [], ◌∷◌, ◌++◌, Option, Some, None, refl, sym, ap, subst, length, reverse, arith, append-nil, append_assoc, true≢false, flat_map, map}
use Rattle.std.proofs.lemmas.Bool.{and_parts}
use Rattle.std.proofs.lemmas.List.{map-append}
use Rattle.std.proofs.lemmas.Option.{none-some, same_Some}
use Rattle.std.specs.List.{AllByRecursion, list_all}
use Rattle.std.specs.Option.{option_map_or}
use Rattle.std.specs.Prelude.{◌==◌, IsSome, slice_get}
use Rattle.plain_model.proofs.Numbers.{eqb_turned}
use Rattle.plain_model.specs.declared.id.AnyId.{AnyId}
use Rattle.plain_model.specs.declared.id.AnyId.TheVariants as any
use Rattle.plain_model.specs.declared.event.PlainEvent.{PlainEvent}
use Rattle.plain_model.specs.declared.event.PlainEvent.TheVariants.{Blob, Commit, Tag, Reset, Pass}
use Rattle.plain_model.specs.Histories.{Node, Past, past}
use Rattle.plain_model.specs.Lookups.{event_ops, event_parents, find_event, place_of}
use Rattle.plain_model.specs.Paths.{Bytes}
use Rattle.plain_model.specs.Soundness.{IsCommitOf, IsSound}
use Rattle.ancestry_laws.proofs.Pasts.{linked_past}
use Rattle.event_arena.proofs.ListLemmas.{take_all}
use Rattle.history_laws.proofs.SoundOnce.{has_id_find}
use Rattle.graph_walk.proofs.EarlierLemmas.{parents_before}
use Rattle.history_laws.specs.FirstParents.{ops_along}
use Rattle.history_laws.proofs.LineLaws.{along_more}
use Rattle.edit_laws.specs.Removal.{chain, expand, expand_all, once_each}
use Rattle.edit_laws.proofs.Following.{chain_at, chain_none, expand_at, expand_itself}
use Rattle.manifest_cache.specs.Walks.{ops_at}
use Rattle.squash_laws.specs.Comments.{comment_of, joined, joined_two}
use Rattle.squash_laws.specs.Removed.{is_removed}
use Rattle.squash_laws.specs.Takings.{comments_of, is_from_root, is_none, links}
use Rattle.squash_delete.specs.Chains.{AreBefore, IsNearest, Notes, comments_to, no_link, ops_to}
use Rattle.squash_delete.specs.Taking.{event_comment}
use Rattle.plan_steps.specs.Depths.{depth, parents_at}
use Rattle.plan_steps.proofs.Depths.{depth_at, links_nil}
use Rattle.plan_steps.proofs.NodeLemmas.{found_node, node_of}

-- an empty comment is left out
pub joined_without : (xs more : List Bytes) → joined (xs ++ [] ∷ more) ≡ joined (xs ++ more)
joined_without [] more = refl
joined_without (x ∷ xs) more = ap (joined_two x) (joined_without xs more)

-- the comment of a commit is that of its event
pub comment_found : (events : List PlainEvent) (c : ℕ) → comment_of events c ≡ option_map_or event_comment (find_event (any.Commit c) events) []
comment_found [] c = refl
comment_found (Commit id mark branch author committer encoding comment parents ops aliases ∷ es) c = turned (id == c) (c == id) (eqb_turned id c) (comment_found es c)
  where
    turned : (x y : Bool) → x ≡ y → comment_of es c ≡ option_map_or event_comment (find_event (any.Commit c) es) [] →
        cond x comment (comment_of es c) ≡ option_map_or event_comment (cond y (Some (Commit id mark branch author committer encoding comment parents ops aliases)) (find_event (any.Commit c) es)) []
    turned true true is rest = refl
    turned false false is rest = rest
    turned true false is rest = absurd (true≢false is)
    turned false true is rest = absurd (true≢false (sym is))
comment_found (Blob id mark bytes ∷ es) c = comment_found es c
comment_found (Tag id name target tagger comment mark ∷ es) c = comment_found es c
comment_found (Reset id branch target ∷ es) c = comment_found es c
comment_found (Pass id line ∷ es) c = comment_found es c

-- ---- what stands for parents

is_none_once : (xs : List ℕ) → is_none (once_each xs) ≡ is_none xs
is_none_once [] = refl
is_none_once (x ∷ xs) = refl

is_none_both : (xs ys : List ℕ) → is_none (xs ++ ys) ≡ is_none xs && is_none ys
is_none_both [] ys = refl
is_none_both (x ∷ xs) ys = refl

pub over_each : (removed : ℕ → Bool) (a : Past) (ps : List ℕ) → is_none (expand_all removed a ps) ≡ list_all (λ p. is_none (expand removed a p)) ps
over_each removed a ps = is_none_once (flat_map (expand removed a) ps) ∙ each ps
  where
    each : (ps : List ℕ) → is_none (flat_map (expand removed a) ps) ≡ list_all (λ p. is_none (expand removed a p)) ps
    each [] = refl
    each (p ∷ ps) = is_none_both (expand removed a p) (flat_map (expand removed a) ps) ∙ ap (λ b. is_none (expand removed a p) && b) (each ps)

-- ---- chains

chain_first : (removed : ℕ → Bool) (a : Past) (p : ℕ) (ps qs : List ℕ) → chain removed a (p ∷ ps) ≡ chain removed a (p ∷ qs)
chain_first removed [] p ps qs = refl
chain_first removed (n ∷ older) p ps qs = ap (cond (n.id == p) (cond (removed p) (chain removed older n.parents ++ n ∷ []) [])) (chain_first removed older p ps qs)

-- commits that are there are earlier than the end
pub all_before : (events : List PlainEvent) (n : ℕ) → length events ≤ n → (ps : List ℕ) →
    AllByRecursion (λ p. IsSome (find_event (any.Commit p) events)) ps → AreBefore events n ps
all_before events n whole [] all = tt
all_before events n whole (p ∷ ps) all =
    (subst (λ (es : List PlainEvent). IsCommitOf es p) (sym (take_all events n whole)) (has_id_find events (any.Commit p) ∙ all.0), all_before events n whole ps all.1)

-- the parents of an event are earlier
pub own_before : (events : List PlainEvent) → IsSound events → (k n : ℕ) (e : PlainEvent) (ps : List ℕ) → slice_get events k ≡ Some e → n ≡ k → ps ≡ event_parents e →
    AreBefore events n ps
own_before events h k n e ps at is own =
    subst (λ m. AreBefore events m ps) (sym is) (subst (AreBefore events k) (sym own) (parents_before [] events k e h.formed at))

-- ---- some of all

pub not_all : (f : ℕ → Bool) (ps : List ℕ) (k p : ℕ) → slice_get ps k ≡ Some p → f p ≡ false → list_all f ps ≡ false
not_all f [] k p at own = absurd (none-some p at)
not_all f (q ∷ ps) zero p at own = ap (λ b. b && list_all f ps) (ap f (same_Some q p at) ∙ own)
not_all f (q ∷ ps) (suc k) p at own = by (f q) (not_all f ps k p at own)
  where
    by : (b : Bool) → list_all f ps ≡ false → b && list_all f ps ≡ false
    by true rest = rest
    by false rest = refl

module _ (set : List AnyId) (events : List PlainEvent) where
  links_first : (p : ℕ) (ps : List ℕ) → links set events (p ∷ ps) ≡ links set events (p ∷ [])
  links_first p ps = chain_first (is_removed set) (past events) p ps []

  -- no parents, and the first of some
  pub nearest_nil : (most : ℕ) → IsNearest set events most [] None
  nearest_nil most = record {
    ops = ap ops_along (links_nil set events);
    comments = λ more. ap (λ (ns : List Node). joined (comments_of set events ns ++ more)) (links_nil set events);
    there = λ d is. absurd (none-some d is);
  }

  pub nearest_first : (m most p : ℕ) (ps : List ℕ) (near : Option ℕ) → m ≤ most → IsNearest set events m (p ∷ []) near →
      IsNearest set events most (p ∷ ps) near
  nearest_first m most p ps near low n = record {
    ops = ap ops_along (links_first p ps) ∙ n.ops;
    comments = λ more. ap (λ (ns : List Node). joined (comments_of set events ns ++ more)) (links_first p ps) ∙ n.comments more;
    there = λ d is. let t = n.there d is in (t.0, let below = t.1 in omega arith);
  }

  -- the nearest by the first of the parents, if there is one
  pub nearest_none : (most : ℕ) (ps : List ℕ) → slice_get ps 0 ≡ None → IsNearest set events most ps None
  nearest_none most [] none = nearest_nil most
  nearest_none most (p ∷ ps) none = absurd (none-some p (sym none))

  pub nearest_some : (m most p : ℕ) (ps : List ℕ) (near : Option ℕ) → slice_get ps 0 ≡ Some p → m ≤ most → IsNearest set events m (p ∷ []) near →
      IsNearest set events most ps near
  nearest_some m most p [] near first low n = absurd (none-some p first)
  nearest_some m most p (q ∷ ps) near first low n = nearest_first m most q ps near low (subst (λ x. IsNearest set events m (x ∷ []) near) (sym (same_Some q p first)) n)

  pub root_none : (ps : List ℕ) → slice_get ps 0 ≡ None → is_from_root (links set events ps) ≡ false
  root_none [] none = ap is_from_root (links_nil set events)
  root_none (p ∷ ps) none = absurd (none-some p (sym none))

  pub root_some : (p : ℕ) (ps : List ℕ) → slice_get ps 0 ≡ Some p → is_from_root (links set events (p ∷ [])) ≡ is_from_root (links set events ps)
  root_some p [] first = absurd (none-some p first)
  root_some p (q ∷ ps) first = ap is_from_root (ap (λ x. links set events (x ∷ [])) (sym (same_Some q p first)) ∙ sym (links_first q ps))

  -- ---- what is noted of a commit that stays

  pub notes_stays : (c : ℕ) → is_removed set c ≡ false → Notes set events c no_link
  notes_stays c stays =
      let none : links set events (c ∷ []) ≡ [] = chain_none (is_removed set) (past events) c [] stays in
      record {
        nearest = record {
          ops = ap ops_along none;
          comments = λ more. ap (λ (ns : List Node). joined (comments_of set events ns ++ more)) none;
          there = λ d is. absurd (none-some d is);
        };
        from_root = sym (ap is_from_root none);
        is_over = sym (ap is_none (expand_itself (is_removed set) (past events) c stays));
      }

  -- ---- and of one that is removed

  module _ (h : IsSound events) (c : ℕ) (e : PlainEvent) (is : find_event (any.Commit c) events ≡ Some e) (gone : is_removed set c ≡ true) where
    longer : links set events (c ∷ []) ≡ links set events (event_parents e) ++ node_of c e ∷ []
    longer = chain_at (is_removed set) (past events) (linked_past events h) c [] (node_of c e) (found_node events h c e is) gone

    ops_longer : ops_along (links set events (c ∷ [])) ≡ ops_along (links set events (event_parents e)) ++ event_ops e
    ops_longer = ap ops_along longer ∙ along_more (links set events (event_parents e)) (node_of c e)

    comments_longer : (more : List Bytes) → comments_of set events (links set events (c ∷ [])) ++ more
        ≡ comments_of set events (links set events (event_parents e)) ++ comment_of events c ∷ more
    comments_longer more =
        ap (λ (ns : List Node). comments_of set events ns ++ more) longer
        ∙ ap (λ (xs : List Bytes). xs ++ more) (map-append (λ (n : Node). comment_of events n.id) (links set events (event_parents e)) (node_of c e ∷ []))
        ∙ append_assoc (comments_of set events (links set events (event_parents e))) (comment_of events c ∷ []) more

    own_parents : parents_at events c ≡ event_parents e
    own_parents = ap (λ o. option_map_or event_parents o []) is

    own_ops : ops_at events c ≡ event_ops e
    own_ops = ap (λ o. option_map_or event_ops o []) is

    -- it has operations or a comment
    pub nearest_itself : (k : ℕ) → place_of (any.Commit c) events ≡ Some k → IsNearest set events (depth events c) (c ∷ []) (Some c)
    nearest_itself k place = record {
      ops =
          ops_longer
          ∙ sym (ap (λ ps. ops_along (links set events ps) ++ ops_at events c) own_parents
          ∙ ap (λ os. ops_along (links set events (event_parents e)) ++ os) own_ops);
      comments = λ more.
          ap joined (comments_longer more
          ∙ sym (ap (λ ps. (comments_of set events (links set events ps) ++ comment_of events c ∷ []) ++ more) own_parents
          ∙ append_assoc (comments_of set events (links set events (event_parents e))) (comment_of events c ∷ []) more));
      there = λ d same.
          let eq : c ≡ d = same_Some c d same in
          let own = depth_at events c k place in
          let deep : depth events c ≡ depth events d = ap (depth events) eq in
          ((omega arith), (omega arith));
    }

    -- it has neither
    pub nearest_before : (k : ℕ) (near : Option ℕ) → place_of (any.Commit c) events ≡ Some k → event_ops e ≡ [] → comment_of events c ≡ [] →
        IsNearest set events k (event_parents e) near → IsNearest set events (depth events c) (c ∷ []) near
    nearest_before k near place no_ops no_comment n = record {
      ops = ops_longer ∙ ap (λ os. ops_along (links set events (event_parents e)) ++ os) no_ops ∙ append-nil (ops_along (links set events (event_parents e))) ∙ n.ops;
      comments = λ more.
          ap joined (comments_longer more ∙ ap (λ x. comments_of set events (links set events (event_parents e)) ++ x ∷ more) no_comment)
          ∙ joined_without (comments_of set events (links set events (event_parents e))) more ∙ n.comments more;
      there = λ d same. let t = n.there d same in let own = depth_at events c k place in let below = t.1 in (t.0, omega arith);
    }

    pub from_root_gone : is_none (event_parents e) || is_from_root (links set events (event_parents e)) ≡ is_from_root (links set events (c ∷ []))
    from_root_gone = by (event_parents e) refl ∙ sym (ap is_from_root longer)
      where
        head : (ps : List ℕ) (ns : List Node) → is_none ps ≡ false → event_parents e ≡ ps → is_none ps || is_from_root ns ≡ is_from_root (ns ++ node_of c e ∷ [])
        head ps [] some own = ap (λ b. b || false) some ∙ sym (ap is_none own ∙ some)
        head ps (m ∷ ns) some own = ap (λ b. b || is_none m.parents) some

        by : (ps : List ℕ) → event_parents e ≡ ps → is_none ps || is_from_root (links set events ps) ≡ is_from_root (links set events ps ++ node_of c e ∷ [])
        by [] own = sym (ap (λ (ns : List Node). is_from_root (ns ++ node_of c e ∷ [])) (links_nil set events) ∙ ap is_none own)
        by (p ∷ ps) own = head (p ∷ ps) (links set events (p ∷ ps)) refl own

    pub over_gone : is_none (expand_all (is_removed set) (past events) (event_parents e)) ≡ is_none (expand (is_removed set) (past events) c)
    over_gone = ap is_none (sym (expand_at (is_removed set) (past events) (linked_past events h) c (node_of c e) (found_node events h c e is) gone))

  -- what is noted of it
  pub notes_gone : IsSound events → (c k : ℕ) (e : PlainEvent) (near : Option ℕ) (root over : Bool) → slice_get events k ≡ Some e → find_event (any.Commit c) events ≡ Some e →
      place_of (any.Commit c) events ≡ Some k → is_removed set c ≡ true →
      ((is_none (event_ops e) && is_none (comment_of events c) ≡ true) × IsNearest set events k (event_parents e) near) ⊎ (near ≡ Some c) →
      root ≡ is_none (event_parents e) || is_from_root (links set events (event_parents e)) →
      over ≡ is_none (expand_all (is_removed set) (past events) (event_parents e)) →
      Notes set events c (record { nearest = near; from_root = root; is_over = over })
  notes_gone h c k e near root over at is place gone how root_is over_is = record {
    nearest = which how;
    from_root = root_is ∙ from_root_gone h c e is gone;
    is_over = over_is ∙ over_gone h c e is gone;
  }
    where
      nil : {X : Type 0} (xs : List X) → is_none xs ≡ true → xs ≡ []
      nil [] h = refl
      nil (x ∷ xs) h = absurd (true≢false (sym h))

      which : ((is_none (event_ops e) && is_none (comment_of events c) ≡ true) × IsNearest set events k (event_parents e) near) ⊎ (near ≡ Some c) →
          IsNearest set events (depth events c) (c ∷ []) near
      which (inl idle) =
          let parts = and_parts (is_none (event_ops e)) (is_none (comment_of events c)) idle.0 in
          nearest_before h c e is gone k near place (nil (event_ops e) parts.0) (nil (comment_of events c) parts.1) idle.1
      which (inr works) = subst (IsNearest set events (depth events c) (c ∷ [])) (sym works) (nearest_itself h c e is gone k place)

  -- ---- what they carry along

  -- what some commits, the newest first, carry along after what the next one does
  pub record IsOnTheWay (parents : List ℕ) (at : Option ℕ) (walk : List ℕ) : Type 0 where
    pub ops : ops_along (links set events parents) ≡ ops_to set events at ++ flat_map (ops_at events) (reverse walk)
    pub comments : (more : List Bytes) → joined (comments_of set events (links set events parents) ++ more)
        ≡ joined (comments_to set events at ++ (map (comment_of events) (reverse walk) ++ more))
    pub there : (d : ℕ) → at ≡ Some d → 1 ≤ depth events d

  pub way_begins : (most : ℕ) (parents : List ℕ) (near : Option ℕ) → IsNearest set events most parents near → IsOnTheWay parents near []
  way_begins most parents near n = record {
    ops = n.ops ∙ sym (append-nil (ops_to set events near));
    comments = n.comments;
    there = λ d is. (n.there d is).0;
  }
