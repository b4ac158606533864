-- What is left of a history, part by part.
use Rattle.std.proofs.Common.{◌≡◌, ◌∙◌, ℕ, zero, suc, ◌+◌, Bool, true, false, cond, not, List, [], ◌∷◌, ◌++◌, Option, Some, None, refl, sym, ap, length, drop, map, flat_map, arith, IsTrue}
use Rattle.std.specs.Prelude.{◌||◌, ◌&&◌, is_some, option_map, option_to_list, slice_get, unwrap_or}
use Rattle.std.specs.List.{AllByRecursion, list_any}
use Rattle.std.proofs.lemmas.Bool.{or_parts}
use Rattle.plain_model.specs.declared.id.AnyId.{AnyId}
use Rattle.plain_model.specs.declared.id.AnyId.TheVariants as any
use Rattle.plain_model.specs.declared.operation.FileOp.{FileOp}
use Rattle.plain_model.specs.declared.person.Signed.{Signed}
use Rattle.plain_model.specs.declared.event.PlainEvent.{PlainEvent}
use Rattle.plain_model.specs.declared.event.PlainEvent.TheVariants.{Blob, Commit, Tag, Reset, Pass}
use Rattle.plain_model.specs.Histories.{Past, past}
use Rattle.plain_model.specs.Lookups.{event_parents, find_event, id_of, is_listed, place_of, same_id}
use Rattle.plain_model.specs.Paths.{Bytes}
use Rattle.plain_model.specs.Soundness.{are_distinct}
use Rattle.event_arena.specs.Changes.{changed, with_parents}
use Rattle.event_arena.specs.Graphs.{Change}
use Rattle.history_laws.proofs.SoundOnce.{has_id_find}
use Rattle.history_laws.specs.FirstParents.{ops_along}
use Rattle.history_laws.specs.Once.{AreDistinct}
use Rattle.history_laws.proofs.Lists.{item_at}
use Rattle.event_arena.proofs.ListLemmas.{drop_item}
use Rattle.event_arena.proofs.StepLemmas.{none_left}
use Rattle.edit_laws.specs.Removal.{expand, expand_all, once_each}
use Rattle.edit_laws.proofs.Following.{chain_none, expand_itself}
use Rattle.edit_laws.proofs.Repeats.{distinct_once}
use Rattle.graph_walk.specs.Expansions.{own_change, parent_changes}
use Rattle.graph_walk.proofs.PlaceLemmas.{has_id_place}
use Rattle.graph_walk.proofs.TurnLemmas.{all_at}
use Rattle.squash_laws.specs.Removed.{Takings, all_left, is_removed, left_of, parents_after}
use Rattle.squash_laws.specs.Takings.{anew, links, ops_after}
use Rattle.plain_model.specs.declared.policy.Push.TheVariants as push
use Rattle.plan_steps.specs.Leaving.{event_after, goes, staying, with_all_parents, with_own_parents, with_takings}
use Rattle.plan_steps.specs.Passes.{so_far}
use Rattle.plan_steps.proofs.Depths.{links_nil}
use Rattle.plan_steps.proofs.Passes.{so_far_all, step_changed, step_gone, step_same}

-- ---- ids stay

pub own_parents_id : (par : List ℕ → List ℕ) (e : PlainEvent) → id_of (with_own_parents par e) ≡ id_of e
own_parents_id par (Commit id mark branch author committer encoding comment parents ops aliases) = refl
own_parents_id par (Blob id mark bytes) = refl
own_parents_id par (Tag id name target tagger comment mark) = refl
own_parents_id par (Reset id branch target) = refl
own_parents_id par (Pass id line) = refl

pub takings_id : (par : List ℕ → List ℕ) (takes : Takings) (e : PlainEvent) → id_of (with_takings par takes e) ≡ id_of e
takings_id par takes (Commit id mark branch author committer encoding comment parents ops aliases) = refl
takings_id par takes (Blob id mark bytes) = refl
takings_id par takes (Tag id name target tagger comment mark) = refl
takings_id par takes (Reset id branch target) = refl
takings_id par takes (Pass id line) = refl

pub after_id : (par : List ℕ → List ℕ) (takes : Takings) (e : PlainEvent) → id_of (event_after par takes e) ≡ id_of e
after_id par takes (Commit id mark branch author committer encoding comment parents ops aliases) = refl
after_id par takes (Blob id mark bytes) = refl
after_id par takes (Tag id name target tagger comment mark) = refl
after_id par takes (Reset id branch (Some target)) = refl
after_id par takes (Reset id branch None) = refl
after_id par takes (Pass id line) = refl

-- the parents that they had
pub same_parents : (es : List PlainEvent) → map (with_own_parents (λ parents. parents)) es ≡ es
same_parents [] = refl
same_parents (e ∷ es) = ap (λ x. x ∷ map (with_own_parents (λ parents. parents)) es) (one e) ∙ ap (λ l. e ∷ l) (same_parents es)
  where
    one : (e : PlainEvent) → with_own_parents (λ parents. parents) e ≡ e
    one (Commit id mark branch author committer encoding comment parents ops aliases) = refl
    one (Blob id mark bytes) = refl
    one (Tag id name target tagger comment mark) = refl
    one (Reset id branch target) = refl
    one (Pass id line) = refl

-- ---- all that is left

stays_or_goes : (gone : Bool) (f : ℕ → PlainEvent) (target : ℕ) (o : Option ℕ) →
    cond gone [] (option_to_list (option_map f o)) ≡ cond (gone || not (is_some o)) [] (f (unwrap_or o target) ∷ [])
stays_or_goes true f target o = refl
stays_or_goes false f target None = refl
stays_or_goes false f target (Some t) = refl

module _ (set : List AnyId) (events : List PlainEvent) (takes : Takings) where
  pub left_one : (e : PlainEvent) → left_of set events takes e ≡ cond (goes set takes e) [] (event_after (parents_after set events takes) takes e ∷ [])
  left_one (Commit id mark branch author committer encoding comment parents ops aliases) = refl
  left_one (Blob id mark bytes) = refl
  left_one (Tag id name target tagger comment mark) =
      stays_or_goes (is_listed (any.Tag id) set) (λ t. Tag id name t tagger comment mark) target (takes.target target)
  left_one (Reset id branch (Some target)) =
      stays_or_goes (is_listed (any.Reset id) set) (λ t. Reset id branch (Some t)) target (takes.target target)
  left_one (Reset id branch None) = refl
  left_one (Pass id line) = refl

  left_some : (es : List PlainEvent) → flat_map (left_of set events takes) es ≡ map (event_after (parents_after set events takes) takes) (staying set takes es)
  left_some [] = refl
  left_some (e ∷ es) =
      ap (λ l. l ++ flat_map (left_of set events takes) es) (left_one e)
      ∙ ap (λ l. cond (goes set takes e) [] (event_after (parents_after set events takes) takes e ∷ []) ++ l) (left_some es)
      ∙ by (goes set takes e)
    where
      by : (b : Bool) → cond b [] (event_after (parents_after set events takes) takes e ∷ []) ++ map (event_after (parents_after set events takes) takes) (staying set takes es)
          ≡ map (event_after (parents_after set events takes) takes) (cond (not b) (e ∷ staying set takes es) (staying set takes es))
      by true = refl
      by false = refl

  -- the events that stay, as they become
  pub left_staying : all_left set events takes ≡ map (event_after (parents_after set events takes) takes) (staying set takes events)
  left_staying = left_some events

-- ---- parents

-- parents of which none is removed stand for themselves
pub unremoved_parents : (removed : ℕ → Bool) (older : Past) (parents : List ℕ) → are_distinct parents ≡ true → list_any removed parents ≡ false →
    expand_all removed older parents ≡ parents
unremoved_parents removed older parents once none = ap once_each (each parents none) ∙ distinct_once parents once
  where
    each : (ps : List ℕ) → list_any removed ps ≡ false → flat_map (expand removed older) ps ≡ ps
    each [] h = refl
    each (p ∷ ps) h =
        let parts = or_parts (removed p) (list_any removed ps) h in
        ap (λ l. l ++ flat_map (expand removed older) ps) (expand_itself removed older p parts.0) ∙ ap (λ l. p ∷ l) (each ps parts.1)

-- and nothing is taken over from removed commits before them
pub no_links : (set : List AnyId) (events : List PlainEvent) (parents : List ℕ) → list_any (is_removed set) parents ≡ false → links set events parents ≡ []
no_links set events [] none = links_nil set events
no_links set events (p ∷ ps) none = chain_none (is_removed set) (past events) p ps (or_parts (is_removed set p) (list_any (is_removed set) ps) none).0

pub nothing_pushed : (set : List AnyId) (events : List PlainEvent) (c : ℕ) (parents : List ℕ) (ops : List FileOp) → list_any (is_removed set) parents ≡ false →
    ops_after set events push.Forward c parents ops ≡ ops
nothing_pushed set events c parents ops none =
    ap (λ ls. anew ls (expand_all (is_removed set) (past events) parents) ++ (ops_along ls ++ ops)) (no_links set events parents none)

module _ (set : List AnyId) (takes : Takings) (events : List PlainEvent) (once : AreDistinct events)
    (parents_once : AllByRecursion (λ e. IsTrue (are_distinct (event_parents e))) events)
  where
    abbrev keep : PlainEvent → Bool
    keep e = not (goes set takes e)

    abbrev same : PlainEvent → PlainEvent
    same e = e

    abbrev get : PlainEvent → PlainEvent
    get e = with_own_parents (parents_after set events takes) e

    -- one commit more
    commit_more : (k id mark : ℕ) (branch : Bytes) (author committer : Signed) (encoding : Option Bytes) (comment : Bytes) (parents : List ℕ) (ops : List FileOp) (aliases : List ℕ) →
        slice_get events k ≡ Some (Commit id mark branch author committer encoding comment parents ops aliases) → are_distinct parents ≡ true →
        (gone some : Bool) → is_removed set id ≡ gone → list_any (is_removed set) parents ≡ some →
        with_all_parents (cond (not gone && some) ((id, parents_after set events takes parents) ∷ []) []) (so_far keep same get k events) ≡ so_far keep same get (suc k) events
    commit_more k id mark branch author committer encoding comment parents ops aliases is distinct true some r l =
        step_gone keep same get events k (Commit id mark branch author committer encoding comment parents ops aliases) is (ap not r)
    commit_more k id mark branch author committer encoding comment parents ops aliases is distinct false true r l =
        step_changed keep same get events k (Commit id mark branch author committer encoding comment parents ops aliases) is once (λ x. refl) (own_parents_id (parents_after set events takes)) (ap not r)
        (with_parents (parents_after set events takes parents)) refl
    commit_more k id mark branch author committer encoding comment parents ops aliases is distinct false false r l =
        step_same keep same get events k (Commit id mark branch author committer encoding comment parents ops aliases) is
        (ap (λ (ps : List ℕ). Commit id mark branch author committer encoding comment ps ops aliases) (unremoved_parents (is_removed set) (past events) parents distinct l))

    -- one event more
    one_more : (k : ℕ) (e : PlainEvent) → slice_get events k ≡ Some e → are_distinct (event_parents e) ≡ true →
        with_all_parents (own_change events set e) (so_far keep same get k events) ≡ so_far keep same get (suc k) events
    one_more k (Commit id mark branch author committer encoding comment parents ops aliases) is distinct =
        commit_more k id mark branch author committer encoding comment parents ops aliases is distinct (is_removed set id) (list_any (is_removed set) parents) refl refl
    one_more k (Blob id mark bytes) is distinct = step_same keep same get events k (Blob id mark bytes) is refl
    one_more k (Tag id name target tagger comment mark) is distinct = step_same keep same get events k (Tag id name target tagger comment mark) is refl
    one_more k (Reset id branch target) is distinct = step_same keep same get events k (Reset id branch target) is refl
    one_more k (Pass id line) is distinct = step_same keep same get events k (Pass id line) is refl

    parents_append : (cs ds : List (ℕ × List ℕ)) (es : List PlainEvent) → with_all_parents (cs ++ ds) es ≡ with_all_parents ds (with_all_parents cs es)
    parents_append [] ds es = refl
    parents_append (c ∷ cs) ds es = parents_append cs ds (changed (any.Commit c.0) (with_parents c.1) es)

    further : (n k : ℕ) → n + k ≡ length events →
        with_all_parents (flat_map (own_change events set) (drop k events)) (so_far keep same get k events) ≡ map get (staying set takes events)
    further zero k counted =
        ap (λ es. with_all_parents (flat_map (own_change events set) es) (so_far keep same get k events)) (none_left k events (omega arith))
        ∙ so_far_all keep same get k events (omega arith)
    further (suc n) k counted =
        let item = item_at events k (omega arith) in
        ap (λ es. with_all_parents (flat_map (own_change events set) es) (so_far keep same get k events)) (drop_item events k item.0 item.1)
        ∙ parents_append (own_change events set item.0) (flat_map (own_change events set) (drop (suc k) events)) (so_far keep same get k events)
        ∙ ap (with_all_parents (flat_map (own_change events set) (drop (suc k) events))) (one_more k item.0 item.1 (all_at (λ x. IsTrue (are_distinct (event_parents x))) events k item.0 parents_once item.1))
        ∙ further n (suc k) (omega arith)

    -- the changes of parents give each event that stays its own
    pub parents_given : with_all_parents (parent_changes events set) (staying set takes events) ≡ map get (staying set takes events)
    parents_given = ap (with_all_parents (parent_changes events set)) (sym (nothing_yet (staying set takes events))) ∙ further (length events) 0 (omega arith)
      where
        nothing_yet : (es : List PlainEvent) → map same es ≡ es
        nothing_yet [] = refl
        nothing_yet (e ∷ es) = ap (λ l. e ∷ l) (nothing_yet es)

-- ---- steps of the code

-- an event that isn't there can't be changed
pub changed_nowhere : (id : AnyId) (f : PlainEvent → PlainEvent) (es : List PlainEvent) → place_of id es ≡ None → changed id f es ≡ es
changed_nowhere id f [] h = refl
changed_nowhere id f (e ∷ es) h = by (same_id id (id_of e)) h (λ later. changed_nowhere id f es later)
  where
    none : (o : Option ℕ) → option_map suc o ≡ None → o ≡ None
    none None h = refl
    none (Some k) h = absurd cc

    by : (b : Bool) → cond b (Some 0) (option_map suc (place_of id es)) ≡ None → (place_of id es ≡ None → changed id f es ≡ es) →
        cond b (f e ∷ es) (e ∷ changed id f es) ≡ e ∷ es
    by true h rest = absurd cc
    by false h rest = ap (λ l. e ∷ l) (rest (none (place_of id es) h))

-- one change more
pub parents_push : (cs : List (ℕ × List ℕ)) (c : ℕ × List ℕ) (es : List PlainEvent) →
    with_all_parents (cs ++ c ∷ []) es ≡ changed (any.Commit c.0) (with_parents c.1) (with_all_parents cs es)
parents_push [] c es = refl
parents_push (d ∷ cs) c es = parents_push cs c (changed (any.Commit d.0) (with_parents d.1) es)

-- an event that has a place is there
pub found_is : (id : AnyId) (es : List PlainEvent) → is_some (find_event id es) ≡ is_some (place_of id es)
found_is id es = sym (has_id_find es id) ∙ has_id_place es id

-- a list that changes twice is another list of the same plan
pub same_but : (p q r : Change) (x y : List PlainEvent) → p ≡ record q { after = x } → q ≡ record r { after = y } → p ≡ record r { after = p.after }
same_but p q r x y is was =
    is ∙ ap (λ (c : Change). record c { after = x }) was
    ∙ ap (λ (z : List PlainEvent). record r { after = z }) (sym (ap (λ (c : Change). c.after) is))
