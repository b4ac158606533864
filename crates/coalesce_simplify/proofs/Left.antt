-- What is left where joined commits are taken away, event by event.
use Rattle.std.proofs.Common.{◌≡◌, ◌∙◌, ℕ, Bool, true, false, cond, not, List, [], ◌∷◌, ◌++◌, filter, map, flat_map, Option, Some, None, refl, sym, ap, subst, true≢false}
use Rattle.std.proofs.Math.Bool.{or-false}
use Rattle.std.specs.List.{AllByRecursion}
use Rattle.std.specs.Prelude.{◌||◌, is_some, slice_get}
use Rattle.plain_model.specs.declared.id.AnyId.{AnyId}
use Rattle.plain_model.specs.declared.id.AnyId.TheVariants as any
use Rattle.plain_model.specs.declared.operation.FileOp.{FileOp}
use Rattle.plain_model.specs.declared.person.Signed.{Signed}
use Rattle.plain_model.specs.declared.event.PlainEvent.{PlainEvent}
use Rattle.plain_model.specs.declared.event.PlainEvent.TheVariants.{Blob, Commit, Tag, Reset, Pass}
use Rattle.plain_model.specs.Histories.{Node, nodes, past}
use Rattle.plain_model.specs.Lookups.{commit_id, id_of, is_listed, same_id}
use Rattle.plain_model.specs.Paths.{Bytes}
use Rattle.plain_model.specs.Soundness.{IsSound, are_distinct}
use Rattle.history_laws.specs.FirstParents.{ops_along}
use Rattle.history_laws.proofs.Lists.{all_imply, all_reverse}
use Rattle.event_arena.specs.Changes.{without_all}
use Rattle.edit_laws.specs.Parts.{IsLawful}
use Rattle.edit_laws.proofs.Lists.{OfNodes, events_of_nodes, nodes_of_events}
use Rattle.edit_laws.proofs.Sound.{in_parts}
use Rattle.graph_walk.proofs.TurnLemmas.{all_at}
use Rattle.squash_laws.specs.Removed.{Takings, all_left, is_removed, left_of, parents_after}
use Rattle.squash_laws.specs.Takings.{links}
use Rattle.plan_steps.specs.Leaving.{event_after, goes}
use Rattle.plan_steps.proofs.LeavingLemmas.{after_id, left_one}
use Rattle.coalesce_laws.specs.Remaining.{parents_of_oldest}
use Rattle.coalesce_laws.proofs.Coalesced.{single_nodes}
use Rattle.coalesce_laws.proofs.Single.{AreSingle, none_anew, of_oldest}
use Rattle.coalesce_simplify.specs.Joining.{AreJoined, end_of, joined_event, joins}
use Rattle.coalesce_simplify.proofs.Joins.{others_stay, passes}
use Rattle.coalesce_simplify.proofs.Leading.{target_there}

module _ (set : List AnyId) (events : List PlainEvent) where
  abbrev its : Takings
  its = joins set events

  abbrev after : PlainEvent → PlainEvent
  after = event_after (parents_after set events its) its

  -- each event keeps its id
  pub joined_id : (e : PlainEvent) → id_of (joined_event set events e) ≡ id_of e
  joined_id e = go (is_listed (id_of e) set)
    where
      go : (b : Bool) → id_of (cond b e (after e)) ≡ id_of e
      go true = refl
      go false = after_id (parents_after set events its) its e

  -- one of the set stays as it is
  pub one_same : (e : PlainEvent) → is_listed (id_of e) set ≡ true → joined_event set events e ≡ e
  one_same e h = ap (λ b. cond b e (after e)) h

  -- tags and resets go along
  pub tag_moved : (id : ℕ) (name : Bytes) (target : ℕ) (tagger : Option Signed) (comment : Bytes) (mark : Option ℕ) → is_listed (any.Tag id) set ≡ false →
      Tag id name (end_of set events target) tagger comment mark ≡ joined_event set events (Tag id name target tagger comment mark)
  tag_moved id name target tagger comment mark h = sym (ap (λ b. cond b (Tag id name target tagger comment mark) (after (Tag id name target tagger comment mark))) h)

  pub reset_moved : (id : ℕ) (branch : Bytes) (target : ℕ) → is_listed (any.Reset id) set ≡ false →
      Reset id branch (Some (end_of set events target)) ≡ joined_event set events (Reset id branch (Some target))
  reset_moved id branch target h = sym (ap (λ b. cond b (Reset id branch (Some target)) (after (Reset id branch (Some target)))) h)

  -- and other events stay
  pub blob_same : (id mark : ℕ) (bytes : Bytes) → joined_event set events (Blob id mark bytes) ≡ Blob id mark bytes
  blob_same id mark bytes = go (is_listed (any.Blob id) set)
    where
      go : (b : Bool) → cond b (Blob id mark bytes) (Blob id mark bytes) ≡ Blob id mark bytes
      go true = refl
      go false = refl

  pub begin_same : (id : ℕ) (branch : Bytes) → joined_event set events (Reset id branch None) ≡ Reset id branch None
  begin_same id branch = go (is_listed (any.Reset id) set)
    where
      go : (b : Bool) → cond b (Reset id branch None) (Reset id branch None) ≡ Reset id branch None
      go true = refl
      go false = refl

  pub pass_same : (id : ℕ) (line : Bytes) → joined_event set events (Pass id line) ≡ Pass id line
  pass_same id line = go (is_listed (any.Pass id) set)
    where
      go : (b : Bool) → cond b (Pass id line) (Pass id line) ≡ Pass id line
      go true = refl
      go false = refl

  module _ (h : IsSound events) (j : AreJoined set events) where
    abbrev passing : PlainEvent → Bool
    passing = passes j.0 j.1 events

    -- only commits are of the set
    apart : (e : PlainEvent) → commit_id e ≡ None → (i : ℕ) → same_id (id_of e) (any.Commit i) ≡ false
    apart (Commit id mark branch author committer encoding comment parents ops aliases) none i = absurd cc
    apart (Blob id mark bytes) none i = refl
    apart (Tag id name target tagger comment mark) none i = refl
    apart (Reset id branch target) none i = refl
    apart (Pass id line) none i = refl

    others_unlisted : (e : PlainEvent) → commit_id e ≡ None → is_listed (id_of e) set ≡ false
    others_unlisted e none = ap (is_listed (id_of e)) j.2 ∙ all events
      where
        one : (x : PlainEvent) → passing x ≡ true → same_id (id_of e) (id_of x) ≡ false
        one (Commit i mark branch author committer encoding comment parents ops aliases) p = apart e none i
        one (Blob id mark bytes) p = absurd (true≢false (sym p ∙ others_stay j.0 j.1 events (Blob id mark bytes) refl))
        one (Tag id name target tagger comment mark) p = absurd (true≢false (sym p ∙ others_stay j.0 j.1 events (Tag id name target tagger comment mark) refl))
        one (Reset id branch target) p = absurd (true≢false (sym p ∙ others_stay j.0 j.1 events (Reset id branch target) refl))
        one (Pass id line) p = absurd (true≢false (sym p ∙ others_stay j.0 j.1 events (Pass id line) refl))

        all : (es : List PlainEvent) → is_listed (id_of e) (map id_of (filter passing es)) ≡ false
        all [] = refl
        all (x ∷ es) = by (passing x) (one x) (all es)
          where
            by : (b : Bool) → (b ≡ true → same_id (id_of e) (id_of x) ≡ false) → is_listed (id_of e) (map id_of (filter passing es)) ≡ false →
                is_listed (id_of e) (map id_of (cond b (x ∷ filter passing es) (filter passing es))) ≡ false
            by true f rest = ap (λ b. b || is_listed (id_of e) (map id_of (filter passing es))) (f refl) ∙ rest
            by false f rest = rest

    -- so those of the set go, and no others
    stays_there : (id : AnyId) (o : Option ℕ) → is_some o ≡ true → is_listed id set || not (is_some o) ≡ is_listed id set
    stays_there id o some = ap (λ b. is_listed id set || not b) some ∙ or-false (is_listed id set)

    goes_is : (e : PlainEvent) → goes set its e ≡ is_listed (id_of e) set
    goes_is (Commit id mark branch author committer encoding comment parents ops aliases) = refl
    goes_is (Blob id mark bytes) = sym (others_unlisted (Blob id mark bytes) refl)
    goes_is (Tag id name target tagger comment mark) = stays_there (any.Tag id) (its.target target) (target_there set events h j target)
    goes_is (Reset id branch (Some target)) = stays_there (any.Reset id) (its.target target) (target_there set events h j target)
    goes_is (Reset id branch None) = refl
    goes_is (Pass id line) = refl

    left_some : (es : List PlainEvent) → without_all set (map (joined_event set events) es) ≡ flat_map (left_of set events its) es
    left_some [] = refl
    left_some (e ∷ es) =
        ap (λ i. cond (not (is_listed i set)) (joined_event set events e ∷ without_all set (map (joined_event set events) es)) (without_all set (map (joined_event set events) es))) (joined_id e)
        ∙ by (is_listed (id_of e) set) (left_some es)
        ∙ sym (ap (λ l. l ++ flat_map (left_of set events its) es) (left_one set events its e ∙ ap (λ b. cond b [] (after e ∷ [])) (goes_is e)))
      where
        by : (b : Bool) → without_all set (map (joined_event set events) es) ≡ flat_map (left_of set events its) es →
            cond (not b) (cond b e (after e) ∷ without_all set (map (joined_event set events) es)) (without_all set (map (joined_event set events) es))
            ≡ cond b [] (after e ∷ []) ++ flat_map (left_of set events its) es
        by true rest = rest
        by false rest = ap (λ l. after e ∷ l) rest

    -- all that is left
    pub left_is : without_all set (map (joined_event set events) events) ≡ all_left set events its
    left_is = left_some events

    -- ---- a commit that stays

    single_all : AllByRecursion (λ (n : Node). AreSingle (is_removed set) n.parents) (nodes events)
    single_all = subst (λ s. AllByRecursion (λ (n : Node). AreSingle (is_removed s) n.parents) (nodes events)) (sym j.2) (single_nodes j.0 j.1 events h)

    distinct_all : AllByRecursion (λ (n : Node). are_distinct n.parents ≡ true) (nodes events)
    distinct_all = events_of_nodes (λ (n : Node). are_distinct n.parents ≡ true) events (all_imply IsLawful (OfNodes (λ (n : Node). are_distinct n.parents ≡ true)) each events (in_parts events h).lawful)
      where
        each : (e : PlainEvent) → IsLawful e → OfNodes (λ (n : Node). are_distinct n.parents ≡ true) e
        each (Commit id mark branch author committer encoding comment parents ops aliases) l = (l.4, tt)
        each (Blob id mark bytes) l = tt
        each (Tag id name target tagger comment mark) l = tt
        each (Reset id branch target) l = tt
        each (Pass id line) l = tt

    -- it has the parents of the oldest joined one before it, and the operations of all of these
    pub commit_joined : (k id mark : ℕ) (branch : Bytes) (author committer : Signed) (encoding : Option Bytes) (comment : Bytes) (parents : List ℕ) (ops : List FileOp) (aliases : List ℕ) →
        slice_get events k ≡ Some (Commit id mark branch author committer encoding comment parents ops aliases) → is_listed (any.Commit id) set ≡ false →
        Commit id mark branch author committer encoding comment (parents_of_oldest (links set events parents) parents) (ops_along (links set events parents) ++ ops) aliases
        ≡ joined_event set events (Commit id mark branch author committer encoding comment parents ops aliases)
    commit_joined k id mark branch author committer encoding comment parents ops aliases at stays =
        let e = Commit id mark branch author committer encoding comment parents ops aliases in
        let single = (all_at (OfNodes (λ (n : Node). AreSingle (is_removed set) n.parents)) events k e (nodes_of_events (λ (n : Node). AreSingle (is_removed set) n.parents) events single_all) at).0 in
        let distinct = (all_at (OfNodes (λ (n : Node). are_distinct n.parents ≡ true)) events k e (nodes_of_events (λ (n : Node). are_distinct n.parents ≡ true) events distinct_all) at).0 in
        let singles = all_reverse (λ (n : Node). AreSingle (is_removed set) n.parents) (nodes events) single_all in
        let its_parents = of_oldest (is_removed set) (past events) singles (all_reverse (λ (n : Node). are_distinct n.parents ≡ true) (nodes events) distinct_all) parents single distinct in
        let its_ops = ap (λ (before : List FileOp). before ++ (ops_along (links set events parents) ++ ops)) (none_anew (is_removed set) (past events) singles parents single) in
        (λ i. Commit id mark branch author committer encoding comment (sym its_parents i) (sym its_ops i) aliases)
        ∙ sym (ap (λ b. cond b e (after e)) stays)
