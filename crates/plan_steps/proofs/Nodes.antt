-- Commits that are found by their ids.
use Rattle.std.proofs.Common.{◌≡◌, ◌∙◌, ℕ, ◌≤◌, Bool, true, false, cond, List, [], ◌∷◌, length, arith, Option, Some, None, refl, sym, ap, subst, inl, inr, true≢false}
use Rattle.std.specs.Prelude.{◌||◌, ◌==◌, IsSome, is_some, slice_get, unwrap_or}
use Rattle.std.specs.List.{AllByRecursion}
use Rattle.std.proofs.lemmas.Bool.{cases_Bool, cond-false, cond-true}
use Rattle.std.proofs.lemmas.Option.{none-some, same_Some}
use Rattle.plain_model.specs.declared.id.AnyId.{AnyId}
use Rattle.plain_model.specs.declared.id.AnyId.TheVariants as any
use Rattle.plain_model.specs.declared.operation.FileOp.{FileOp}
use Rattle.plain_model.specs.declared.person.Signed.{Signed}
use Rattle.plain_model.specs.declared.event.PlainEvent.{PlainEvent}
use Rattle.plain_model.specs.declared.event.PlainEvent.TheVariants.{Blob, Commit, Tag, Reset, Pass}
use Rattle.plain_model.specs.Histories.{Node, Past, knows, node_at, past}
use Rattle.plain_model.specs.Lookups.{event_ops, event_parents, find_event, id_of, same_id}
use Rattle.plain_model.specs.Snapshots.{commit_mark}
use Rattle.plain_model.specs.Soundness.{IsSound}
use Rattle.plain_model.proofs.Numbers.{eqb_turned}
use Rattle.history_laws.proofs.Ids.{find_id}
use Rattle.ancestry_laws.proofs.Pasts.{known_past}
use Rattle.history_laws.proofs.SoundOnce.{has_id_find}
use Rattle.edit_laws.proofs.Lists.{OfNodes}
use Rattle.commit_laws.specs.Selected.{node_of}
use Rattle.commit_laws.proofs.Given.{IsGiven, IsHere, all_given, parents_here, rank}

-- what is true of all events is true of one that is found
pub all_found : (P : PlainEvent → Type 0) (id : AnyId) (es : List PlainEvent) (e : PlainEvent) → AllByRecursion P es → find_event id es ≡ Some e → P e
all_found P id [] e a h = absurd (none-some e h)
all_found P id (x ∷ es) e a h = elim (cases_Bool (same_id id (id_of x))) [
  | inl it ↦ subst P (same_Some x e (rw it at h)) a.0
  | inr no_it ↦ all_found P id es e a.1 (rw no_it at h)
]

-- a commit that isn't known has no node
unknown_node : (a : Past) (c : ℕ) → knows a c ≡ false → node_at a c ≡ None
unknown_node [] c h = refl
unknown_node (n ∷ older) c h = go (n.id == c) h (λ k. unknown_node older c k)
  where
    go : (b : Bool) → b || knows older c ≡ false → (knows older c ≡ false → node_at older c ≡ None) → cond b (Some n) (node_at older c) ≡ None
    go true h f = absurd (true≢false h)
    go false h f = f h

module _ (events : List PlainEvent) where
  abbrev no_node : ℕ → Node
  no_node c = record { id = c; parents = []; ops = [] }

  -- one that isn't there has no parents and no operations
  pub absent_node : (c : ℕ) → find_event (any.Commit c) events ≡ None → node_of events c ≡ no_node c
  absent_node c h =
      ap (λ (o : Option Node). unwrap_or o (no_node c)) (unknown_node (past events) c (known_past events c ∙ has_id_find events (any.Commit c) ∙ ap is_some h))

  -- one that the past finds as it is
  pub found_parts : (n : Node) → node_at (past events) n.id ≡ Some n → node_of events n.id ≡ n
  found_parts n is = ap (λ (o : Option Node). unwrap_or o (no_node n.id)) is

  module _ (sound : IsSound events) where
    -- what is known of an event that is found
    pub given : (id : AnyId) (e : PlainEvent) → find_event id events ≡ Some e → IsGiven events (rank events sound) e
    given id e h = all_found (IsGiven events (rank events sound)) id events e (all_given events sound) h

    -- a commit that is found has its parents and its operations
    pub found_node : (c : ℕ) (e : PlainEvent) → find_event (any.Commit c) events ≡ Some e → node_of events c ≡ record { id = c; parents = event_parents e; ops = event_ops e }
    found_node c e h =
        ap (λ (o : Option Node). unwrap_or o (no_node c)) (own e (find_id (any.Commit c) events e h) (given (any.Commit c) e h).found)
      where
        own : (e : PlainEvent) → any.Commit c ≡ id_of e → OfNodes (λ (n : Node). node_at (past events) n.id ≡ Some n) e → node_at (past events) c ≡ Some (record { id = c; parents = event_parents e; ops = event_ops e })
        own (Commit id mark branch author committer encoding comment parents ops aliases) same f =
            let is : id ≡ c = cc in
            subst (λ x. node_at (past events) x ≡ Some (record { id = x; parents = parents; ops = ops })) is f.0
        own (Blob id mark bytes) same f = absurd cc
        own (Tag id name target tagger comment mark) same f = absurd cc
        own (Reset id branch target) same f = absurd cc
        own (Pass id line) same f = absurd cc

-- a commit that has an operation is there
pub there_with_ops : (events : List PlainEvent) (c : ℕ) → 1 ≤ length (node_of events c).ops → IsSome (find_event (any.Commit c) events)
there_with_ops events c some = go (find_event (any.Commit c) events) refl
  where
    go : (o : Option PlainEvent) → find_event (any.Commit c) events ≡ o → IsSome o
    go None is =
        let none : length (node_of events c).ops ≡ 0 = ap (λ (n : Node). length n.ops) (absent_node events c is) in
        absurd (omega arith)
    go (Some e) is = refl

-- its parents are there
pub parents_there : (events : List PlainEvent) → IsSound events → (c : ℕ) → AllByRecursion (IsHere events) (node_of events c).parents
parents_there events sound c = go (find_event (any.Commit c) events) refl
  where
    of_event : (e : PlainEvent) → IsGiven events (rank events sound) e → AllByRecursion (IsHere events) (event_parents e)
    of_event (Commit id mark branch author committer encoding comment parents ops aliases) g = parents_here events parents ops g.ready
    of_event (Blob id mark bytes) g = tt
    of_event (Tag id name target tagger comment mark) g = tt
    of_event (Reset id branch target) g = tt
    of_event (Pass id line) g = tt

    go : (o : Option PlainEvent) → find_event (any.Commit c) events ≡ o → AllByRecursion (IsHere events) (node_of events c).parents
    go None is = subst (λ (n : Node). AllByRecursion (IsHere events) n.parents) (sym (absent_node events c is)) tt
    go (Some e) is = subst (λ (n : Node). AllByRecursion (IsHere events) n.parents) (sym (found_node events sound c e is)) (of_event e (given events sound (any.Commit c) e is))

-- only a commit has the id of one
pub only_commits : (c : ℕ) (e : PlainEvent) → any.Commit c ≡ id_of e →
    ((id mark : ℕ) (branch : List ℕ) (author committer : Signed) (encoding : Option (List ℕ)) (comment : List ℕ) (parents : List ℕ) (ops : List FileOp) (aliases : List ℕ) → e ≡ Commit id mark branch author committer encoding comment parents ops aliases → ⊥) → ⊥
only_commits c (Commit id mark branch author committer encoding comment parents ops aliases) same other = other id mark branch author committer encoding comment parents ops aliases refl
only_commits c (Blob id mark bytes) same other = cc
only_commits c (Tag id name target tagger comment mark) same other = cc
only_commits c (Reset id branch target) same other = cc
only_commits c (Pass id line) same other = cc

-- the mark of a commit is that of the event with its id
pub mark_found : (events : List PlainEvent) (c id mark : ℕ) (branch : List ℕ) (author committer : Signed) (encoding : Option (List ℕ)) (comment : List ℕ) (parents : List ℕ) (ops : List FileOp) (aliases : List ℕ) →
    find_event (any.Commit c) events ≡ Some (Commit id mark branch author committer encoding comment parents ops aliases) → commit_mark events c ≡ mark
mark_found [] c id mark branch author committer encoding comment parents ops aliases h = absurd cc
mark_found (Commit i m b a k x t ps its more ∷ es) c id mark branch author committer encoding comment parents ops aliases h = go (c == i) refl h (mark_found es c id mark branch author committer encoding comment parents ops aliases)
  where
    go : (b' : Bool) → (c == i) ≡ b' → cond b' (Some (Commit i m b a k x t ps its more)) (find_event (any.Commit c) es) ≡ Some (Commit id mark branch author committer encoding comment parents ops aliases) →
        (find_event (any.Commit c) es ≡ Some (Commit id mark branch author committer encoding comment parents ops aliases) → commit_mark es c ≡ mark) → cond (i == c) m (commit_mark es c) ≡ mark
    go true is h later = let same : m ≡ mark = cc in cond-true (i == c) m (commit_mark es c) (eqb_turned i c ∙ is) ∙ same
    go false is h later = cond-false (i == c) m (commit_mark es c) (eqb_turned i c ∙ is) ∙ later h
mark_found (Blob i m bytes ∷ es) c id mark branch author committer encoding comment parents ops aliases h = mark_found es c id mark branch author committer encoding comment parents ops aliases h
mark_found (Tag i name target tagger t m ∷ es) c id mark branch author committer encoding comment parents ops aliases h = mark_found es c id mark branch author committer encoding comment parents ops aliases h
mark_found (Reset i b target ∷ es) c id mark branch author committer encoding comment parents ops aliases h = mark_found es c id mark branch author committer encoding comment parents ops aliases h
mark_found (Pass i line ∷ es) c id mark branch author committer encoding comment parents ops aliases h = mark_found es c id mark branch author committer encoding comment parents ops aliases h

-- what is true of all is true of the first
pub first_of : (P : ℕ → Type 0) (ps : List ℕ) (p : ℕ) → slice_get ps 0 ≡ Some p → AllByRecursion P ps → P p
first_of P [] p h a = absurd (none-some p h)
first_of P (q ∷ ps) p h a = subst P (same_Some q p h) a.0
