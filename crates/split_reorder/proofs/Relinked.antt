-- Commits that get other parents one after another have the parents that a reorder gives them.
use Rattle.std.proofs.Common.{◌≡◌, ◌∙◌, ℕ, suc, ◌-◌, length, arith, Bool, true, false, cond, not, inl, inr, List, [], ◌∷◌, ◌++◌, Option, Some, None, map, refl, sym, ap, eqb-true, true≢false}
use Rattle.std.specs.Prelude.{◌==◌, ◌||◌, slice_get}
use Rattle.std.specs.List.{AllByRecursion, list_any}
use Rattle.std.specs.Map.{lookup}
use Rattle.std.proofs.lemmas.Bool.{cases_Bool, and_parts, cond-false, cond-true, not-true, or_parts}
use Rattle.plain_model.specs.declared.id.AnyId.TheVariants as any
use Rattle.plain_model.specs.declared.event.PlainEvent.{PlainEvent}
use Rattle.plain_model.specs.declared.event.PlainEvent.TheVariants.{Blob, Commit, Tag, Reset, Pass}
use Rattle.plain_model.specs.Histories.{Node}
use Rattle.plain_model.specs.Lookups.{children_of, find_event, id_of, same_id}
use Rattle.plain_model.specs.Soundness.{IsSound, are_distinct}
use Rattle.history_laws.proofs.Ids.{absent_cons, same_id_true}
use Rattle.event_arena.specs.declared.field.Field.TheVariants as field
use Rattle.event_arena.specs.Changes.{changed, with_parents}
use Rattle.history_laws.specs.Once.{AreDistinct}
use Rattle.history_laws.proofs.Lists.{map_same}
use Rattle.event_arena.proofs.ChangeLemmas.{id_with_field}
use Rattle.event_arena.proofs.DistinctLemmas.{distinct_changed}
use Rattle.history_laws.proofs.SoundOnce.{sound_once}
use Rattle.edit_laws.proofs.Lists.{OfNodes, nodes_of_events}
use Rattle.edit_laws.proofs.Children.{IsChild, all_children}
use Rattle.commit_laws.specs.Selected.{node_of}
use Rattle.commit_laws.proofs.Given.{IsGiven, all_given, rank}
use Rattle.reorder_laws.specs.Reorder.{instead, last_of, lined_up, relinked}
use Rattle.split_reorder.specs.Parents.{moved_parents, with_all}
use Rattle.split_reorder.proofs.Halving.{unmoved}
use Rattle.plan_steps.proofs.Nodes.{found_parts}

-- ---- lists

map_twice : (f g : PlainEvent → PlainEvent) (es : List PlainEvent) → map f (map g es) ≡ map (λ e. f (g e)) es
map_twice f g [] = refl
map_twice f g (e ∷ es) = ap (λ (l : List PlainEvent). f (g e) ∷ l) (map_twice f g es)

-- ---- one commit, and several

abbrev one : ℕ × List ℕ → PlainEvent → PlainEvent
one c e = cond (same_id (any.Commit c.0) (id_of e)) (with_parents c.1 e) e

abbrev assigned : List (ℕ × List ℕ) → PlainEvent → PlainEvent
assigned [] e = e
assigned (c ∷ cs) e = assigned cs (one c e)

not_it : (c : ℕ × List ℕ) (es : List PlainEvent) → find_event (any.Commit c.0) es ≡ None → es ≡ map (one c) es
not_it c [] h = refl
not_it c (e ∷ es) h =
    let rest = absent_cons (any.Commit c.0) e es h in
    rw rest.0 (ap (λ (l : List PlainEvent). e ∷ l) (not_it c es rest.1))

changed_one : (c : ℕ × List ℕ) (es : List PlainEvent) → AreDistinct es → changed (any.Commit c.0) (with_parents c.1) es ≡ map (one c) es
changed_one c [] once = refl
changed_one c (e ∷ es) once = elim (cases_Bool (same_id (any.Commit c.0) (id_of e))) [
  | inl it ↦
      let absent = ap (λ id. find_event id es) (same_id_true (any.Commit c.0) (id_of e) it) ∙ once.0 in
      rw it (ap (λ (l : List PlainEvent). with_parents c.1 e ∷ l) (not_it c es absent))
  | inr other ↦ rw other (ap (λ (l : List PlainEvent). e ∷ l) (changed_one c es once.1))
]

all_assigned : (cs : List (ℕ × List ℕ)) (es : List PlainEvent) → AreDistinct es → with_all cs es ≡ map (assigned cs) es
all_assigned [] es once = sym (map_same (λ e. e) es (itself es))
  where
    itself : (es : List PlainEvent) → AllByRecursion (λ (e : PlainEvent). e ≡ e) es
    itself [] = tt
    itself (e ∷ es) = (refl, itself es)
all_assigned (c ∷ cs) es once =
    all_assigned cs (changed (any.Commit c.0) (with_parents c.1) es) (distinct_changed (any.Commit c.0) (with_parents c.1) (id_with_field (field.Parents c.1)) es once)
    ∙ ap (map (assigned cs)) (changed_one c es once)
    ∙ map_twice (assigned cs) (one c) es

pub all_append : (cs ds : List (ℕ × List ℕ)) (es : List PlainEvent) → with_all (cs ++ ds) es ≡ with_all ds (with_all cs es)
all_append [] ds es = refl
all_append (c ∷ cs) ds es = all_append cs ds (changed (any.Commit c.0) (with_parents c.1) es)

-- ---- the parents of one commit

abbrev taken : List (ℕ × List ℕ) → ℕ → List ℕ → List ℕ
taken [] id ps = ps
taken (c ∷ cs) id ps = taken cs id (cond (c.0 == id) c.1 ps)

taken_append : (cs ds : List (ℕ × List ℕ)) (id : ℕ) (ps : List ℕ) → taken (cs ++ ds) id ps ≡ taken ds id (taken cs id ps)
taken_append [] ds id ps = refl
taken_append (c ∷ cs) ds id ps = taken_append cs ds id (cond (c.0 == id) c.1 ps)

-- of a line: what is given to it, if anything is
taken_none : (ps us : List ℕ) (id : ℕ) (qs : List ℕ) → list_any (λ m. m == id) us ≡ false → taken (lined_up ps us) id qs ≡ qs
taken_none ps [] id qs h = refl
taken_none ps (u ∷ us) id qs h =
    let parts = or_parts (u == id) (list_any (λ m. m == id) us) h in
    ap (taken (lined_up (u ∷ []) us) id) (cond-false (u == id) ps qs parts.0) ∙ taken_none (u ∷ []) us id qs parts.1

taken_line : (ps us : List ℕ) (id : ℕ) (qs : List ℕ) → are_distinct us ≡ true →
    taken (lined_up ps us) id qs ≡ elim (lookup (λ m. m == id) (lined_up ps us)) [ Some rs ↦ rs | None ↦ qs ]
taken_line ps [] id qs d = refl
taken_line ps (u ∷ us) id qs d =
    let parts = and_parts (not (list_any (λ m. m == u) us)) (are_distinct us) d in
    elim (cases_Bool (u == id)) [
      | inl it ↦
          let apart = ap (λ x. list_any (λ m. m == x) us) (sym (eqb-true u id it)) ∙ not-true (list_any (λ m. m == u) us) parts.0 in
          ap (taken (lined_up (u ∷ []) us) id) (cond-true (u == id) ps qs it) ∙ taken_none (u ∷ []) us id ps apart
          ∙ sym (ap given_or (cond-true (u == id) (Some ps) (lookup (λ m. m == id) (lined_up (u ∷ []) us)) it))
      | inr other ↦
          ap (taken (lined_up (u ∷ []) us) id) (cond-false (u == id) ps qs other) ∙ taken_line (u ∷ []) us id qs parts.1
          ∙ sym (ap given_or (cond-false (u == id) (Some ps) (lookup (λ m. m == id) (lined_up (u ∷ []) us)) other))
    ]
  where
    given_or : Option (List ℕ) → List ℕ
    given_or o = elim o [ Some rs ↦ rs | None ↦ qs ]

-- of commits that each get what a function says
taken_each : (f : ℕ → List ℕ) (cs : List ℕ) (id : ℕ) (qs : List ℕ) → taken (map (λ c. (c, f c)) cs) id qs ≡ cond (list_any (λ m. m == id) cs) (f id) qs
taken_each f [] id qs = refl
taken_each f (c ∷ cs) id qs = taken_each f cs id (cond (c == id) (f c) qs) ∙ go (c == id) refl (list_any (λ m. m == id) cs)
  where
    go : (b : Bool) → (c == id) ≡ b → (any : Bool) → cond any (f id) (cond b (f c) qs) ≡ cond (b || any) (f id) qs
    go true is true = refl
    go true is false = ap f (eqb-true c id is)
    go false is any = refl

assigned_commit : (cs : List (ℕ × List ℕ)) (id mark : ℕ) (branch : List ℕ) (author committer : _) (encoding : Option (List ℕ)) (comment parents : List ℕ) (ops : _) (aliases : List ℕ) →
    assigned cs (Commit id mark branch author committer encoding comment parents ops aliases) ≡ Commit id mark branch author committer encoding comment (taken cs id parents) ops aliases
assigned_commit [] id mark branch author committer encoding comment parents ops aliases = refl
assigned_commit (c ∷ cs) id mark branch author committer encoding comment parents ops aliases = go (c.0 == id) (λ ps. assigned_commit cs id mark branch author committer encoding comment ps ops aliases)
  where
    go : (b : Bool) → ((ps : List ℕ) → assigned cs (Commit id mark branch author committer encoding comment ps ops aliases) ≡ Commit id mark branch author committer encoding comment (taken cs id ps) ops aliases) →
        assigned cs (cond b (Commit id mark branch author committer encoding comment c.1 ops aliases) (Commit id mark branch author committer encoding comment parents ops aliases))
        ≡ Commit id mark branch author committer encoding comment (taken cs id (cond b c.1 parents)) ops aliases
    go true rest = rest c.1
    go false rest = rest parents

-- ---- the whole

module _ (events : List PlainEvent) (h : IsSound events) (old new : ℕ) (ps : List ℕ) (us : List ℕ) (once : are_distinct us ≡ true) where
  abbrev moves : List (ℕ × List ℕ)
  moves = moved_parents events old new (children_of old events)

  abbrev all : List (ℕ × List ℕ)
  all = moves ++ lined_up ps us

  -- a child gets the new last commit, and another commit keeps its parents
  moved_is : (n : Node) → node_of events n.id ≡ n → IsChild events n → taken moves n.id n.parents ≡ map (instead old new) n.parents
  moved_is n is child =
      taken_each (λ c. map (instead old new) (node_of events c).parents) (children_of old events) n.id n.parents
      ∙ go (list_any (λ m. m == n.id) (children_of old events)) refl
    where
      go : (b : Bool) → list_any (λ m. m == n.id) (children_of old events) ≡ b →
          cond b (map (instead old new) (node_of events n.id).parents) n.parents ≡ map (instead old new) n.parents
      go true e = ap (λ (m : Node). map (instead old new) m.parents) is
      go false e = elim (cases_Bool (list_any (λ q. q == old) n.parents)) [
        | inl it ↦ absurd (true≢false (sym (child old it) ∙ e))
        | inr other ↦ sym (unmoved old new n.parents other)
      ]

  each_relinked : (es : List PlainEvent) → AllByRecursion (IsGiven events (rank events h)) es → AllByRecursion (OfNodes (IsChild events)) es →
      map (assigned all) es ≡ map (relinked (lined_up ps us) old new) es
  each_relinked [] a k = refl
  each_relinked (e ∷ es) a k = λ i. own e a.0 k.0 i ∷ each_relinked es a.1 k.1 i
    where
      own : (e : PlainEvent) → IsGiven events (rank events h) e → OfNodes (IsChild events) e → assigned all e ≡ relinked (lined_up ps us) old new e
      own (Commit id mark branch author committer encoding comment parents ops aliases) g c =
          let n : Node = record { id = id; parents = parents; ops = ops } in
          let is : node_of events id ≡ n = found_parts events n g.found.0 in
          assigned_commit all id mark branch author committer encoding comment parents ops aliases
          ∙ ap (λ (qs : List ℕ). Commit id mark branch author committer encoding comment qs ops aliases)
          (taken_append moves (lined_up ps us) id parents ∙ ap (taken (lined_up ps us) id) (moved_is n is c.0) ∙ taken_line ps us id (map (instead old new) parents) once)
      own (Blob id mark bytes) g c = other all
        where
          other : (cs : List (ℕ × List ℕ)) → assigned cs (Blob id mark bytes) ≡ Blob id mark bytes
          other [] = refl
          other (d ∷ cs) = other cs
      own (Tag id name target tagger comment mark) g c = other all
        where
          other : (cs : List (ℕ × List ℕ)) → assigned cs (Tag id name target tagger comment mark) ≡ Tag id name target tagger comment mark
          other [] = refl
          other (d ∷ cs) = other cs
      own (Reset id branch target) g c = other all
        where
          other : (cs : List (ℕ × List ℕ)) → assigned cs (Reset id branch target) ≡ Reset id branch target
          other [] = refl
          other (d ∷ cs) = other cs
      own (Pass id line) g c = other all
        where
          other : (cs : List (ℕ × List ℕ)) → assigned cs (Pass id line) ≡ Pass id line
          other [] = refl
          other (d ∷ cs) = other cs

  -- first the children, then the line
  pub all_relinked : with_all (lined_up ps us) (with_all moves events) ≡ map (relinked (lined_up ps us) old new) events
  all_relinked =
      sym (all_append moves (lined_up ps us) events)
      ∙ all_assigned all events (sound_once events h).ids
      ∙ each_relinked events (all_given events h) (nodes_of_events (IsChild events) events (all_children events))

-- ---- one commit more

pub all_push : (cs : List (ℕ × List ℕ)) (c : ℕ × List ℕ) (es : List PlainEvent) → with_all (cs ++ c ∷ []) es ≡ changed (any.Commit c.0) (with_parents c.1) (with_all cs es)
all_push cs c es = all_append cs (c ∷ []) es

pub lined_push : (ps : List ℕ) (u : ℕ) (us : List ℕ) (x : ℕ) → lined_up ps (u ∷ (us ++ x ∷ [])) ≡ lined_up ps (u ∷ us) ++ (x, last_of u us ∷ []) ∷ []
lined_push ps u [] x = refl
lined_push ps u (y ∷ us) x = ap (λ (l : List (ℕ × List ℕ)). (u, ps) ∷ l) (lined_push (u ∷ []) y us x)

pub last_push : (u : ℕ) (us : List ℕ) (x : ℕ) → last_of u (us ++ x ∷ []) ≡ x
last_push u [] x = refl
last_push u (y ∷ us) x = last_push y us x

-- the last of some commits, by their number
pub last_is : (u : ℕ) (us : List ℕ) (x : ℕ) → Some x ≡ slice_get us (length us - 1) → x ≡ last_of u us
last_is u [] x h = absurd cc
last_is u (y ∷ []) x h = cc
last_is u (y ∷ z ∷ zs) x h =
    let down : suc (suc (length zs)) - 1 ≡ suc (length zs) = omega arith in
    let up : suc (length zs) - 1 ≡ length zs = omega arith in
    last_is y (z ∷ zs) x (h ∙ ap (slice_get (y ∷ z ∷ zs)) down ∙ ap (slice_get (z ∷ zs)) (sym up))
