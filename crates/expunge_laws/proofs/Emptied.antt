-- The emptied commits are those that the test finds, and no commit gets more parents than it had.
use Rattle.std.proofs.Common.{◌≡◌, ℕ, ◌≤◌, Bool, true, false, cond, not, List, [], ◌∷◌, ◌++◌, length, map, filter, refl, sym, ap, subst, ◌∙◌, inl, inr, arith, le_trans, true≢false, append_assoc, eqb-true, Some, None}
use Rattle.std.specs.Prelude.{◌||◌, ◌&&◌, ◌==◌, flat_map}
use Rattle.std.specs.List.{AllByRecursion}
use Rattle.std.proofs.lemmas.Bool.{and_parts, cases_Bool, or_parts}
use Rattle.std.proofs.lemmas.List.{length-append}
use Rattle.plain_model.specs.declared.id.AnyId.{AnyId}
use Rattle.plain_model.specs.declared.id.AnyId.TheVariants as any
use Rattle.plain_model.specs.declared.limit.TheConstants.{MAX_PARENTS}
use Rattle.plain_model.specs.declared.event.PlainEvent.{PlainEvent}
use Rattle.plain_model.specs.declared.event.PlainEvent.TheVariants.{Blob, Commit, Tag, Reset, Pass}
use Rattle.plain_model.specs.Histories.{Node, Past, nodes, past}
use Rattle.plain_model.specs.Lookups.{id_of, is_listed, same_id}
use Rattle.plain_model.specs.Paths.{Bytes}
use Rattle.plain_model.specs.Soundness.{IsSound, has_id}
use Rattle.edit_laws.specs.Parts.{AreOnce, HasFewParents, of_id, tally}
use Rattle.edit_laws.specs.Removal.{expand, expand_all}
use Rattle.edit_laws.proofs.Chains.{expand_gone, expand_other, expand_stays}
use Rattle.history_laws.proofs.Ids.{has_id_append, has_id_cons, same_id_refl}
use Rattle.history_laws.proofs.Lists.{all_reverse}
use Rattle.edit_laws.proofs.Lists.{OfNodes, all_flat, events_of_nodes, has_own_id, not_before}
use Rattle.edit_laws.proofs.Repeats.{shorter_once}
use Rattle.edit_laws.proofs.Sound.{in_parts, new_there}
use Rattle.squash_laws.specs.Removed.{is_removed, left_of, all_left, parents_after}
use Rattle.squash_laws.specs.Takings.{is_none}
use Rattle.plain_model.specs.declared.policy.Lean.TheVariants as lean
use Rattle.squash_laws.proofs.Left.{one_left, one_moved}
use Rattle.expunge_laws.specs.Expunged.{emptied, is_emptied, is_no_merge, ops_left, replaced_event, replaced_events}
use Rattle.expunge_laws.specs.PushForward.{forward_takes}

-- ---- ids of events that pass a test

or_assoc : (x y z : Bool) → x || (y || z) ≡ (x || y) || z
or_assoc true y z = refl
or_assoc false y z = refl

module _ (test : PlainEvent → Bool) (id : AnyId) where
  abbrev listed : List PlainEvent → Bool
  listed es = is_listed id (map id_of (filter test es))

  listed_cons : (e : PlainEvent) (es : List PlainEvent) → listed (e ∷ es) ≡ (test e && same_id id (id_of e)) || listed es
  listed_cons e es = elim (test e) as (λ b. is_listed id (map id_of (cond b (e ∷ filter test es) (filter test es))) ≡ (b && same_id id (id_of e)) || listed es) [ true ↦ refl | false ↦ refl ]

  listed_append : (xs ys : List PlainEvent) → listed (xs ++ ys) ≡ listed xs || listed ys
  listed_append [] ys = refl
  listed_append (x ∷ xs) ys =
      listed_cons x (xs ++ ys)
      ∙ ap (λ b. (test x && same_id id (id_of x)) || b) (listed_append xs ys)
      ∙ or_assoc (test x && same_id id (id_of x)) (listed xs) (listed ys)
      ∙ ap (λ b. b || listed ys) (sym (listed_cons x xs))

  none_listed : (es : List PlainEvent) → has_id es id ≡ false → listed es ≡ false
  none_listed [] h = refl
  none_listed (e ∷ es) h =
      let parts = or_parts (same_id id (id_of e)) (has_id es id) (sym (has_id_cons e es id) ∙ h) in
      listed_cons e es ∙ ap (λ b. (test e && b) || listed es) parts.0 ∙ ap (λ b. b || listed es) (none (test e)) ∙ none_listed es parts.1
    where
      none : (b : Bool) → b && false ≡ false
      none true = refl
      none false = refl

-- in a list in which each id occurs once an event's id is listed exactly where the event passes
listed_there : (test : PlainEvent → Bool) (xs : List PlainEvent) (e : PlainEvent) (es : List PlainEvent) → AreOnce (xs ++ e ∷ es) → is_listed (id_of e) (map id_of (filter test (xs ++ e ∷ es))) ≡ test e
listed_there test xs e es o =
    let id = id_of e in
    listed_append test id xs (e ∷ es)
    ∙ ap (λ b. b || listed test id (e ∷ es)) (none_listed test id xs (new_there id xs e es (o.ids id) (has_own_id e)))
    ∙ listed_cons test id e es
    ∙ ap (λ b. (test e && b) || listed test id es) (same_id_refl id)
    ∙ ap (λ b. (test e && true) || b) (none_listed test id es later)
    ∙ both (test e)
  where
    both : (b : Bool) → (b && true) || false ≡ b
    both true = refl
    both false = refl

    there : has_id (xs ++ e ∷ []) (id_of e) ≡ true
    there = has_id_append xs (e ∷ []) (id_of e) ∙ ap (λ b. has_id xs (id_of e) || b) (has_own_id e) ∙ any_or (has_id xs (id_of e))
      where
        any_or : (b : Bool) → b || true ≡ true
        any_or true = refl
        any_or false = refl

    later : has_id es (id_of e) ≡ false
    later =
        elim (cases_Bool (has_id es (id_of e))) [
          | inl again ↦
              absurd (true≢false (sym there
              ∙ not_before (λ l. has_id l (id_of e)) (λ x y. has_id_append x y (id_of e)) refl (xs ++ e ∷ []) es (subst (λ (l : List PlainEvent). tally (of_id (id_of e)) l ≤ 1) (sym (append_assoc xs (e ∷ []) es)) (o.ids (id_of e))) again))
          | inr it ↦ it
        ]

pub listed_each : (test : PlainEvent → Bool) (whole xs es : List PlainEvent) → whole ≡ xs ++ es → AreOnce whole → AllByRecursion (λ e. is_listed (id_of e) (map id_of (filter test whole)) ≡ test e) es
listed_each test whole xs [] is o = tt
listed_each test whole xs (e ∷ es) is o = (
  ap (λ (l : List PlainEvent). is_listed (id_of e) (map id_of (filter test l))) is ∙ listed_there test xs e es (subst AreOnce is o),
  listed_each test whole (xs ++ e ∷ []) es (is ∙ sym (append_assoc xs (e ∷ []) es)) o,
)

-- ---- few parents

module _ (removed : ℕ → Bool) where
  -- a removed commit is no merge
  abbrev pub IsSingle : Node → Type 0
  IsSingle n = removed n.id ≡ true → is_no_merge n.parents ≡ true

  -- no more commits than parents
  shorter_all : (a : Past) → ((p : ℕ) → length (expand removed a p) ≤ 1) → (ps : List ℕ) → length (flat_map (expand removed a) ps) ≤ length ps
  shorter_all a f [] = omega arith
  shorter_all a f (p ∷ ps) =
      let one = f p in
      let rest = shorter_all a f ps in
      let parts = length-append (expand removed a p) (flat_map (expand removed a) ps) in
      omega arith

  shorter_parents : (a : Past) → ((p : ℕ) → length (expand removed a p) ≤ 1) → (ps : List ℕ) → length (expand_all removed a ps) ≤ length ps
  shorter_parents a f ps = let one = shorter_once (flat_map (expand removed a) ps) in let all = shorter_all a f ps in omega arith

  no_merge : (ps : List ℕ) → is_no_merge ps ≡ true → length ps ≤ 1
  no_merge [] h = omega arith
  no_merge (p ∷ []) h = omega arith
  no_merge (p ∷ q ∷ ps) h = absurd (true≢false (sym h))

  one_expanded : (a : Past) → AllByRecursion IsSingle a → (p : ℕ) → length (expand removed a p) ≤ 1
  one_expanded [] s p = omega arith
  one_expanded (n ∷ older) s p =
      elim (cases_Bool (n.id == p)) [
        | inl same ↦ elim (cases_Bool (removed p)) [
          | inl gone ↦
              let its : removed n.id ≡ true = ap removed (eqb-true n.id p same) ∙ gone in
              let one = no_merge n.parents (s.0 its) in
              let all = shorter_parents older (λ q. one_expanded older s.1 q) n.parents in
              subst (λ (l : List ℕ). length l ≤ 1) (sym (expand_gone removed n older p same gone)) (omega arith)
          | inr stays ↦ subst (λ (l : List ℕ). length l ≤ 1) (sym (expand_stays removed n older p same stays)) (omega arith)
        ]
        | inr other ↦ subst (λ (l : List ℕ). length l ≤ 1) (sym (expand_other removed n older p other)) (one_expanded older s.1 p)
      ]

few_none : 0 ≤ MAX_PARENTS
few_none = omega arith

-- ---- the history

module _ (matched : Bytes → Bool) (events : List PlainEvent) (h : IsSound events) where
  abbrev set : List AnyId
  set = emptied matched events

  abbrev changed : List PlainEvent
  changed = replaced_events matched events

  -- an event is emptied exactly where its id is among those of the emptied ones
  pub emptied_each : AllByRecursion (λ e. is_listed (id_of e) set ≡ is_emptied matched events e) events
  emptied_each = listed_each (is_emptied matched events) events [] events refl (in_parts events h).once

  single_events : (es : List PlainEvent) → AllByRecursion (λ e. is_listed (id_of e) set ≡ is_emptied matched events e) es → AllByRecursion (OfNodes (IsSingle (is_removed set))) (map (replaced_event matched events) es)
  single_events [] a = tt
  single_events (Commit id mark branch author committer encoding comment parents ops aliases ∷ es) a = (
    (λ r. (and_parts (not (is_none ops) && is_none (ops_left matched events parents ops)) (is_no_merge parents) (sym a.0 ∙ r)).1, tt),
    single_events es a.1,
  )
  single_events (Blob id mark bytes ∷ es) a = (tt, single_events es a.1)
  single_events (Tag id name target tagger comment mark ∷ es) a = (tt, single_events es a.1)
  single_events (Reset id branch target ∷ es) a = (tt, single_events es a.1)
  single_events (Pass id line ∷ es) a = (tt, single_events es a.1)

  one_each : (p : ℕ) → length (expand (is_removed set) (past changed) p) ≤ 1
  one_each p =
      one_expanded (is_removed set) (past changed)
      (all_reverse (IsSingle (is_removed set)) (nodes changed) (events_of_nodes (IsSingle (is_removed set)) changed (single_events events emptied_each))) p

  few_left : (e : PlainEvent) → HasFewParents e → AllByRecursion HasFewParents (left_of set changed (forward_takes set changed false lean.Forward) e)
  few_left (Commit id mark branch author committer encoding comment parents ops aliases) f =
      let takes = forward_takes set changed false lean.Forward in
      one_left HasFewParents (is_removed set id)
      (Commit id mark branch author committer encoding (takes.comment id parents comment) (parents_after set changed takes parents) (takes.ops id parents ops) aliases)
      (λ stays. le_trans (shorter_parents (is_removed set) (past changed) one_each parents) f)
  few_left (Blob id mark bytes) f = (few_none, tt)
  few_left (Tag id name target tagger comment mark) f = one_moved HasFewParents (is_listed (any.Tag id) set) (λ t. Tag id name t tagger comment mark) ((forward_takes set changed false lean.Forward).target target) (λ t is. few_none)
  few_left (Reset id branch None) f = one_left HasFewParents (is_listed (any.Reset id) set) (Reset id branch None) (λ stays. few_none)
  few_left (Reset id branch (Some target)) f = one_moved HasFewParents (is_listed (any.Reset id) set) (λ t. Reset id branch (Some t)) ((forward_takes set changed false lean.Forward).target target) (λ t is. few_none)
  few_left (Pass id line) f = one_left HasFewParents (is_listed (any.Pass id) set) (Pass id line) (λ stays. few_none)

  pub all_few : IsSound changed → AllByRecursion HasFewParents (all_left set changed (forward_takes set changed false lean.Forward))
  all_few sound = all_flat HasFewParents HasFewParents (left_of set changed (forward_takes set changed false lean.Forward)) few_left changed (in_parts changed sound).few
