-- The ways back and forward of commits, event by event.
use Rattle.std.proofs.Common.{◌≡◌, ◌∙◌, ℕ, suc, ◌<◌, Bool, true, false, cond, ◌||◌, inl, inr, List, [], ◌∷◌, ◌++◌, Option, Some, None, refl, sym, ap, subst, length, get_or, take, drop, arith, true≢false}
use Rattle.std.proofs.Math.ListN.{set}
use Rattle.std.proofs.Math.Bool.{or-false, or-true}
use Rattle.std.proofs.lemmas.Bool.{cases_Bool, cases_eq, cond-true, cond-false, false_from_ne_true, or_from, or_parts}
use Rattle.std.proofs.lemmas.List.{get_or-set_other, get_or-set_same, length-set}
use Rattle.std.proofs.lemmas.List.Folds.{list_any-append}
use Rattle.std.proofs.lemmas.Option.{none-some, same_Some}
use Rattle.std.specs.List.{AllByRecursion, list_any}
use Rattle.std.specs.Prelude.{◌==◌, slice_get}
use Rattle.plain_model.specs.declared.id.AnyId.{AnyId}
use Rattle.plain_model.specs.declared.id.AnyId.TheVariants as any
use Rattle.plain_model.specs.declared.operation.FileOp.{FileOp}
use Rattle.plain_model.specs.declared.person.Signed.{Signed}
use Rattle.plain_model.specs.declared.event.PlainEvent.{PlainEvent}
use Rattle.plain_model.specs.declared.event.PlainEvent.TheVariants.{Blob, Commit, Tag, Reset, Pass}
use Rattle.plain_model.specs.Histories.{Past, knows, node_at, nodes, past}
use Rattle.plain_model.specs.Lookups.{commit_id, event_parents, find_event, id_of, is_listed, place_of}
use Rattle.plain_model.specs.Paths.{Bytes}
use Rattle.plain_model.specs.Soundness.{IsCommitOf, IsSound}
use Rattle.ancestry_laws.proofs.Pasts.{linked_past}
use Rattle.history_laws.specs.Once.{AreDistinct}
use Rattle.history_laws.proofs.SoundOnce.{sound_once}
use Rattle.event_arena.proofs.ListLemmas.{drop_item}
use Rattle.edit_laws.specs.Removal.{back, forward}
use Rattle.edit_laws.proofs.Following.{back_at, back_itself}
use Rattle.graph_walk.proofs.EarlierLemmas.{is_earlier, parents_before}
use Rattle.graph_walk.proofs.PlaceLemmas.{event_placed, place_found}
use Rattle.squash_laws.proofs.Hung.{back_first}
use Rattle.squash_laws.specs.Removed.{is_removed}
use Rattle.squash_laws.specs.Takings.{back_of}
use Rattle.plan_steps.specs.Ways.{AreBackOfRemoved, AreBackOfRemovedTo, AreForwardFrom, AreLed}
use Rattle.plan_steps.proofs.NodeLemmas.{found_node, node_of}

-- ---- commits and their ids

pub commit_own : (c : ℕ) (e : PlainEvent) → any.Commit c ≡ id_of e → commit_id e ≡ Some c
commit_own c (Commit id mark branch author committer encoding comment parents ops aliases) own = let is : c ≡ id = cc in ap Some (sym is)
commit_own c (Blob id mark bytes) own = absurd cc
commit_own c (Tag id name target tagger comment mark) own = absurd cc
commit_own c (Reset id branch target) own = absurd cc
commit_own c (Pass id line) own = absurd cc

pub own_commit : (c : ℕ) (e : PlainEvent) → commit_id e ≡ Some c → any.Commit c ≡ id_of e
own_commit c (Commit id mark branch author committer encoding comment parents ops aliases) is = ap any.Commit (sym (same_Some id c is))
own_commit c (Blob id mark bytes) is = absurd (none-some c is)
own_commit c (Tag id name target tagger comment mark) is = absurd (none-some c is)
own_commit c (Reset id branch target) is = absurd (none-some c is)
own_commit c (Pass id line) is = absurd (none-some c is)

-- what is no commit has no commit's id
pub no_id : (e : PlainEvent)
    → ((id mark : ℕ) (branch : Bytes) (author committer : Signed) (encoding : Option Bytes) (comment : Bytes) (parents : List ℕ) (ops : List FileOp) (aliases : List ℕ)
    → e ≡ Commit id mark branch author committer encoding comment parents ops aliases → ⊥)
    → commit_id e ≡ None
no_id (Commit id mark branch author committer encoding comment parents ops aliases) h = absurd (h id mark branch author committer encoding comment parents ops aliases refl)
no_id (Blob id mark bytes) h = refl
no_id (Tag id name target tagger comment mark) h = refl
no_id (Reset id branch target) h = refl
no_id (Pass id line) h = refl

-- nor a removed parent
pub no_parents : (set : List AnyId) (e : PlainEvent) → commit_id e ≡ None → list_any (is_removed set) (event_parents e) ≡ false
no_parents set (Commit id mark branch author committer encoding comment parents ops aliases) none = absurd (none-some id (sym none))
no_parents set (Blob id mark bytes) none = refl
no_parents set (Tag id name target tagger comment mark) none = refl
no_parents set (Reset id branch target) none = refl
no_parents set (Pass id line) none = refl

-- the first parent of an event is earlier
pub first_known : (events : List PlainEvent) → IsSound events → (k p : ℕ) (e : PlainEvent) → slice_get events k ≡ Some e →
    slice_get (event_parents e) 0 ≡ Some p → IsCommitOf (take k events) p
first_known events h k p e at is = by (event_parents e) is (parents_before [] events k e h.formed at)
  where
    by : (ps : List ℕ) → slice_get ps 0 ≡ Some p → AllByRecursion (IsCommitOf (take k events)) ps → IsCommitOf (take k events) p
    by [] is all = absurd (none-some p is)
    by (q ∷ ps) is all = subst (IsCommitOf (take k events)) (same_Some q p is) all.0

-- the place of an earlier commit, as it is found
pub record IsEarly (events : List PlainEvent) (k c place : ℕ) : Type 0 where
  pub event : PlainEvent
  pub low : place < k
  pub at : slice_get events place ≡ Some event
  pub own : commit_id event ≡ Some c

pub is_early : (events : List PlainEvent) (k c place : ℕ) → AreDistinct events → IsCommitOf (take k events) c →
    place_of (any.Commit c) events ≡ Some place → IsEarly events k c place
is_early events k c place once known there =
    let b = is_earlier events k c known in
    let same : b.place ≡ place = same_Some b.place place (sym (place_found events b.place b.event b.at once).0 ∙ ap (λ id. place_of id events) (sym b.own) ∙ there) in
    let low = b.low in
    record { event = b.event; low = omega arith; at = ap (slice_get events) (sym same) ∙ b.at; own = commit_own c b.event b.own }

-- the event at the place of a commit
pub record IsCommitAt (events : List PlainEvent) (c place : ℕ) : Type 0 where
  pub event : PlainEvent
  pub at : slice_get events place ≡ Some event
  pub own : commit_id event ≡ Some c

pub commit_placed : (events : List PlainEvent) (c place : ℕ) → place_of (any.Commit c) events ≡ Some place → IsCommitAt events c place
commit_placed events c place there =
    let x = event_placed events (any.Commit c) place there in
    record { event = x.event; at = x.at; own = commit_own c x.event x.own }

-- a flag of a commit says whether it is removed
pub removed_at : (set : List AnyId) (c : ℕ) (e : PlainEvent) (flag : Bool) → commit_id e ≡ Some c → flag ≡ is_listed (id_of e) set → flag ≡ is_removed set c
removed_at set c e flag is h = h ∙ ap (λ id. is_listed id set) (sym (own_commit c e is))

-- ---- commits that are led one way

number_same : (p c : ℕ) → (p == c) ≡ true → p ≡ c
number_same p c t = grind (arith)

pub led_more : (events : List PlainEvent) (commits : List ℕ) (p place : ℕ) (way : Option ℕ) (old table : List (Option ℕ)) → AreDistinct events →
    place_of (any.Commit p) events ≡ Some place → place < length old →
    AreLed events commits way old table → AreLed events (commits ++ p ∷ []) way old (set table place way)
led_more events commits p place way old table once there low l = record { count = length-set table place way ∙ l.count; entry = more }
  where
    same_number : (c : ℕ) → (c == c) ≡ true
    same_number c = grind (arith)

    more : (j : ℕ) (e : PlainEvent) (c : ℕ) → slice_get events j ≡ Some e → commit_id e ≡ Some c →
        get_or (set table place way) j None ≡ cond (list_any (λ q. q == c) (commits ++ p ∷ [])) way (get_or old j None)
    more j e c at is = elim (cases_eq place j) [
      | inl same ↦
          let x = event_placed events (any.Commit p) place there in
          let own_e : x.event ≡ e = same_Some x.event e (sym x.at ∙ ap (slice_get events) same ∙ at) in
          let one : any.Commit p ≡ any.Commit c = x.own ∙ ap id_of own_e ∙ sym (own_commit c e is) in
          let eq : p ≡ c = cc in
          let test : list_any (λ q. q == c) (commits ++ p ∷ []) ≡ true =
          list_any-append (λ q. q == c) commits (p ∷ []) ∙ ap (λ b. list_any (λ q. q == c) commits || (b || false)) (ap (λ q. q == c) eq ∙ same_number c) ∙ or-true (list_any (λ q. q == c) commits) in
          ap (λ i. get_or (set table place way) i None) (sym same) ∙ get_or-set_same table place way None (let count = l.count in omega arith)
          ∙ sym (cond-true (list_any (λ q. q == c) (commits ++ p ∷ [])) way (get_or old j None) test)
      | inr other ↦
          let test : (p == c) ≡ false = false_from_ne_true (p == c) (λ t. other (same_Some place j (sym there ∙ ap (λ q. place_of (any.Commit q) events) (number_same p c t) ∙ ap (λ id. place_of id events) (own_commit c e is) ∙ (place_found events j e at once).0))) in
          get_or-set_other table place j way None (λ e. other (sym e)) ∙ l.entry j e c at is
          ∙ ap (λ b. cond b way (get_or old j None)) (sym (list_any-append (λ q. q == c) commits (p ∷ []) ∙ ap (λ b. list_any (λ q. q == c) commits || (b || false)) test ∙ or-false (list_any (λ q. q == c) commits)))
    ]

module _ (set : List AnyId) (events : List PlainEvent) (h : IsSound events) where
  -- ---- back

  back_nil : (a : Past) → back (is_removed set) a [] ≡ None
  back_nil [] = refl
  back_nil (n ∷ older) = refl

  known : (c : ℕ) (e : PlainEvent) → find_event (any.Commit c) events ≡ Some e → knows (past events) c ≡ true
  known c e is = go (past events) (found_node events h c e is)
    where
      go : (a : Past) → node_at a c ≡ Some (node_of c e) → knows a c ≡ true
      go [] is = absurd (none-some (node_of c e) is)
      go (n ∷ older) is = elim (cases_Bool (n.id == c)) [
        | inl it ↦ ap (λ b. b || knows older c) it
        | inr no_it ↦ ap (λ b. b || knows older c) no_it ∙ go older (sym (cond-false (n.id == c) (Some n) (node_at older c) no_it) ∙ is)
      ]

  -- a commit that stays stands for itself
  pub back_stays : (c : ℕ) (e : PlainEvent) → find_event (any.Commit c) events ≡ Some e → is_removed set c ≡ false →
      back_of set events c ≡ Some c
  back_stays c e is stays = back_itself (is_removed set) (past events) c [] stays (known c e is)

  back_gone : (c : ℕ) (e : PlainEvent) → find_event (any.Commit c) events ≡ Some e → is_removed set c ≡ true →
      back_of set events c ≡ back (is_removed set) (past events) (event_parents e)
  back_gone c e is gone = back_at (is_removed set) (past events) (linked_past events h) c [] (node_of c e) (found_node events h c e is) gone

  -- a removed one where its first parent does
  pub back_root : (c : ℕ) (e : PlainEvent) → find_event (any.Commit c) events ≡ Some e → is_removed set c ≡ true →
      slice_get (event_parents e) 0 ≡ None → back_of set events c ≡ None
  back_root c e is gone none = back_gone c e is gone ∙ by (event_parents e) none
    where
      by : (ps : List ℕ) → slice_get ps 0 ≡ None → back (is_removed set) (past events) ps ≡ None
      by [] none = back_nil (past events)
      by (p ∷ ps) none = absurd (none-some p (sym none))

  pub back_parent : (c p : ℕ) (e : PlainEvent) → find_event (any.Commit c) events ≡ Some e → is_removed set c ≡ true →
      slice_get (event_parents e) 0 ≡ Some p → back_of set events c ≡ back_of set events p
  back_parent c p e is gone first = back_gone c e is gone ∙ by (event_parents e) first
    where
      by : (ps : List ℕ) → slice_get ps 0 ≡ Some p → back (is_removed set) (past events) ps ≡ back_of set events p
      by [] first = absurd (none-some p first)
      by (q ∷ ps) first = back_first (is_removed set) (past events) q ps [] ∙ ap (back_of set events) (same_Some q p first)

  -- what stands for a commit is where it goes
  stands_for : (p : ℕ) (way : Option ℕ) (e : PlainEvent) → find_event (any.Commit p) events ≡ Some e →
      (is_removed set p ≡ true → way ≡ back_of set events p) → cond (is_removed set p) way (Some p) ≡ back_of set events p
  stands_for p way e found leads = elim (cases_Bool (is_removed set p)) [
    | inl gone ↦ cond-true (is_removed set p) way (Some p) gone ∙ leads gone
    | inr stays ↦ cond-false (is_removed set p) way (Some p) stays ∙ sym (back_stays p e found stays)
  ]

  pub back_earlier : (k p place : ℕ) (table : List (Option ℕ)) → IsCommitOf (take k events) p → place_of (any.Commit p) events ≡ Some place →
      AreBackOfRemovedTo set events k table → cond (is_removed set p) (get_or table place None) (Some p) ≡ back_of set events p
  back_earlier k p place table earlier there t =
      let once = (sound_once events h).ids in
      let b = is_early events k p place once earlier there in
      let found : find_event (any.Commit p) events ≡ Some b.event = ap (λ id. find_event id events) (own_commit p b.event b.own) ∙ (place_found events place b.event b.at once).1 in
      stands_for p (get_or table place None) b.event found (t.entry place b.event b.at b.low p b.own)

  pub back_there : (p place : ℕ) (table : List (Option ℕ)) → place_of (any.Commit p) events ≡ Some place →
      AreBackOfRemoved set events table → cond (is_removed set p) (get_or table place None) (Some p) ≡ back_of set events p
  back_there p place table there t =
      let b = commit_placed events p place there in
      let found : find_event (any.Commit p) events ≡ Some b.event =
      ap (λ id. find_event id events) (own_commit p b.event b.own) ∙ (place_found events place b.event b.at (sound_once events h).ids).1 in
      stands_for p (get_or table place None) b.event found (t.entry place b.event b.at p b.own)

module _ (set : List AnyId) (events : List PlainEvent) where
  -- ---- forward

  abbrev pub later : ℕ → ℕ → Option ℕ
  later k c = forward (is_removed set) (nodes (drop k events)) c

  -- where a commit leads its parents
  abbrev pub leads_to : ℕ → ℕ → Option ℕ
  leads_to k c = cond (is_removed set c) (later (suc k) c) (Some c)

  -- all parents of a commit are led
  pub led_all : (k own : ℕ) (e : PlainEvent) (way : Option ℕ) (old table : List (Option ℕ)) → slice_get events k ≡ Some e → commit_id e ≡ Some own →
      way ≡ cond (is_removed set own) (get_or old k None) (Some own) →
      AreForwardFrom set events (suc k) old → AreLed events (event_parents e) way old table → AreForwardFrom set events k table
  led_all k own e way old table at is leads f l = record {
    count = l.count ∙ f.count;
    entry = λ j d here c its gone.
        l.entry j d c here its
        ∙ ap (λ x. cond (list_any (λ p. p == c) (event_parents e)) x (get_or old j None)) (leads ∙ stand)
        ∙ ap (λ x. cond (list_any (λ p. p == c) (event_parents e)) (leads_to k own) x) (f.entry j d here c its gone)
        ∙ step e c at is;
  }
    where
      stand : cond (is_removed set own) (get_or old k None) (Some own) ≡ leads_to k own
      stand = elim (cases_Bool (is_removed set own)) [
        | inl gone ↦ ap (λ x. cond (is_removed set own) x (Some own)) (f.entry k e at own is gone)
        | inr stays ↦
            cond-false (is_removed set own) (get_or old k None) (Some own) stays
            ∙ sym (cond-false (is_removed set own) (later (suc k) own) (Some own) stays)
      ]

      step : (e : PlainEvent) (c : ℕ) → slice_get events k ≡ Some e → commit_id e ≡ Some own →
          cond (list_any (λ p. p == c) (event_parents e)) (leads_to k own) (later (suc k) c) ≡ later k c
      step (Commit id mark branch author committer encoding comment parents ops aliases) c at is =
          let same : id ≡ own = same_Some id own is in
          ap (λ i. cond (list_any (λ p. p == c) parents) (leads_to k i) (later (suc k) c)) (sym same)
          ∙ ap (λ (es : List PlainEvent). forward (is_removed set) (nodes es) c) (sym (drop_item events k (Commit id mark branch author committer encoding comment parents ops aliases) at))
      step (Blob id mark bytes) c at is = absurd (none-some own is)
      step (Tag id name target tagger comment mark) c at is = absurd (none-some own is)
      step (Reset id branch target) c at is = absurd (none-some own is)
      step (Pass id line) c at is = absurd (none-some own is)

  -- an event that no removed commit is a parent of leads none
  pub led_none : (k : ℕ) (e : PlainEvent) (table : List (Option ℕ)) → slice_get events k ≡ Some e → list_any (is_removed set) (event_parents e) ≡ false →
      AreForwardFrom set events (suc k) table → AreForwardFrom set events k table
  led_none k e table at none f = record {
    count = f.count;
    entry = λ j d here c its gone. f.entry j d here c its gone ∙ step e c at none gone;
  }
    where
      not_among : (ps : List ℕ) (c : ℕ) → list_any (is_removed set) ps ≡ false → is_removed set c ≡ true → list_any (λ p. p == c) ps ≡ false
      not_among [] c none gone = refl
      not_among (p ∷ ps) c none gone =
          let parts = or_parts (is_removed set p) (list_any (is_removed set) ps) none in
          or_from (p == c) (list_any (λ q. q == c) ps)
          (false_from_ne_true (p == c) (λ t. true≢false (sym gone ∙ ap (is_removed set) (sym (number_same p c t)) ∙ parts.0)))
          (not_among ps c parts.1 gone)

      step : (e : PlainEvent) (c : ℕ) → slice_get events k ≡ Some e → list_any (is_removed set) (event_parents e) ≡ false → is_removed set c ≡ true →
          later (suc k) c ≡ later k c
      step (Commit id mark branch author committer encoding comment parents ops aliases) c at none gone =
          sym (cond-false (list_any (λ p. p == c) parents) (leads_to k id) (later (suc k) c) (not_among parents c none gone))
          ∙ ap (λ (es : List PlainEvent). forward (is_removed set) (nodes es) c) (sym (drop_item events k (Commit id mark branch author committer encoding comment parents ops aliases) at))
      step (Blob id mark bytes) c at none gone = ap (λ (es : List PlainEvent). forward (is_removed set) (nodes es) c) (sym (drop_item events k (Blob id mark bytes) at))
      step (Tag id name target tagger comment mark) c at none gone = ap (λ (es : List PlainEvent). forward (is_removed set) (nodes es) c) (sym (drop_item events k (Tag id name target tagger comment mark) at))
      step (Reset id branch target) c at none gone = ap (λ (es : List PlainEvent). forward (is_removed set) (nodes es) c) (sym (drop_item events k (Reset id branch target) at))
      step (Pass id line) c at none gone = ap (λ (es : List PlainEvent). forward (is_removed set) (nodes es) c) (sym (drop_item events k (Pass id line) at))
