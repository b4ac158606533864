-- Paths on two sides, while one after another is noted.
use Rattle.std.proofs.Common.{◌≡◌, ◌∙◌, ℕ, suc, ◌<◌, Bool, true, false, cond, not, filter, map, inl, inr, List, [], ◌∷◌, ◌++◌, Some, refl, sym, ap, append-nil, flat_map, subst, get_or, length, take, true≢false}
use Rattle.std.specs.Prelude.{◌||◌, bytes_eq, slice_get}
use Rattle.std.specs.List.{AllByRecursion, list_any}
use Rattle.std.proofs.lemmas.Bool.{cases_Bool, false_from_ne_true, or_cases}
use Rattle.std.proofs.lemmas.Slice.Eq.{bytes_eq-Decides}
use Rattle.std.proofs.Math.Bool.{or-false, or_comm}
use Rattle.std.proofs.lemmas.Grind.{flat_map-append}
use Rattle.std.proofs.lemmas.List.Elements.{filter-append}
use Rattle.std.proofs.lemmas.List.Folds.{list_any-append}
use Rattle.plain_model.specs.declared.id.AnyId.{AnyId}
use Rattle.plain_model.specs.declared.operation.FileOp.{FileOp}
use Rattle.plain_model.specs.declared.operation.FileOp.TheVariants.{Modify, Delete, Copy, Rename, DeleteAll}
use Rattle.plain_model.specs.declared.event.PlainEvent.{PlainEvent}
use Rattle.plain_model.specs.declared.event.PlainEvent.TheVariants.{Blob, Commit, Tag, Reset, Pass}
use Rattle.plain_model.specs.Histories.{nodes}
use Rattle.plain_model.specs.Lookups.{event_ops, op_blobs}
use Rattle.plain_model.specs.Paths.{Bytes, do_conflict, is_below}
use Rattle.history_laws.proofs.Lists.{all_imply, all_join}
use Rattle.edit_laws.proofs.Lists.{events_of_nodes}
use Rattle.event_arena.proofs.ListLemmas.{take_item, take_more}
use Rattle.expunge_laws.specs.Apart.{AllOps, IsApart, KeepsClear, event_without}
use Rattle.expunge_laws.specs.Untouched.{may_be_touched, may_touch}
use Rattle.path_expunge.specs.Apart.{AreSides, GoesOn, IsNoted, IsWhole, is_in, is_named, takes}
use Rattle.path_expunge.specs.declared.naming.Named.{Named}
use Rattle.path_expunge.specs.declared.sides.Side.{Side}

-- ---- one path more

module _ (matched : Bytes → Bool) (named : Named) (h : AreSides matched named) (own : Bytes) (new : Side) (whole : IsWhole new) where
  -- a side that goes on
  abbrev Adds : Side → Type 0
  Adds old = (p : Bytes) → is_in p new.paths ≡ bytes_eq p own || is_in p old.paths

  -- what holds of the path and of those that were there
  among : (old : Side) → Adds old → (P : Bytes → Type 0) → P own → ((p : Bytes) → is_in p old.paths ≡ true → P p) → (p : Bytes) → is_in p new.paths ≡ true → P p
  among old added P here there p k = elim (or_cases (bytes_eq p own) (is_in p old.paths) (sym (added p) ∙ k)) [
    | inl same ↦ subst P (sym ((bytes_eq-Decides p own).0 same)) here
    | inr was ↦ there p was
  ]

  pub one_taken : matched own ≡ true → ((other : Bytes) → is_in other named.left.paths ≡ true → do_conflict own other ≡ false) → Adds named.taken → AreSides matched (record { taken = new; left = named.left })
  one_taken is clear added = record {
    taken_whole = whole;
    left_whole = h.left_whole;
    taken = among named.taken added (λ p. matched p ≡ true) is h.taken;
    left = h.left;
    apart = λ p other k. among named.taken added (λ q. is_in other named.left.paths ≡ true → do_conflict q other ≡ false) (clear other) (λ q was. h.apart q other was) p k;
  }

  pub one_left : matched own ≡ false → ((other : Bytes) → is_in other named.taken.paths ≡ true → do_conflict own other ≡ false) → Adds named.left → AreSides matched (record { taken = named.taken; left = new })
  one_left is clear added = record {
    taken_whole = h.taken_whole;
    left_whole = whole;
    taken = h.taken;
    left = among named.left added (λ p. matched p ≡ false) is h.left;
    apart = λ p other k. among named.left added (λ q. do_conflict p q ≡ false) (or_comm (is_below p own) (is_below own p) ∙ clear p k) (λ q was. h.apart p q k was) other;
  }

-- ---- operations and events

pub still_noted : (old new : Named) → GoesOn old new → (op : FileOp) → IsNoted old op → IsNoted new op
still_noted old new more (Modify mode content p) n = more p n
still_noted old new more (Delete p) n = more p n
still_noted old new more (Copy source target) n = absurd n
still_noted old new more (Rename source target) n = absurd n
still_noted old new more DeleteAll n = tt

-- whether some of the operations up to one touch a matched path
pub ops_taken : (matched : Bytes → Bool) (ops : List FileOp) (k : ℕ) (op : FileOp) (before own : Bool) → k < length ops → op ≡ get_or ops k op →
    before ≡ list_any (may_touch matched) (take k ops) → own ≡ may_touch matched op → before || own ≡ list_any (may_touch matched) (take (suc k) ops)
ops_taken matched ops k op before own low at was is =
    (λ i. was i || is i) ∙ ap (λ b. list_any (may_touch matched) (take k ops) || b) (sym (or-false (may_touch matched op)))
    ∙ sym (ap (list_any (may_touch matched)) (take_more ops k op low at) ∙ list_any-append (may_touch matched) (take k ops) (op ∷ []))

-- the blobs that operations name which don't touch one
abbrev pub blobs_left : (Bytes → Bool) → List FileOp → List AnyId
blobs_left matched ops = flat_map op_blobs (filter (λ op. not (may_touch matched op)) ops)

-- one operation more
pub left_more : (matched : Bytes → Bool) (ops : List FileOp) (k : ℕ) (op : FileOp) → k < length ops → op ≡ get_or ops k op →
    blobs_left matched (take (suc k) ops) ≡ blobs_left matched (take k ops) ++ cond (may_touch matched op) [] (op_blobs op)
left_more matched ops k op low at =
    ap (blobs_left matched) (take_more ops k op low at)
    ∙ ap (flat_map op_blobs) (filter-append (λ x. not (may_touch matched x)) (take k ops) (op ∷ []))
    ∙ flat_map-append op_blobs (filter (λ x. not (may_touch matched x)) (take k ops)) (cond (not (may_touch matched op)) (op ∷ []) [])
    ∙ ap (λ (ids : List AnyId). blobs_left matched (take k ops) ++ ids) (go (may_touch matched op))
  where
    go : (b : Bool) → flat_map op_blobs (cond (not b) (op ∷ []) []) ≡ cond b [] (op_blobs op)
    go true = refl
    go false = append-nil (op_blobs op)

-- the operations up to one that was noted
pub ops_noted : (old new : Named) → GoesOn old new → (ops : List FileOp) (k : ℕ) (op : FileOp) → k < length ops → op ≡ get_or ops k op → AllByRecursion (IsNoted old) (take k ops) → IsNoted new op → AllByRecursion (IsNoted new) (take (suc k) ops)
ops_noted old new more ops k op low at before own =
    subst (AllByRecursion (IsNoted new)) (sym (take_more ops k op low at))
    (all_join (IsNoted new) (take k ops) (op ∷ []) (all_imply (IsNoted old) (IsNoted new) (still_noted old new more) (take k ops) before) (own, tt))

-- the events up to one that was noted
pub events_noted : (old new : Named) → GoesOn old new → (events : List PlainEvent) (k : ℕ) (e : PlainEvent) → slice_get events k ≡ Some e →
    AllByRecursion (λ x. AllOps (IsNoted old) (x ∷ [])) (take k events) → AllOps (IsNoted new) (e ∷ []) → AllByRecursion (λ x. AllOps (IsNoted new) (x ∷ [])) (take (suc k) events)
events_noted old new more events k e at before own =
    subst (AllByRecursion (λ x. AllOps (IsNoted new) (x ∷ []))) (sym (take_item events k e at))
    (all_join (λ x. AllOps (IsNoted new) (x ∷ [])) (take k events) (e ∷ [])
    (all_imply (λ x. AllOps (IsNoted old) (x ∷ [])) (λ x. AllOps (IsNoted new) (x ∷ []))
    (λ x a. all_imply (λ n. AllByRecursion (IsNoted old) n.ops) (λ n. AllByRecursion (IsNoted new) n.ops) (λ n b. all_imply (IsNoted old) (IsNoted new) (still_noted old new more) n.ops b) (nodes (x ∷ [])) a)
    (take k events) before)
    (own, tt))

-- what its operations name is what an event names
pub event_named : (P : FileOp → Type 0) (e : PlainEvent) → AllByRecursion P (event_ops e) → AllOps P (e ∷ [])
event_named P (Commit id mark branch author committer encoding comment parents ops aliases) all = (all, tt)
event_named P (Blob id mark bytes) all = tt
event_named P (Tag id name target tagger comment mark) all = tt
event_named P (Reset id branch target) all = tt
event_named P (Pass id line) all = tt

-- and touch what it touches
pub ops_touch : (matched : Bytes → Bool) (e : PlainEvent) → list_any (may_touch matched) (event_ops e) ≡ may_be_touched matched e
ops_touch matched (Commit id mark branch author committer encoding comment parents ops aliases) = refl
ops_touch matched (Blob id mark bytes) = refl
ops_touch matched (Tag id name target tagger comment mark) = refl
ops_touch matched (Reset id branch target) = refl
ops_touch matched (Pass id line) = refl

pub whole_noted : (named : Named) (events : List PlainEvent) → AllByRecursion (λ x. AllOps (IsNoted named) (x ∷ [])) events → AllOps (IsNoted named) events
whole_noted named events a = events_of_nodes (λ n. AllByRecursion (IsNoted named) n.ops) events a

-- ---- paths stand apart

module _ (matched : Bytes → Bool) (named : Named) (h : AreSides matched named) where
  on_left : (p : Bytes) → is_named named p ≡ true → matched p ≡ false → is_in p named.left.paths ≡ true
  on_left p n is = elim (or_cases (is_in p named.taken.paths) (is_in p named.left.paths) n) [
    | inl it ↦ absurd (true≢false (sym (h.taken p it) ∙ is))
    | inr it ↦ it
  ]

  on_taken : (p : Bytes) → is_named named p ≡ true → matched p ≡ true → is_in p named.taken.paths ≡ true
  on_taken p n is = elim (or_cases (is_in p named.taken.paths) (is_in p named.left.paths) n) [
    | inl it ↦ it
    | inr it ↦ absurd (true≢false (sym is ∙ h.left p it))
  ]

  as_matched : (p : Bytes) → is_named named p ≡ true → is_in p named.taken.paths ≡ matched p
  as_matched p n = elim (cases_Bool (matched p)) [
    | inl it ↦ on_taken p n it ∙ sym it
    | inr not_it ↦ false_from_ne_true (is_in p named.taken.paths) (λ taken. true≢false (sym (h.taken p taken) ∙ not_it)) ∙ sym not_it
  ]

  clear_by_name : (p : Bytes) → is_in p named.taken.paths ≡ true → (op : FileOp) → IsNoted named op → KeepsClear matched p op
  clear_by_name p taken (Modify mode content other) n = λ is. h.apart p other taken (on_left other n is)
  clear_by_name p taken (Delete other) n = tt
  clear_by_name p taken (Copy source target) n = absurd n
  clear_by_name p taken (Rename source target) n = absurd n
  clear_by_name p taken DeleteAll n = tt

  module _ (events : List PlainEvent) (noted : AllOps (IsNoted named) events) where
    all_clear : (p : Bytes) → is_in p named.taken.paths ≡ true → AllOps (KeepsClear matched p) events
    all_clear p taken =
        all_imply (λ n. AllByRecursion (IsNoted named) n.ops) (λ n. AllByRecursion (KeepsClear matched p) n.ops)
        (λ n a. all_imply (IsNoted named) (KeepsClear matched p) (clear_by_name p taken) n.ops a) (nodes events) noted

    apart_by_name : (op : FileOp) → IsNoted named op → IsApart matched events op
    apart_by_name (Modify mode content p) n = λ is. all_clear p (on_taken p n is)
    apart_by_name (Delete p) n = λ is. all_clear p (on_taken p n is)
    apart_by_name (Copy source target) n = absurd n
    apart_by_name (Rename source target) n = absurd n
    apart_by_name DeleteAll n = tt

    pub all_apart : AllOps (IsApart matched events) events
    all_apart =
        all_imply (λ n. AllByRecursion (IsNoted named) n.ops) (λ n. AllByRecursion (IsApart matched events) n.ops)
        (λ n a. all_imply (IsNoted named) (IsApart matched events) apart_by_name n.ops a) (nodes events) noted

  -- ---- what is taken out

  taken_as_matched : (op : FileOp) → IsNoted named op → takes named op ≡ may_touch matched op
  taken_as_matched (Modify mode content p) n = as_matched p n
  taken_as_matched (Delete p) n = as_matched p n
  taken_as_matched (Copy source target) n = absurd n
  taken_as_matched (Rename source target) n = absurd n
  taken_as_matched DeleteAll n = refl

  ops_as_matched : (ops : List FileOp) → AllByRecursion (IsNoted named) ops → filter (λ op. not (takes named op)) ops ≡ filter (λ op. not (may_touch matched op)) ops
  ops_as_matched [] a = refl
  ops_as_matched (op ∷ ops) a = λ i. cond (not (taken_as_matched op a.0 i)) (op ∷ ops_as_matched ops a.1 i) (ops_as_matched ops a.1 i)

  pub events_as_matched : (events : List PlainEvent) → AllOps (IsNoted named) events → map (event_without (takes named)) events ≡ map (event_without (may_touch matched)) events
  events_as_matched [] a = refl
  events_as_matched (Commit id mark branch author committer encoding comment parents ops aliases ∷ events) a =
      λ i. Commit id mark branch author committer encoding comment parents (ops_as_matched ops a.0 i) aliases ∷ events_as_matched events a.1 i
  events_as_matched (Blob id mark bytes ∷ events) a = ap (λ (es : List PlainEvent). Blob id mark bytes ∷ es) (events_as_matched events a)
  events_as_matched (Tag id name target tagger comment mark ∷ events) a = ap (λ (es : List PlainEvent). Tag id name target tagger comment mark ∷ es) (events_as_matched events a)
  events_as_matched (Reset id branch target ∷ events) a = ap (λ (es : List PlainEvent). Reset id branch target ∷ es) (events_as_matched events a)
  events_as_matched (Pass id line ∷ events) a = ap (λ (es : List PlainEvent). Pass id line ∷ es) (events_as_matched events a)

  any_as_matched : (ops : List FileOp) → AllByRecursion (IsNoted named) ops → list_any (takes named) ops ≡ list_any (may_touch matched) ops
  any_as_matched [] a = refl
  any_as_matched (op ∷ ops) a = λ i. taken_as_matched op a.0 i || any_as_matched ops a.1 i

  pub flags_as_matched : (events : List PlainEvent) → AllOps (IsNoted named) events → map (λ e. list_any (takes named) (event_ops e)) events ≡ map (may_be_touched matched) events
  flags_as_matched [] a = refl
  flags_as_matched (Commit id mark branch author committer encoding comment parents ops aliases ∷ events) a =
      λ i. any_as_matched ops a.0 i ∷ flags_as_matched events a.1 i
  flags_as_matched (Blob id mark bytes ∷ events) a = ap (λ (l : List Bool). false ∷ l) (flags_as_matched events a)
  flags_as_matched (Tag id name target tagger comment mark ∷ events) a = ap (λ (l : List Bool). false ∷ l) (flags_as_matched events a)
  flags_as_matched (Reset id branch target ∷ events) a = ap (λ (l : List Bool). false ∷ l) (flags_as_matched events a)
  flags_as_matched (Pass id line ∷ events) a = ap (λ (l : List Bool). false ∷ l) (flags_as_matched events a)
