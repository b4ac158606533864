-- A sound history stays sound while marks are given.
use Rattle.std.proofs.Common.{◌≡◌, ℕ, ◌+◌, ◌<◌, ◌≤◌, true, false, List, [], ◌∷◌, ◌++◌, length, Some, None, refl, sym, ap, subst, ◌∙◌, inl, inr, ◌⊎◌, arith, length-append}
use Rattle.std.specs.Prelude.{◌||◌, IsSome}
use Rattle.std.specs.List.{AllByRecursion}
use Rattle.std.proofs.lemmas.Bool.{or_cases, false_from_ne_true}
use Rattle.plain_model.specs.declared.limit.TheConstants.{MAX_MARK}
use Rattle.plain_model.specs.declared.id.AnyId.{AnyId}
use Rattle.plain_model.specs.declared.id.AnyId.TheVariants as any
use Rattle.plain_model.specs.declared.operation.Mode.TheVariants.{Plain, Executable, Link, Gitlink}
use Rattle.plain_model.specs.declared.operation.Content.TheVariants.{Blob as OfBlob, Object}
use Rattle.plain_model.specs.declared.operation.FileOp.{FileOp}
use Rattle.plain_model.specs.declared.operation.FileOp.TheVariants.{Modify, Delete, Copy, Rename, DeleteAll}
use Rattle.plain_model.specs.declared.event.PlainEvent.{PlainEvent}
use Rattle.plain_model.specs.declared.event.PlainEvent.TheVariants.{Blob, Commit, Tag, Reset, Pass}
use Rattle.plain_model.specs.Lookups.{event_marks, marks_of, own_marks}
use Rattle.plain_model.specs.Soundness.{AreSoundAfter, IsCommitOf, IsFormedEvent, IsSound, IsSoundEvent, RefersBack, has_id}
use Rattle.plain_model.specs.Streams.{is_among, is_marked}
use Rattle.history_laws.proofs.SoundOnce.{is_marked_own}
use Rattle.history_laws.proofs.Ids.{has_id_append, is_marked_append}
use Rattle.renumbering.specs.Renumbered.{marked_from, marks_from, renumbered, renumbered_from}
use Rattle.renumbering.proofs.Few.{few_marks}
use Rattle.renumbering.proofs.Kept.{has_id_same, tree_same}
use Rattle.renumbering.proofs.Marks.{among_from, distinct_from, event_from, length_own, marks_are}

-- the two have the same ids, and the marks of the second are below the next one
record IsAfter (old new : List PlainEvent) (next : ℕ) : Type 0 where
  ids : (id : AnyId) → has_id old id ≡ has_id new id
  below : (m : ℕ) → is_marked new m ≡ true → m < next

-- nothing is before the first event
first_after : (next : ℕ) → IsAfter [] [] next
first_after next = record { ids = λ id. refl; below = λ m h. absurd cc }

-- one event more
after_more : (old new : List PlainEvent) (next : ℕ) (e : PlainEvent) → IsAfter old new next →
    IsAfter (old ++ e ∷ []) (new ++ marked_from next e ∷ []) (next + length (event_marks e))
after_more old new next e b = record { ids = ids; below = λ m h. below m (or_cases (is_marked new m) (is_marked (marked_from next e ∷ []) m) (sym (is_marked_append new (marked_from next e ∷ []) m) ∙ h)) }
  where
    ids : (id : AnyId) → has_id (old ++ e ∷ []) id ≡ has_id (new ++ marked_from next e ∷ []) id
    ids id =
        has_id_append old (e ∷ []) id
        ∙ (λ i. b.ids id i || sym (has_id_same next (e ∷ []) id) i)
        ∙ sym (has_id_append new (marked_from next e ∷ []) id)

    below : (m : ℕ) → (is_marked new m ≡ true) ⊎ (is_marked (marked_from next e ∷ []) m ≡ true) → m < next + length (event_marks e)
    below m (inl before) = let low = b.below m before in omega arith
    below m (inr own) = (among_from next (event_marks e) m (sym (is_marked_own (marked_from next e) m ∙ ap (λ ms. is_among ms m) (event_from next e)) ∙ own)).1

-- a mark that isn't below the next one is nowhere yet
is_new : (old new : List PlainEvent) (next m : ℕ) → IsAfter old new next → next ≤ m → is_marked new m ≡ false
is_new old new next m b high = false_from_ne_true (is_marked new m) (λ h. let low = b.below m h in absurd (omega arith))

are_new : (old new : List PlainEvent) (next n : ℕ) (ms : List ℕ) → IsAfter old new next → next ≤ n → AllByRecursion (λ m. is_marked new m ≡ false) (marks_from n ms)
are_new old new next n [] b high = tt
are_new old new next n (m ∷ ms) b high = (is_new old new next n b high, are_new old new next (n + 1) ms b (omega arith))

-- ---- what an event refers to

parents_still : (old new : List PlainEvent) → ((id : AnyId) → has_id old id ≡ has_id new id) → (parents : List ℕ) → AllByRecursion (IsCommitOf old) parents → AllByRecursion (IsCommitOf new) parents
parents_still old new same [] h = tt
parents_still old new same (p ∷ ps) h = (sym (same (any.Commit p)) ∙ h.0, parents_still old new same ps h.1)

op_still : (old new : List PlainEvent) → ((id : AnyId) → has_id old id ≡ has_id new id) → (op : FileOp) → RefersBack old op → RefersBack new op
op_still old new same (Modify Gitlink (OfBlob blob) path) h = h
op_still old new same (Modify Plain (OfBlob blob) path) h = sym (same (any.Blob blob)) ∙ h
op_still old new same (Modify Executable (OfBlob blob) path) h = sym (same (any.Blob blob)) ∙ h
op_still old new same (Modify Link (OfBlob blob) path) h = sym (same (any.Blob blob)) ∙ h
op_still old new same (Modify Gitlink (Object digits) path) h = tt
op_still old new same (Modify Plain (Object digits) path) h = tt
op_still old new same (Modify Executable (Object digits) path) h = tt
op_still old new same (Modify Link (Object digits) path) h = tt
op_still old new same (Delete path) h = tt
op_still old new same (Copy source target) h = tt
op_still old new same (Rename source target) h = tt
op_still old new same DeleteAll h = tt

ops_still : (old new : List PlainEvent) → ((id : AnyId) → has_id old id ≡ has_id new id) → (ops : List FileOp) → AllByRecursion (RefersBack old) ops → AllByRecursion (RefersBack new) ops
ops_still old new same [] h = tt
ops_still old new same (op ∷ ops) h = (op_still old new same op h.0, ops_still old new same ops h.1)

-- ---- all events

event_still : (old new : List PlainEvent) (next : ℕ) (e : PlainEvent) → IsAfter old new next → IsSoundEvent old e → IsSoundEvent new (marked_from next e)
event_still old new next (Blob id mark bytes) b h = (sym (b.ids (any.Blob id)) ∙ h.0, is_new old new next next b (omega arith))
event_still old new next (Commit id mark branch author committer encoding comment parents ops aliases) b h = (
  sym (b.ids (any.Commit id)) ∙ h.0,
  is_new old new next next b (omega arith),
  h.2,
  h.3,
  h.4,
  h.5,
  parents_still old new b.ids parents h.6,
  h.7,
  h.8,
  ops_still old new b.ids ops h.9,
  are_new old new next (next + 1) aliases b (omega arith),
  distinct_from next (mark ∷ aliases),
)
event_still old new next (Tag id name target tagger comment None) b h = (sym (b.ids (any.Tag id)) ∙ h.0, h.1, sym (b.ids (any.Commit target)) ∙ h.2, h.3, tt)
event_still old new next (Tag id name target tagger comment (Some mark)) b h =
    (sym (b.ids (any.Tag id)) ∙ h.0, h.1, sym (b.ids (any.Commit target)) ∙ h.2, h.3, is_new old new next next b (omega arith))
event_still old new next (Reset id branch None) b h = (sym (b.ids (any.Reset id)) ∙ h.0, h.1, tt)
event_still old new next (Reset id branch (Some c)) b h = (sym (b.ids (any.Reset id)) ∙ h.0, h.1, sym (b.ids (any.Commit c)) ∙ h.2)
event_still old new next (Pass id line) b h = (sym (b.ids (any.Pass id)) ∙ h.0, h.1)

formed_still : (old new : List PlainEvent) (next : ℕ) (events : List PlainEvent) → IsAfter old new next → AreSoundAfter old events → AreSoundAfter new (renumbered_from next events)
formed_still old new next [] b h = tt
formed_still old new next (e ∷ events) b h = (
  event_still old new next e b h.0,
  formed_still (old ++ e ∷ []) (new ++ marked_from next e ∷ []) (next + length (event_marks e)) events (after_more old new next e b) h.1,
)

-- as long as there are so many marks
spelled_event : (next : ℕ) (e : PlainEvent) → 1 ≤ next → next + length (event_marks e) ≤ MAX_MARK + 1 → IsFormedEvent e → IsFormedEvent (marked_from next e)
spelled_event next (Blob id mark bytes) low few h = (low, omega arith)
spelled_event next (Commit id mark branch author committer encoding comment parents ops aliases) low few h =
    ((low, omega arith), h.1, marks_are (next + 1) aliases (omega arith) (omega arith))
spelled_event next (Tag id name target tagger comment None) low few h = tt
spelled_event next (Tag id name target tagger comment (Some mark)) low few h = (low, omega arith)
spelled_event next (Reset id branch target) low few h = tt
spelled_event next (Pass id line) low few h = tt

spelled_still : (next : ℕ) (events : List PlainEvent) → 1 ≤ next → next + length (marks_of events) ≤ MAX_MARK + 1 → AllByRecursion IsFormedEvent events → AllByRecursion IsFormedEvent (renumbered_from next events)
spelled_still next [] low few h = tt
spelled_still next (e ∷ events) low few h =
    let both = length-append (own_marks e) (marks_of events) in
    let own = length_own e in
    (spelled_event next e low (omega arith) h.0, spelled_still (next + length (event_marks e)) events (omega arith) (omega arith) h.1)

pub sound_again : (events : List PlainEvent) → IsSound events → IsSound (renumbered events)
sound_again events h = record {
  formed = formed_still [] [] 1 events (first_after 1) h.formed;
  spelled = spelled_still 1 events (omega arith) (let few = few_marks events h in omega arith) h.spelled;
  trees = λ c is. subst IsSome (sym (tree_same 1 events c)) (h.trees c (sym (has_id_same 1 events (any.Commit c)) ∙ is));
}
