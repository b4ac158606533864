-- An event behind others whose ids are below its own, and all events of a part one after another.
use Rattle.std.proofs.Common.{◌≡◌, ◌∙◌, ℕ, zero, suc, ◌+◌, ◌≤◌, Bool, true, false, cond, not, List, [], ◌∷◌, ◌++◌, drop, length, take, refl, sym, ap, subst, arith, append_assoc, length-append, Option, Some, None}
use Rattle.std.specs.Prelude.{is_some, slice_get, IsTrue, if◌then◌else◌}
use Rattle.std.specs.List.{AllByRecursion}
use Rattle.plain_model.specs.declared.id.AnyId.{AnyId}
use Rattle.plain_model.specs.declared.event.PlainEvent.{PlainEvent}
use Rattle.plain_model.specs.declared.event.PlainEvent.TheVariants.{Blob, Commit, Tag, Reset, Pass}
use Rattle.std.proofs.lemmas.List.{take-append-drop}
use Rattle.plain_model.specs.Lookups.{AreIdsBelow, event_marks, find_event, id_number, marks_of, own_marks, referents_of}
use Rattle.plain_model.specs.Soundness.{IsSound, has_id}
use Rattle.edit_laws.specs.Settling.{is_ready}
use Rattle.edit_laws.proofs.Lists.{all_true}
use Rattle.event_arena.specs.Graphs.{Change}
use Rattle.event_arena.proofs.ListLemmas.{take_all, take_item}
use Rattle.history_laws.proofs.SoundOnce.{has_id_find}
use Rattle.graft_laws.specs.Joining.{Joining, added, is_pass, without_passes}
use Rattle.graft_laws.proofs.Behind.{complete, sound_linked}
use Rattle.graft_laws.proofs.Events.{append_new, length_new, new, new_from, placed_new}
use Rattle.graft_laws.proofs.Free.{marks_join}
use Rattle.graft_laws.proofs.Fresh.{absent, all_below, below, below_behind}
use Rattle.graft_laws.proofs.Marked.{commit_marked}
use Rattle.renumbering.specs.Renumbered.{marked_from, renumbered_from}
use Rattle.renumbering.proofs.Marks.{length_own}
use Rattle.graft_unite.specs.Appended.{with_event}
use Rattle.graft_unite.specs.Numbering.{AreThere, Numbering, new_blob, new_commit}

-- it isn't there yet
pub unknown : (bound : ℕ) (events : List PlainEvent) (id : AnyId) → AreIdsBelow bound events → bound ≤ id_number id → find_event id events ≡ None
unknown bound events id low high = go (find_event id events) (sym (has_id_find events id) ∙ absent bound events low id high)
  where
    go : (o : Option PlainEvent) → is_some o ≡ false → o ≡ None
    go None h = refl
    go (Some e) h = absurd cc

-- ---- the events of a part, one after another

-- what a plan has behind it after so many of them
abbrev pub so_far : Joining → Numbering → ℕ → Change → ℕ → Change
so_far how n m plan k = record plan {
  after = plan.after ++ renumbered_from m (new_from how (new_blob n) (new_commit n) n.first (without_passes (take k n.part)));
  next = n.first + length (without_passes (take k n.part));
}

kept_push : (xs : List PlainEvent) (e : PlainEvent) → without_passes (xs ++ e ∷ []) ≡ (if is_pass e then without_passes xs else without_passes xs ++ e ∷ [])
kept_push [] e = go (is_pass e)
  where
    go : (b : Bool) → ◌≡◌ {A = List PlainEvent} (cond (not b) (e ∷ []) []) (if b then [] else e ∷ [])
    go true = refl
    go false = refl
kept_push (x ∷ xs) e = go (is_pass x) (kept_push xs e)
  where
    at : (b c : Bool) → cond b (x ∷ (if c then without_passes xs else without_passes xs ++ e ∷ [])) (if c then without_passes xs else without_passes xs ++ e ∷ []) ≡ (if c then cond b (x ∷ without_passes xs) (without_passes xs) else cond b (x ∷ without_passes xs) (without_passes xs) ++ e ∷ [])
    at true true = refl
    at true false = refl
    at false true = refl
    at false false = refl

    go : (b : Bool) → without_passes (xs ++ e ∷ []) ≡ (if is_pass e then without_passes xs else without_passes xs ++ e ∷ [])
        → cond (not b) (x ∷ without_passes (xs ++ e ∷ [])) (without_passes (xs ++ e ∷ [])) ≡ (if is_pass e then cond (not b) (x ∷ without_passes xs) (without_passes xs) else cond (not b) (x ∷ without_passes xs) (without_passes xs) ++ e ∷ [])
    go b h = ap (λ (l : List PlainEvent). cond (not b) (x ∷ l) l) h ∙ at (not b) (is_pass e)

-- ---- marks

renumbered_push : (n : ℕ) (xs : List PlainEvent) (e : PlainEvent) → renumbered_from n (xs ++ e ∷ []) ≡ renumbered_from n xs ++ marked_from (n + length (marks_of xs)) e ∷ []
renumbered_push n [] e = ap (λ k. marked_from k e ∷ []) (let none : n ≡ n + 0 = omega arith in none)
renumbered_push n (x ∷ xs) e =
    ap (λ (l : List PlainEvent). marked_from n x ∷ l) (renumbered_push (n + length (event_marks x)) xs e
    ∙ ap (λ k. renumbered_from (n + length (event_marks x)) xs ++ marked_from k e ∷ []) sums)
  where
    sums : n + length (event_marks x) + length (marks_of xs) ≡ n + length (marks_of (x ∷ xs))
    sums = let parts = length-append (own_marks x) (marks_of xs) in let own = length_own x in omega arith

same_marks : (how : Joining) (blob commit : ℕ → ℕ) (k : ℕ) (e : PlainEvent) → event_marks (new how blob commit k e) ≡ event_marks e
same_marks how blob commit k (Blob id mark bytes) = refl
same_marks how blob commit k (Commit id mark branch author committer encoding comment [] ops aliases) = refl
same_marks how blob commit k (Commit id mark branch author committer encoding comment (p ∷ ps) ops aliases) = refl
same_marks how blob commit k (Tag id name target tagger comment mark) = refl
same_marks how blob commit k (Reset id branch target) = refl
same_marks how blob commit k (Pass id line) = refl

marks_new : (how : Joining) (blob commit : ℕ → ℕ) (k : ℕ) (es : List PlainEvent) → length (marks_of (new_from how blob commit k es)) ≡ length (marks_of es)
marks_new how blob commit k [] = refl
marks_new how blob commit k (e ∷ es) =
    let rest = marks_new how blob commit (suc k) es in
    let own = ap length (same_marks how blob commit k e) in
    let one = length_own (new how blob commit k e) in
    let two = length_own e in
    let three = length-append (own_marks (new how blob commit k e)) (marks_of (new_from how blob commit (suc k) es)) in
    let four = length-append (own_marks e) (marks_of es) in
    omega arith

marks_kept : (es : List PlainEvent) → length (marks_of (without_passes es)) ≡ length (marks_of es)
marks_kept [] = refl
marks_kept (Pass id line ∷ es) = marks_kept es
marks_kept (Blob id mark bytes ∷ es) = ap suc (marks_kept es)
marks_kept (Commit id mark branch author committer encoding comment parents ops aliases ∷ es) =
    let e : PlainEvent = Commit id mark branch author committer encoding comment parents ops aliases in
    let rest = marks_kept es in
    let one = length-append (own_marks e) (marks_of (without_passes es)) in
    let two = length-append (own_marks e) (marks_of es) in
    omega arith
marks_kept (Tag id name target tagger comment None ∷ es) = marks_kept es
marks_kept (Tag id name target tagger comment (Some mark) ∷ es) = ap suc (marks_kept es)
marks_kept (Reset id branch target ∷ es) = marks_kept es

pub marks_added : (how : Joining) (first : ℕ) (part : List PlainEvent) → length (marks_of (added how first part)) ≡ length (marks_of part)
marks_added how first part =
    let n : Numbering = record { part = part; first = first } in
    marks_new how (new_blob n) (new_commit n) first (without_passes part) ∙ marks_kept part

-- the marks of one event more
pub marks_more : (m : ℕ) (part : List PlainEvent) (k : ℕ) (e : PlainEvent) → slice_get part k ≡ Some e → m + length (marks_of (take (suc k) part)) ≡ m + length (marks_of (take k part)) + length (event_marks e)
marks_more m part k e is =
    let item = ap (λ (l : List PlainEvent). length (marks_of l)) (take_item part k e is) in
    let join = ap length (marks_join (take k part) (e ∷ [])) in
    let both = length-append (marks_of (take k part)) (marks_of (e ∷ [])) in
    let one = length-append (own_marks e) (marks_of []) in
    let own = length_own e in
    omega arith

pub marks_within : (m : ℕ) (part : List PlainEvent) (k : ℕ) (e : PlainEvent) (most : ℕ) → slice_get part k ≡ Some e → m + length (marks_of part) ≤ most → m + length (marks_of (take k part)) + length (event_marks e) ≤ most
marks_within m part k e most is few =
    let more = marks_more m part k e is in
    let whole = ap (λ (l : List PlainEvent). length (marks_of l)) (take-append-drop (suc k) part) in
    let join = ap length (marks_join (take (suc k) part) (drop (suc k) part)) in
    let both = length-append (marks_of (take (suc k) part)) (marks_of (drop (suc k) part)) in
    omega arith

module _ (how : Joining) (n : Numbering) (m : ℕ) (plan : Change) where
  abbrev new_ones : List PlainEvent → List PlainEvent
  new_ones xs = new_from how (new_blob n) (new_commit n) n.first xs

  abbrev behind : List PlainEvent → Change
  behind xs = record plan { after = plan.after ++ renumbered_from m (new_ones xs); next = n.first + length xs }

  pub so_far_more : (k : ℕ) (e : PlainEvent) → slice_get n.part k ≡ Some e → with_event how n (m + length (marks_of (take k n.part))) e (so_far how n m plan k) ≡ so_far how n m plan (suc k)
  so_far_more k e is = go (is_pass e) (kept_push (take k n.part) e) ∙ ap (λ (l : List PlainEvent). behind (without_passes l)) (sym (take_item n.part k e is))
    where
      xs : List PlainEvent
      xs = without_passes (take k n.part)

      made : PlainEvent
      made = marked_from (m + length (marks_of (take k n.part))) (new how (new_blob n) (new_commit n) (n.first + length xs) e)

      go : (b : Bool) → without_passes (take k n.part ++ e ∷ []) ≡ (if b then xs else xs ++ e ∷ [])
          → (if b then so_far how n m plan k else record plan { after = (plan.after ++ renumbered_from m (new_ones xs)) ++ made ∷ []; next = n.first + length xs + 1 }) ≡ behind (without_passes (take k n.part ++ e ∷ []))
      go true h = ap behind (sym h)
      go false h = (λ i. record plan { after = joined_more i; next = number_more i }) ∙ ap behind (sym h)
        where
          count : length (marks_of (new_ones xs)) ≡ length (marks_of (take k n.part))
          count = marks_new how (new_blob n) (new_commit n) n.first xs ∙ marks_kept (take k n.part)

          joined_more : (plan.after ++ renumbered_from m (new_ones xs)) ++ made ∷ [] ≡ plan.after ++ renumbered_from m (new_ones (xs ++ e ∷ []))
          joined_more =
              append_assoc plan.after (renumbered_from m (new_ones xs)) (made ∷ [])
              ∙ ap (λ c. plan.after ++ (renumbered_from m (new_ones xs) ++ marked_from (m + c) (new how (new_blob n) (new_commit n) (n.first + length xs) e) ∷ [])) (sym count)
              ∙ ap (λ (l : List PlainEvent). plan.after ++ l) (sym (renumbered_push m (new_ones xs) (new how (new_blob n) (new_commit n) (n.first + length xs) e)))
              ∙ ap (λ (l : List PlainEvent). plan.after ++ renumbered_from m l) (sym (append_new how (new_blob n) (new_commit n) n.first (n.first + length xs) xs (e ∷ []) refl))

          number_more : n.first + length xs + 1 ≡ n.first + length (xs ++ e ∷ [])
          number_more = let many = length-append xs (e ∷ []) in omega arith

  -- ids are below the next number
  pub so_far_low : (k : ℕ) → AreIdsBelow n.first plan.after → AreIdsBelow (so_far how n m plan k).next (so_far how n m plan k).after
  so_far_low k low =
      let xs = without_passes (take k n.part) in
      let bound = n.first + length xs in
      let unmarked = subst (λ c. AreIdsBelow (n.first + c) (plan.after ++ new_ones xs)) (length_new how (new_blob n) (new_commit n) n.first xs) (below_behind n.first plan.after (new_ones xs) low (placed_new how (new_blob n) (new_commit n) n.first xs)) in
      all_below bound (plan.after ++ renumbered_from m (new_ones xs)) (λ id there. below bound (plan.after ++ new_ones xs) unmarked id (sym (commit_marked m plan.after (new_ones xs) id) ∙ there))

  -- all of them
  pub so_far_all : (k : ℕ) → length n.part ≤ k → so_far how n m plan k ≡ record plan { after = plan.after ++ renumbered_from m (added how n.first n.part); next = n.first + length (without_passes n.part) }
  so_far_all k h = ap (λ (l : List PlainEvent). behind (without_passes l)) (take_all n.part k h)

-- what an event of a sound history refers to is there
pub refers_there : (part : List PlainEvent) → IsSound part → (k : ℕ) (e : PlainEvent) → slice_get part k ≡ Some e → AreThere part (referents_of e)
refers_there part sound k e is = all_true (has_id part) (referents_of e) (at part (complete [] part (sound_linked part sound).in_order) k is)
  where
    at : (es : List PlainEvent) → AllByRecursion (λ x. IsTrue (is_ready part x)) es → (k : ℕ) → slice_get es k ≡ Some e → is_ready part e ≡ true
    at [] a k is = absurd cc
    at (x ∷ es) a zero is = let same : x ≡ e = cc in subst (λ y. is_ready part y ≡ true) same a.0
    at (x ∷ es) a (suc k) is = at es a.1 k is
