-- What becomes of an event, by what it is, and what is left when each event has become that.
use Rattle.std.proofs.Common.{◌≡◌, ◌∙◌, ℕ, zero, suc, ◌<◌, Bool, true, false, cond, not, List, [], ◌∷◌, ◌++◌, Option, Some, None, refl, sym, ap, subst, length, take, drop, map, filter, get_or, arith, eqb-true}
use Rattle.std.specs.Prelude.{◌==◌, ◌||◌, is_some, slice_get, unwrap_or}
use Rattle.std.specs.List.{AllByRecursion}
use Rattle.std.proofs.lemmas.List.{take-append-drop}
use Rattle.std.proofs.lemmas.Option.{none-some, same_Some}
use Rattle.plain_model.specs.declared.id.AnyId.{AnyId}
use Rattle.plain_model.specs.declared.operation.FileOp.{FileOp}
use Rattle.plain_model.specs.declared.operation.FileOp.TheVariants.{DeleteAll}
use Rattle.plain_model.specs.declared.person.Signed.{Signed}
use Rattle.plain_model.specs.declared.event.PlainEvent.{PlainEvent}
use Rattle.plain_model.specs.declared.event.PlainEvent.TheVariants.{Blob, Commit, Tag, Reset, Pass}
use Rattle.plain_model.specs.Histories.{past}
use Rattle.plain_model.specs.Lookups.{event_parents, find_event, id_of, is_listed, same_id}
use Rattle.plain_model.specs.Paths.{Bytes}
use Rattle.plain_model.specs.Soundness.{IsSound, are_distinct}
use Rattle.event_arena.specs.declared.field.Field.TheVariants as field
use Rattle.event_arena.specs.Changes.{changed, with_parents, with_target, without_all}
use Rattle.history_laws.specs.Once.{AreDistinct}
use Rattle.history_laws.proofs.Ids.{absent_cons, cons_absent}
use Rattle.event_arena.proofs.ListLemmas.{drop_item}
use Rattle.event_arena.proofs.OnceLemmas.{distinct_absent}
use Rattle.event_arena.proofs.StepLemmas.{changed_after}
use Rattle.event_arena.proofs.ChangeLemmas.{id_with_field}
use Rattle.edit_laws.proofs.Sound.{in_parts}
use Rattle.expunge_laws.specs.InLine.{IsInLine, ops_in_line, parents_in_line}
use Rattle.expunge_laws.proofs.Emptied.{listed_each}
use Rattle.squash_laws.specs.Removed.{all_left, is_removed, parents_after}
use Rattle.squash_laws.specs.Takings.{moved}
use Rattle.plan_steps.specs.Leaving.{event_after, goes, staying}
use Rattle.plain_model.specs.declared.policy.Lean.TheVariants as lean
use Rattle.plan_steps.specs.Targets.{moving, target_for}
use Rattle.plan_steps.proofs.LeavingLemmas.{after_id, left_staying, nothing_pushed, unremoved_parents}
use Rattle.plan_steps.proofs.NearLemmas.{IsApart, kept_on}
use Rattle.path_expunge.specs.declared.fates.Fate.{Fate}
use Rattle.path_expunge.specs.declared.fates.Fate.TheVariants.{Same, Linked, Anew, Moved}
use Rattle.path_expunge.specs.Fates.{IsCommitFate, all_given_way, begins_anew, begun_anew, fated, given_way, taken, target_fate}

-- ---- ids stay

pub anew_id : (e : PlainEvent) → id_of (begun_anew e) ≡ id_of e
anew_id (Commit id mark branch author committer encoding comment parents ops aliases) = refl
anew_id (Blob id mark bytes) = refl
anew_id (Tag id name target tagger comment mark) = refl
anew_id (Reset id branch target) = refl
anew_id (Pass id line) = refl

target_id : (t : ℕ) (e : PlainEvent) → id_of (with_target t e) ≡ id_of e
target_id t (Commit id mark branch author committer encoding comment parents ops aliases) = refl
target_id t (Blob id mark bytes) = refl
target_id t (Tag id name target tagger comment mark) = refl
target_id t (Reset id branch target) = refl
target_id t (Pass id line) = refl

given_id : (fate : Fate) (e : PlainEvent) → id_of (given_way fate e) ≡ id_of e
given_id Same e = refl
given_id (Linked ps) e = id_with_field (field.Parents ps) e
given_id (Anew ps) e = anew_id (with_parents ps e) ∙ id_with_field (field.Parents ps) e
given_id (Moved t) e = target_id t e

-- ---- one after another

pub none_given : (es : List PlainEvent) → all_given_way [] es ≡ es
none_given [] = refl
none_given (e ∷ es) = refl

nothing_given : (fates : List Fate) → all_given_way fates [] ≡ []
nothing_given [] = refl
nothing_given (f ∷ fs) = refl

pub length_given : (fates : List Fate) (es : List PlainEvent) → length (all_given_way fates es) ≡ length es
length_given [] es = ap length (none_given es)
length_given (f ∷ fs) [] = refl
length_given (f ∷ fs) (e ∷ es) = ap suc (length_given fs es)

pub item_given : (k : ℕ) (fates : List Fate) (es : List PlainEvent) → slice_get (all_given_way (take k fates) es) k ≡ slice_get es k
item_given zero fates es = ap (λ (l : List PlainEvent). slice_get l zero) (none_given es)
item_given (suc k) [] es = ap (λ (l : List PlainEvent). slice_get l (suc k)) (none_given es)
item_given (suc k) (f ∷ fs) [] = refl
item_given (suc k) (f ∷ fs) (e ∷ es) = item_given k fs es

absent_given : (fates : List Fate) (es : List PlainEvent) (id : AnyId) → find_event id es ≡ None → find_event id (all_given_way fates es) ≡ None
absent_given [] es id h = ap (find_event id) (none_given es) ∙ h
absent_given (f ∷ fs) [] id h = refl
absent_given (f ∷ fs) (e ∷ es) id h =
    let rest = absent_cons id e es h in
    cons_absent id (given_way f e) (all_given_way fs es) (ap (same_id id) (given_id f e) ∙ rest.0) (absent_given fs es id rest.1)

split_given : (k : ℕ) (fates : List Fate) (es : List PlainEvent) → all_given_way (take k fates) es ≡ all_given_way (take k fates) (take k es) ++ drop k es
split_given zero fates es = none_given es
split_given (suc k) [] es =
    none_given es ∙ sym (ap (λ (l : List PlainEvent). l ++ drop (suc k) es) (none_given (take (suc k) es)) ∙ take-append-drop (suc k) es)
split_given (suc k) (f ∷ fs) [] = refl
split_given (suc k) (f ∷ fs) (e ∷ es) = ap (λ (l : List PlainEvent). given_way f e ∷ l) (split_given k fs es)

next_given : (k : ℕ) (fates : List Fate) (es : List PlainEvent) (f : Fate) (e : PlainEvent) → k < length fates → f ≡ get_or fates k f → slice_get es k ≡ Some e →
    all_given_way (take (suc k) fates) es ≡ all_given_way (take k fates) (take k es) ++ given_way f e ∷ drop (suc k) es
next_given k [] es f e low is at = absurd (omega arith)
next_given zero (g ∷ fs) [] f e low is at = absurd (none-some e at)
next_given zero (g ∷ fs) (x ∷ es) f e low is at =
    ap (λ (l : List PlainEvent). given_way g x ∷ l) (none_given es) ∙ ap (λ h. given_way h x ∷ es) (sym is) ∙ ap (λ y. given_way f y ∷ es) (same_Some x e at)
next_given (suc k) (g ∷ fs) [] f e low is at = absurd (none-some e at)
next_given (suc k) (g ∷ fs) (x ∷ es) f e low is at = ap (λ (l : List PlainEvent). given_way g x ∷ l) (next_given k fs es f e (omega arith) is at)

pub step_given : (es : List PlainEvent) → AreDistinct es → (k : ℕ) (fates : List Fate) (f : Fate) (e : PlainEvent) → k < length fates → f ≡ get_or fates k f → slice_get es k ≡ Some e →
    changed (id_of e) (given_way f) (all_given_way (take k fates) es) ≡ all_given_way (take (suc k) fates) es
step_given es once k fates f e low is at =
    let parts : es ≡ take k es ++ e ∷ drop (suc k) es =
    sym (take-append-drop k es) ∙ ap (λ (ys : List PlainEvent). take k es ++ ys) (drop_item es k e at) in
    let absent = absent_given (take k fates) (take k es) (id_of e) (distinct_absent (take k es) (drop (suc k) es) e (subst AreDistinct parts once)) in
    ap (changed (id_of e) (given_way f)) (split_given k fates es ∙ ap (λ (ys : List PlainEvent). all_given_way (take k fates) (take k es) ++ ys) (drop_item es k e at))
    ∙ changed_after (given_way f) (all_given_way (take k fates) (take k es)) (drop (suc k) es) e absent
    ∙ sym (next_given k fates es f e low is at)

pub given_all : (g : PlainEvent → PlainEvent) (fates : List Fate) (es : List PlainEvent) → length fates ≡ length es →
    ((j : ℕ) (e : PlainEvent) → slice_get es j ≡ Some e → given_way (get_or fates j Same) e ≡ g e) → all_given_way fates es ≡ map g es
given_all g fates [] c h = nothing_given fates
given_all g [] (e ∷ es) c h = absurd (omega arith)
given_all g (f ∷ fs) (e ∷ es) c h =
    ap (λ x. x ∷ all_given_way fs es) (h zero e refl) ∙ ap (λ (l : List PlainEvent). g e ∷ l) (given_all g fs es (omega arith) (λ j x at. h (suc j) x at))

-- ---- what is left

module _ (set : List AnyId) (events : List PlainEvent) where
  abbrev becomes : PlainEvent → PlainEvent
  becomes e = event_after (parents_after set events (taken set events)) (taken set events) e

  fated_id : (e : PlainEvent) → id_of (fated set events e) ≡ id_of e
  fated_id e = go (goes set (taken set events) e)
    where
      go : (b : Bool) → id_of (cond b e (becomes e)) ≡ id_of e
      go true = refl
      go false = after_id (parents_after set events (taken set events)) (taken set events) e

  left_kept : (ids : List AnyId) (es : List PlainEvent) → AllByRecursion (λ e. is_listed (id_of e) ids ≡ goes set (taken set events) e) es →
      without_all ids (map (fated set events) es) ≡ map becomes (staying set (taken set events) es)
  left_kept ids [] a = refl
  left_kept ids (e ∷ es) a =
      ap (λ b. cond (not b) (fated set events e ∷ without_all ids (map (fated set events) es)) (without_all ids (map (fated set events) es))) (ap (λ id. is_listed id ids) (fated_id e) ∙ a.0)
      ∙ ap (λ (l : List PlainEvent). cond (not (goes set (taken set events) e)) (fated set events e ∷ l) l) (left_kept ids es a.1)
      ∙ go (goes set (taken set events) e)
    where
      go : (b : Bool) → cond (not b) (cond b e (becomes e) ∷ map becomes (staying set (taken set events) es)) (map becomes (staying set (taken set events) es))
          ≡ map becomes (cond (not b) (e ∷ staying set (taken set events) es) (staying set (taken set events) es))
      go true = refl
      go false = refl

  pub left_all : IsSound events → without_all (map id_of (filter (goes set (taken set events)) events)) (map (fated set events) events) ≡ all_left set events (taken set events)
  left_all h =
      left_kept (map id_of (filter (goes set (taken set events)) events)) events (listed_each (goes set (taken set events)) events [] events refl (in_parts events h).once)
      ∙ sym (left_staying set events (taken set events))

  -- ---- what becomes of one

  -- a commit that stays
  module _ (id mark : ℕ) (branch : Bytes) (author committer : Signed) (encoding : Option Bytes) (comment : Bytes) (parents : List ℕ) (ops : List FileOp) (aliases : List ℕ)
      (line : IsInLine set events (record { id = id; parents = parents; ops = ops })) (stays : is_removed set id ≡ false)
    where
      abbrev commit : List ℕ → List FileOp → PlainEvent
      commit ps os = Commit id mark branch author committer encoding comment ps os aliases

      new_commit : commit (parents_in_line set events parents) (ops_in_line set events parents ops) ≡ fated set events (commit parents ops)
      new_commit = sym (
          ap (λ b. cond b (commit parents ops) (becomes (commit parents ops))) stays
          ∙ ap (λ (ps : List ℕ). commit ps ((taken set events).ops id parents ops)) line.parents
          ∙ ap (λ (os : List FileOp). commit (parents_in_line set events parents) os) (line.ops ops))

      with_ops_if : (b : Bool) → begins_anew set events parents ≡ b → cond b (DeleteAll ∷ ops) ops ≡ ops_in_line set events parents ops
      with_ops_if b is = ap (λ x. cond x (DeleteAll ∷ ops) ops) (sym is)

      pub commit_fated : (fate : Fate) → IsCommitFate set events parents fate → given_way fate (commit parents ops) ≡ fated set events (commit parents ops)
      commit_fated Same h = ap (λ (ps : List ℕ). commit ps ops) h.1 ∙ ap (λ (os : List FileOp). commit (parents_in_line set events parents) os) (with_ops_if false h.0) ∙ new_commit
      commit_fated (Linked made) h = ap (λ (ps : List ℕ). commit ps ops) h.1 ∙ ap (λ (os : List FileOp). commit (parents_in_line set events parents) os) (with_ops_if false h.0) ∙ new_commit
      commit_fated (Anew made) h = ap (λ (ps : List ℕ). commit ps (DeleteAll ∷ ops)) h.1 ∙ ap (λ (os : List FileOp). commit (parents_in_line set events parents) os) (with_ops_if true h.0) ∙ new_commit
      commit_fated (Moved t) h = absurd h

-- ---- what one change leaves as it is

module _ (e : PlainEvent)
    (apart : (id mark : ℕ) (branch : Bytes) (author committer : Signed) (encoding : Option Bytes) (comment : Bytes) (parents : List ℕ) (ops : List FileOp) (aliases : List ℕ)
    → e ≡ Commit id mark branch author committer encoding comment parents ops aliases → ⊥)
  where
    -- what is no commit has no parents
    pub not_linked : (ps : List ℕ) → with_parents ps e ≡ e
    not_linked ps = go e refl
      where
        go : (x : PlainEvent) → e ≡ x → with_parents ps x ≡ x
        go (Commit id mark branch author committer encoding comment parents ops aliases) is = absurd (apart id mark branch author committer encoding comment parents ops aliases is)
        go (Blob id mark bytes) is = refl
        go (Tag id name target tagger comment mark) is = refl
        go (Reset id branch target) is = refl
        go (Pass id line) is = refl

    -- and no operations
    pub not_anew : (ps : List ℕ) → begun_anew (with_parents ps e) ≡ e
    not_anew ps = go e refl
      where
        go : (x : PlainEvent) → e ≡ x → begun_anew (with_parents ps x) ≡ x
        go (Commit id mark branch author committer encoding comment parents ops aliases) is = absurd (apart id mark branch author committer encoding comment parents ops aliases is)
        go (Blob id mark bytes) is = refl
        go (Tag id name target tagger comment mark) is = refl
        go (Reset id branch target) is = refl
        go (Pass id line) is = refl

-- what is neither a tag nor a reset has no target
pub not_moved : (t : ℕ) (e : PlainEvent)
    → ((id : ℕ) (name : Bytes) (target : ℕ) (tagger : Option Signed) (comment : Bytes) (mark : Option ℕ) → e ≡ Tag id name target tagger comment mark → ⊥)
    → ((id : ℕ) (branch : Bytes) (target : Option ℕ) → e ≡ Reset id branch target → ⊥)
    → with_target t e ≡ e
not_moved t (Commit id mark branch author committer encoding comment parents ops aliases) no_tag no_reset = refl
not_moved t (Blob id mark bytes) no_tag no_reset = refl
not_moved t (Tag id name target tagger comment mark) no_tag no_reset = absurd (no_tag id name target tagger comment mark refl)
not_moved t (Reset id branch target) no_tag no_reset = absurd (no_reset id branch target refl)
not_moved t (Pass id line) no_tag no_reset = refl

-- what isn't near stays as it is
module _ (set : List AnyId) (events : List PlainEvent) where
  stays : (c : ℕ) → is_removed set c ≡ false → (taken set events).target c ≡ Some c
  stays c kept = ap (λ b. cond b (moved set events lean.Forward c) (Some c)) kept

  same_apart : (e : PlainEvent) → are_distinct (event_parents e) ≡ true → IsApart set e → e ≡ becomes set events e
  same_apart (Commit id mark branch author committer encoding comment parents ops aliases) once a =
      ap (λ (ps : List ℕ). Commit id mark branch author committer encoding comment ps ops aliases) (sym (unremoved_parents (is_removed set) (past events) parents once a.parents))
      ∙ ap (λ (os : List FileOp). Commit id mark branch author committer encoding comment (parents_after set events (taken set events) parents) os aliases)
      (sym (nothing_pushed set events id parents ops a.parents))
  same_apart (Blob id mark bytes) once a = refl
  same_apart (Tag id name target tagger comment mark) once a =
      ap (λ o. Tag id name (unwrap_or o target) tagger comment mark) (sym (stays target (kept_on set target (Tag id name target tagger comment mark) a.target refl)))
  same_apart (Reset id branch (Some target)) once a =
      ap (λ o. Reset id branch (Some (unwrap_or o target))) (sym (stays target (kept_on set target (Reset id branch (Some target)) a.target refl)))
  same_apart (Reset id branch None) once a = refl
  same_apart (Pass id line) once a = refl

  pub apart_fated : (e : PlainEvent) → are_distinct (event_parents e) ≡ true → IsApart set e → given_way Same e ≡ fated set events e
  apart_fated e once a = go (goes set (taken set events) e)
    where
      go : (b : Bool) → e ≡ cond b e (becomes set events e)
      go true = refl
      go false = same_apart e once a

-- a tag or a reset that isn't one of the set, and what is no commit, is what becomes of it
module _ (set : List AnyId) (events : List PlainEvent) where
  abbrev goes_to : ℕ → Option ℕ
  goes_to = moving set events lean.Forward

  pub target_fated : (e : PlainEvent) → is_listed (id_of e) set ≡ false
      → ((id mark : ℕ) (branch : Bytes) (author committer : Signed) (encoding : Option Bytes) (comment : Bytes) (parents : List ℕ) (ops : List FileOp) (aliases : List ℕ)
      → e ≡ Commit id mark branch author committer encoding comment parents ops aliases → ⊥)
      → given_way (target_fate (target_for Some e) (target_for goes_to e)) e ≡ fated set events e
  target_fated (Tag id name target tagger comment mark) out apart =
      step (goes_to target)
      ∙ ap (λ b. cond (b || not (is_some (goes_to target))) (Tag id name target tagger comment mark) (Tag id name (unwrap_or (goes_to target) target) tagger comment mark)) (sym out)
    where
      step : (o : Option ℕ) → given_way (target_fate (Some target) o) (Tag id name target tagger comment mark)
          ≡ cond (not (is_some o)) (Tag id name target tagger comment mark) (Tag id name (unwrap_or o target) tagger comment mark)
      step None = refl
      step (Some d) = both (target == d) refl
        where
          both : (b : Bool) → target == d ≡ b → given_way (cond b Same (Moved d)) (Tag id name target tagger comment mark) ≡ Tag id name d tagger comment mark
          both true is = ap (λ t. Tag id name t tagger comment mark) (eqb-true target d is)
          both false is = refl
  target_fated (Reset id branch (Some target)) out apart =
      step (goes_to target)
      ∙ ap (λ b. cond (b || not (is_some (goes_to target))) (Reset id branch (Some target)) (Reset id branch (Some (unwrap_or (goes_to target) target)))) (sym out)
    where
      step : (o : Option ℕ) → given_way (target_fate (Some target) o) (Reset id branch (Some target))
          ≡ cond (not (is_some o)) (Reset id branch (Some target)) (Reset id branch (Some (unwrap_or o target)))
      step None = refl
      step (Some d) = both (target == d) refl
        where
          both : (b : Bool) → target == d ≡ b → given_way (cond b Same (Moved d)) (Reset id branch (Some target)) ≡ Reset id branch (Some d)
          both true is = ap (λ t. Reset id branch (Some t)) (eqb-true target d is)
          both false is = refl
  target_fated (Reset id branch None) out apart = ap (λ b. cond b (Reset id branch None) (Reset id branch None)) (sym out)
  target_fated (Blob id mark bytes) out apart = refl
  target_fated (Commit id mark branch author committer encoding comment parents ops aliases) out apart =
      absurd (apart id mark branch author committer encoding comment parents ops aliases refl)
  target_fated (Pass id line) out apart = ap (λ b. cond b (Pass id line) (Pass id line)) (sym out)
