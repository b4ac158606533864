-- How a plan goes on while commits take over what they do, and tags and resets move.
use Rattle.std.proofs.Common.{◌≡◌, ◌∙◌, ℕ, zero, suc, ◌+◌, ◌-◌, ◌≤◌, ◌<◌, Bool, true, false, cond, not, ◌||◌, ◌&&◌, List, [], ◌∷◌, ◌++◌, Option, Some, None, refl, sym, ap, subst, length, drop, take, map, filter, flat_map, append-nil, arith, true≢false, length-append}
use Rattle.std.proofs.lemmas.Bool.{and_parts}
use Rattle.std.proofs.lemmas.Bool.Decides.{nat_tests}
use Rattle.std.proofs.lemmas.Option.{none-some, same_Some}
use Rattle.std.specs.List.{AllByRecursion, list_any}
use Rattle.std.specs.Option.{option_map_or}
use Rattle.std.specs.Prelude.{IsTrue, is_some, nat_le, slice_get, unwrap_or}
use Rattle.plain_model.specs.declared.id.AnyId.{AnyId}
use Rattle.plain_model.specs.declared.id.AnyId.TheVariants as any
use Rattle.plain_model.specs.declared.operation.FileOp.{FileOp}
use Rattle.plain_model.specs.declared.operation.FileOp.TheVariants.{DeleteAll}
use Rattle.plain_model.specs.declared.person.Signed.{Signed}
use Rattle.plain_model.specs.declared.event.PlainEvent.{PlainEvent}
use Rattle.plain_model.specs.declared.event.PlainEvent.TheVariants.{Blob, Commit, Tag, Reset, Pass}
use Rattle.plain_model.specs.Histories.{Node, nodes, past}
use Rattle.plain_model.specs.Lookups.{commit_id, event_ops, event_parents, id_of, is_listed}
use Rattle.plain_model.specs.Paths.{Bytes}
use Rattle.plain_model.specs.Soundness.{IsSound}
use Rattle.history_laws.specs.FirstParents.{ops_along}
use Rattle.event_arena.specs.Changes.{changed, has_target, with_comment, with_ops, with_target}
use Rattle.history_laws.specs.Once.{AreDistinct}
use Rattle.history_laws.proofs.Lists.{item_at}
use Rattle.event_arena.proofs.ListLemmas.{drop_item, take_all}
use Rattle.history_laws.proofs.SoundOnce.{sound_once}
use Rattle.event_arena.proofs.StepLemmas.{none_left}
use Rattle.edit_laws.specs.Parts.{tally}
use Rattle.edit_laws.specs.Removal.{expand_all}
use Rattle.graph_walk.proofs.PlaceLemmas.{place_found}
use Rattle.manifest_cache.specs.Walks.{ops_at}
use Rattle.squash_laws.specs.Comments.{comment_of, joined}
use Rattle.squash_laws.specs.Removed.{Takings, is_removed}
use Rattle.squash_laws.specs.Takings.{back_of, comment_after, comments_of, hanging, is_from_root, is_it, is_none, links, takes}
use Rattle.plain_model.specs.declared.policy.Lean.{Lean}
use Rattle.plain_model.specs.declared.policy.Push.TheVariants as push
use Rattle.squash_delete.specs.Chains.{Carry}
use Rattle.squash_delete.specs.Hangings.{hung}
use Rattle.plan_steps.specs.Leaving.{event_after, goes, with_own_parents, with_takings}
use Rattle.plan_steps.specs.Passes.{moved_to, taken_to}
use Rattle.squash_delete.specs.Sources.{count_ops}
use Rattle.squash_delete.specs.Taking.{IsTakenBy, Taking, comment_taken, is_nothing, ops_taken}
use Rattle.plan_steps.specs.Targets.{lost_target, target_for}
use Rattle.plan_steps.proofs.Counting.{tally_item, tally_less}
use Rattle.plan_steps.proofs.NearLemmas.{kept_on, lost_is}
use Rattle.plan_steps.proofs.LeavingLemmas.{after_id, no_links, nothing_pushed, own_parents_id, takings_id}
use Rattle.plan_steps.proofs.Passes.{step_changed, step_gone, step_same}

pub le_is : (a b : ℕ) → a ≡ b → a ≤ b
le_is a b is = omega arith

-- counted so far, or fewer
module _ (f : PlainEvent → ℕ) (count : List PlainEvent → ℕ) (counted : (es : List PlainEvent) → tally f es ≡ count es) where
  pub counted_more : (es : List PlainEvent) (k total more : ℕ) (e : PlainEvent) → slice_get es k ≡ Some e → total ≤ count (take k es) → more ≤ f e →
      total + more ≤ count (take (suc k) es)
  counted_more es k total more e at so_far own =
      let item = tally_item f es k e at in
      let old = counted (take k es) in
      let new = counted (take (suc k) es) in
      omega arith

  -- there are no fewer among more events
  pub counted_later : (es : List PlainEvent) (a b : ℕ) → a ≤ b → b ≤ length es → count (take a es) ≤ count (take b es)
  counted_later es a b low within = go (b - a) a (omega arith)
    where
      go : (n a : ℕ) → n + a ≡ b → count (take a es) ≤ count (take b es)
      go zero a is = let same : a ≡ b = omega arith in subst (λ x. count (take a es) ≤ count (take x es)) same (omega arith)
      go (suc n) a is =
          let item = item_at es a (omega arith) in
          let one = counted_more es a (count (take a es)) 0 item.0 item.1 (omega arith) (omega arith) in
          let rest = go n (suc a) (omega arith) in
          omega arith

  pub counted_passed : (most : ℕ) (es : List PlainEvent) (k total more : ℕ) (e : PlainEvent) → slice_get es k ≡ Some e → total ≤ count (take k es) → more ≤ f e →
      most < total + more → most < count es
  counted_passed most es k total more e at so_far own passed =
      let now = counted_more es k total more e at so_far own in
      let new = counted (take (suc k) es) in
      let less = tally_less f es (suc k) in
      let whole = counted es in
      omega arith

-- ---- what a commit takes over

nothing_taken : (events : List PlainEvent) (t : Taking) → is_nothing t ≡ true → (own : List FileOp) → ops_taken events t own ≡ own
nothing_taken events t h own =
    let first = and_parts (not t.anew && is_none t.before) (is_none t.after) h in
    let rest = and_parts (not t.anew) (is_none t.before) first.0 in
    by t.anew t.before t.after rest.0 rest.1 first.1
  where
    by : (anew : Bool) (before after : List ℕ) → not anew ≡ true → is_none before ≡ true → is_none after ≡ true →
        ops_taken events (record { anew = anew; before = before; after = after }) own ≡ own
    by true before after a b c = absurd (true≢false (sym a))
    by false (x ∷ before) after a b c = absurd (true≢false (sym b))
    by false [] (x ∷ after) a b c = absurd (true≢false (sym c))
    by false [] [] a b c = append-nil own

no_comment_taken : (events : List PlainEvent) (t : Taking) → is_nothing t ≡ true → (own : Bytes) → comment_taken events t own ≡ own
no_comment_taken events t h own =
    let first = and_parts (not t.anew && is_none t.before) (is_none t.after) h in
    let rest = and_parts (not t.anew) (is_none t.before) first.0 in
    by t.before t.after rest.1 first.1
  where
    alone : (own : Bytes) → joined (own ∷ []) ≡ own
    alone [] = refl
    alone (x ∷ own) = refl

    by : (before after : List ℕ) → is_none before ≡ true → is_none after ≡ true →
        joined (map (comment_of events) before ++ own ∷ map (comment_of events) after) ≡ own
    by (x ∷ before) after b c = absurd (true≢false (sym b))
    by [] (x ∷ after) b c = absurd (true≢false (sym c))
    by [] [] b c = alone own

module _ (set : List AnyId) (events : List PlainEvent) (h : IsSound events) (par : List ℕ → List ℕ) (taking : Takings) where
  once : AreDistinct events
  once = (sound_once events h).ids

  abbrev keep : PlainEvent → Bool
  keep e = not (goes set taking e)

  abbrev was : PlainEvent → PlainEvent
  was = with_own_parents par

  abbrev has : PlainEvent → PlainEvent
  has = with_takings par taking

  abbrev gets : PlainEvent → PlainEvent
  gets = event_after par taking

  -- what an event counts for
  abbrev pub own_count : PlainEvent → ℕ
  own_count e = count_ops (map has (filter keep (e ∷ [])))

  count_both : (xs ys : List PlainEvent) → count_ops (xs ++ ys) ≡ count_ops xs + count_ops ys
  count_both [] ys = let z : count_ops ys ≡ 0 + count_ops ys = omega arith in z
  count_both (Commit id mark branch author committer encoding comment parents ops aliases ∷ xs) ys =
      let rest = count_both xs ys in
      let whole = length-append ops (ops_along (nodes (xs ++ ys))) in
      let part = length-append ops (ops_along (nodes xs)) in
      omega arith
  count_both (Blob id mark bytes ∷ xs) ys = count_both xs ys
  count_both (Tag id name target tagger comment mark ∷ xs) ys = count_both xs ys
  count_both (Reset id branch target ∷ xs) ys = count_both xs ys
  count_both (Pass id line ∷ xs) ys = count_both xs ys

  pub counted_left : (es : List PlainEvent) → tally own_count es ≡ count_ops (map has (filter keep es))
  counted_left [] = refl
  counted_left (e ∷ es) = by (keep e) refl (counted_left es)
    where
      by : (b : Bool) → keep e ≡ b → tally own_count es ≡ count_ops (map has (filter keep es)) → own_count e + tally own_count es ≡ count_ops (map has (filter keep (e ∷ es)))
      by true is rest =
          let own : own_count e ≡ count_ops (has e ∷ []) = ap (λ b. count_ops (map has (cond b (e ∷ []) []))) is in
          let whole : count_ops (map has (filter keep (e ∷ es))) ≡ count_ops (has e ∷ [] ++ map has (filter keep es)) = ap (λ b. count_ops (map has (cond b (e ∷ filter keep es) (filter keep es)))) is in
          let both = count_both (has e ∷ []) (map has (filter keep es)) in
          omega arith
      by false is rest =
          let own : own_count e ≡ 0 = ap (λ b. count_ops (map has (cond b (e ∷ []) []))) is in
          let whole : count_ops (map has (filter keep (e ∷ es))) ≡ count_ops (map has (filter keep es)) = ap (λ b. count_ops (map has (cond b (e ∷ filter keep es) (filter keep es)))) is in
          omega arith

  -- an event that is no commit has what it takes over
  pub none_taken : (k : ℕ) (e : PlainEvent) → slice_get events k ≡ Some e → commit_id e ≡ None →
      (taken_to set par taking k events ≡ taken_to set par taking (suc k) events) × (0 ≡ own_count e)
  none_taken k (Commit id mark branch author committer encoding comment parents ops aliases) at none = absurd (none-some id (sym none))
  none_taken k (Blob id mark bytes) at none = (step_same keep was has events k (Blob id mark bytes) at refl, refl)
  none_taken k (Tag id name target tagger comment mark) at none = (step_same keep was has events k (Tag id name target tagger comment mark) at refl, nothing (keep (Tag id name target tagger comment mark)))
    where
      nothing : (b : Bool) → 0 ≡ count_ops (map has (cond b (Tag id name target tagger comment mark ∷ []) []))
      nothing true = refl
      nothing false = refl
  none_taken k (Reset id branch target) at none = (step_same keep was has events k (Reset id branch target) at refl, nothing (keep (Reset id branch target)))
    where
      nothing : (b : Bool) → 0 ≡ count_ops (map has (cond b (Reset id branch target ∷ []) []))
      nothing true = refl
      nothing false = refl
  none_taken k (Pass id line) at none = (step_same keep was has events k (Pass id line) at refl, nothing (keep (Pass id line)))
    where
      nothing : (b : Bool) → 0 ≡ count_ops (map has (cond b (Pass id line ∷ []) []))
      nothing true = refl
      nothing false = refl

  -- nor is there anything to do for an event of the set
  pub gone_taken : (k : ℕ) (e : PlainEvent) → slice_get events k ≡ Some e → is_listed (id_of e) set ≡ true →
      (taken_to set par taking k events ≡ taken_to set par taking (suc k) events) × (0 ≡ own_count e)
  gone_taken k (Commit id mark branch author committer encoding comment parents ops aliases) at listed =
      let e : PlainEvent = Commit id mark branch author committer encoding comment parents ops aliases in
      (step_gone keep was has events k e at (ap not listed), ap (λ b. count_ops (map has (cond (not b) (e ∷ []) []))) (sym listed))
  gone_taken k (Blob id mark bytes) at listed = none_taken k (Blob id mark bytes) at refl
  gone_taken k (Tag id name target tagger comment mark) at listed = none_taken k (Tag id name target tagger comment mark) at refl
  gone_taken k (Reset id branch target) at listed = none_taken k (Reset id branch target) at refl
  gone_taken k (Pass id line) at listed = none_taken k (Pass id line) at refl

  module _ (k id mark : ℕ) (branch : Bytes) (author committer : Signed) (encoding : Option Bytes) (comment : Bytes) (parents : List ℕ) (ops : List FileOp) (aliases : List ℕ)
      (at : slice_get events k ≡ Some (Commit id mark branch author committer encoding comment parents ops aliases)) (stays : is_removed set id ≡ false) where
    abbrev own : PlainEvent
    own = Commit id mark branch author committer encoding comment parents ops aliases

    -- a commit that stays has so many operations
    pub commit_count : length (taking.ops id parents ops) ≡ own_count own
    commit_count =
        sym (ap (λ b. count_ops (map has (cond (not b) (own ∷ []) []))) stays ∙ ap length (append-nil (taking.ops id parents ops)))

    -- where it takes over nothing, it has all
    pub same_taken : (t : Taking) → is_nothing t ≡ true → IsTakenBy events t taking own →
        (taken_to set par taking k events ≡ taken_to set par taking (suc k) events) × (length ops ≡ own_count own)
    same_taken t nothing taken =
        let all_ops = taken.0 ∙ nothing_taken events t nothing ops in
        let all_comment = taken.1 ∙ no_comment_taken events t nothing comment in (
          step_same keep was has events k own at
              (ap (λ (os : List FileOp). Commit id mark branch author committer encoding (taking.comment id parents comment) (par parents) os aliases) all_ops
              ∙ ap (λ (x : Bytes). Commit id mark branch author committer encoding x (par parents) ops aliases) all_comment),
          ap length (sym all_ops) ∙ commit_count,
        )

    -- else it is given what it takes over
    pub commit_taken : (t : Taking) (new_ops : List FileOp) (new_comment : Bytes) → IsTakenBy events t taking own →
        new_ops ≡ ops_taken events t ops → new_comment ≡ comment_taken events t comment →
        (changed (any.Commit id) (λ e. with_comment new_comment (with_ops new_ops e)) (taken_to set par taking k events) ≡ taken_to set par taking (suc k) events)
        × (length new_ops ≡ own_count own)
    commit_taken t new_ops new_comment taken ops_is comment_is =
        let all_ops = ops_is ∙ sym taken.0 in
        let all_comment = comment_is ∙ sym taken.1 in (
          step_changed keep was has events k own at once (own_parents_id par) (takings_id par taking) (ap not stays)
              (λ e. with_comment new_comment (with_ops new_ops e))
              (ap (λ (os : List FileOp). Commit id mark branch author committer encoding new_comment (par parents) os aliases) all_ops
              ∙ ap (λ (x : Bytes). Commit id mark branch author committer encoding x (par parents) (taking.ops id parents ops) aliases) all_comment),
          ap length all_ops ∙ commit_count,
        )

  -- ---- tags and resets

  -- those on a commit that stays
  pub apart_moved : ((c : ℕ) → is_removed set c ≡ false → taking.target c ≡ Some c) → (k : ℕ) (e : PlainEvent) → slice_get events k ≡ Some e → lost_target set e ≡ None →
      moved_to set par taking k events ≡ moved_to set par taking (suc k) events
  apart_moved stays k (Tag id name target tagger comment mark) at none =
      step_same keep has gets events k (Tag id name target tagger comment mark) at
      (ap (λ x. Tag id name x tagger comment mark) (ap (λ o. unwrap_or o target) (stays target (kept_on set target (Tag id name target tagger comment mark) none refl))))
  apart_moved stays k (Reset id branch (Some target)) at none =
      step_same keep has gets events k (Reset id branch (Some target)) at
      (ap (λ x. Reset id branch (Some x)) (ap (λ o. unwrap_or o target) (stays target (kept_on set target (Reset id branch (Some target)) none refl))))
  apart_moved stays k (Reset id branch None) at none = step_same keep has gets events k (Reset id branch None) at refl
  apart_moved stays k (Commit id mark branch author committer encoding comment parents ops aliases) at none =
      step_same keep has gets events k (Commit id mark branch author committer encoding comment parents ops aliases) at refl
  apart_moved stays k (Blob id mark bytes) at none = step_same keep has gets events k (Blob id mark bytes) at refl
  apart_moved stays k (Pass id line) at none = step_same keep has gets events k (Pass id line) at refl

  -- those of the set, and what has no target
  pub gone_moved : (k : ℕ) (e : PlainEvent) → slice_get events k ≡ Some e → is_listed (id_of e) set ≡ true →
      moved_to set par taking k events ≡ moved_to set par taking (suc k) events
  gone_moved k (Commit id mark branch author committer encoding comment parents ops aliases) at listed =
      step_same keep has gets events k (Commit id mark branch author committer encoding comment parents ops aliases) at refl
  gone_moved k (Blob id mark bytes) at listed = step_same keep has gets events k (Blob id mark bytes) at refl
  gone_moved k (Tag id name target tagger comment mark) at listed =
      step_gone keep has gets events k (Tag id name target tagger comment mark) at (ap (λ b. not (b || not (is_some (taking.target target)))) listed)
  gone_moved k (Reset id branch (Some target)) at listed =
      step_gone keep has gets events k (Reset id branch (Some target)) at (ap (λ b. not (b || not (is_some (taking.target target)))) listed)
  gone_moved k (Reset id branch None) at listed = step_same keep has gets events k (Reset id branch None) at refl
  gone_moved k (Pass id line) at listed = step_same keep has gets events k (Pass id line) at refl

  pub unmoved : (k : ℕ) (e : PlainEvent) → slice_get events k ≡ Some e → target_for Some e ≡ None →
      moved_to set par taking k events ≡ moved_to set par taking (suc k) events
  unmoved k (Commit id mark branch author committer encoding comment parents ops aliases) at none =
      step_same keep has gets events k (Commit id mark branch author committer encoding comment parents ops aliases) at refl
  unmoved k (Blob id mark bytes) at none = step_same keep has gets events k (Blob id mark bytes) at refl
  unmoved k (Tag id name target tagger comment mark) at none = absurd (none-some target (sym none))
  unmoved k (Reset id branch (Some target)) at none = absurd (none-some target (sym none))
  unmoved k (Reset id branch None) at none = step_same keep has gets events k (Reset id branch None) at refl
  unmoved k (Pass id line) at none = step_same keep has gets events k (Pass id line) at refl

  -- those for which no commit is left
  pub nowhere_moved : (k : ℕ) (e : PlainEvent) → slice_get events k ≡ Some e → target_for taking.target e ≡ None →
      moved_to set par taking k events ≡ moved_to set par taking (suc k) events
  nowhere_moved k (Tag id name target tagger comment mark) at none =
      step_gone keep has gets events k (Tag id name target tagger comment mark) at
      (ap (λ o. not (is_listed (any.Tag id) set || not (is_some o))) none ∙ ap not (or_it (is_listed (any.Tag id) set)))
    where
      or_it : (b : Bool) → b || true ≡ true
      or_it true = refl
      or_it false = refl
  nowhere_moved k (Reset id branch (Some target)) at none =
      step_gone keep has gets events k (Reset id branch (Some target)) at
      (ap (λ o. not (is_listed (any.Reset id) set || not (is_some o))) none ∙ ap not (or_it (is_listed (any.Reset id) set)))
    where
      or_it : (b : Bool) → b || true ≡ true
      or_it true = refl
      or_it false = refl
  nowhere_moved k (Commit id mark branch author committer encoding comment parents ops aliases) at none = unmoved k (Commit id mark branch author committer encoding comment parents ops aliases) at refl
  nowhere_moved k (Blob id mark bytes) at none = unmoved k (Blob id mark bytes) at refl
  nowhere_moved k (Reset id branch None) at none = unmoved k (Reset id branch None) at refl
  nowhere_moved k (Pass id line) at none = unmoved k (Pass id line) at refl

  -- and those that move
  pub moved_there : (k old t : ℕ) (e : PlainEvent) → slice_get events k ≡ Some e → is_listed (id_of e) set ≡ false →
      target_for Some e ≡ Some old → target_for taking.target e ≡ Some t →
      changed (id_of e) (with_target t) (moved_to set par taking k events) ≡ moved_to set par taking (suc k) events
  moved_there k old t (Tag id name target tagger comment mark) at listed is to =
      step_changed keep has gets events k (Tag id name target tagger comment mark) at once (takings_id par taking) (after_id par taking)
      (ap (λ b. not (b || not (is_some (taking.target target)))) listed ∙ ap (λ o. not (not (is_some o))) to) (with_target t)
      (ap (λ x. Tag id name x tagger comment mark) (sym (ap (λ o. unwrap_or o target) to)))
  moved_there k old t (Reset id branch (Some target)) at listed is to =
      step_changed keep has gets events k (Reset id branch (Some target)) at once (takings_id par taking) (after_id par taking)
      (ap (λ b. not (b || not (is_some (taking.target target)))) listed ∙ ap (λ o. not (not (is_some o))) to) (with_target t)
      (ap (λ x. Reset id branch (Some x)) (sym (ap (λ o. unwrap_or o target) to)))
  moved_there k old t (Commit id mark branch author committer encoding comment parents ops aliases) at listed is to = absurd (none-some old is)
  moved_there k old t (Blob id mark bytes) at listed is to = absurd (none-some old is)
  moved_there k old t (Reset id branch None) at listed is to = absurd (none-some old is)
  moved_there k old t (Pass id line) at listed is to = absurd (none-some old is)

  -- where one of a removed commit goes
  goes_to : (c : ℕ) (e : PlainEvent) → lost_target set e ≡ Some c → target_for taking.target e ≡ taking.target c
  goes_to c e on = by e (lost_is set c e on).0
    where
      by : (e : PlainEvent) → target_for Some e ≡ Some c → target_for taking.target e ≡ taking.target c
      by (Tag id name target tagger comment mark) is = ap taking.target (same_Some target c is)
      by (Reset id branch (Some target)) is = ap taking.target (same_Some target c is)
      by (Reset id branch None) is = absurd (none-some c is)
      by (Commit id mark branch author committer encoding comment parents ops aliases) is = absurd (none-some c is)
      by (Blob id mark bytes) is = absurd (none-some c is)
      by (Pass id line) is = absurd (none-some c is)

  pub nowhere_lost : (k c : ℕ) (e : PlainEvent) → slice_get events k ≡ Some e → lost_target set e ≡ Some c → taking.target c ≡ None →
      moved_to set par taking k events ≡ moved_to set par taking (suc k) events
  nowhere_lost k c e at on none = nowhere_moved k e at (goes_to c e on ∙ none)

  pub lost_moved : (k c t : ℕ) (e : PlainEvent) → slice_get events k ≡ Some e → is_listed (id_of e) set ≡ false → lost_target set e ≡ Some c → taking.target c ≡ Some t →
      changed (id_of e) (with_target t) (moved_to set par taking k events) ≡ moved_to set par taking (suc k) events
  lost_moved k c t e at listed on to = moved_there k c t e at listed (lost_is set c e on).0 (goes_to c e on ∙ to)

-- what has a target may have another
pub target_id : (c : ℕ) (e : PlainEvent) → target_for Some e ≡ Some c → IsTrue (has_target (id_of e))
target_id c (Tag id name target tagger comment mark) is = refl
target_id c (Reset id branch target) is = refl
target_id c (Commit id mark branch author committer encoding comment parents ops aliases) is = absurd (none-some c is)
target_id c (Blob id mark bytes) is = absurd (none-some c is)
target_id c (Pass id line) is = absurd (none-some c is)

-- ---- what the sources have

-- a commit none of whose parents is removed takes over nothing that is pushed forward
pub apart_taken : (set : List AnyId) (events : List PlainEvent) (h : IsSound events) (par : List ℕ → List ℕ) (tags : Lean) (k : ℕ) (e : PlainEvent) →
    slice_get events k ≡ Some e → list_any (is_removed set) (event_parents e) ≡ false →
    taken_to set par (takes set events (record { push = push.Forward; tags = tags })) k events ≡ taken_to set par (takes set events (record { push = push.Forward; tags = tags })) (suc k) events
apart_taken set events h par tags k (Commit id mark branch author committer encoding comment parents ops aliases) at apart =
    let none = no_links set events parents apart in
    step_same (λ e. not (goes set (takes set events (record { push = push.Forward; tags = tags })) e)) (with_own_parents par) (with_takings par (takes set events (record { push = push.Forward; tags = tags }))) events k
    (Commit id mark branch author committer encoding comment parents ops aliases) at
    (ap (λ (os : List FileOp). Commit id mark branch author committer encoding (comment_after set events push.Forward id parents comment) (par parents) os aliases)
    (nothing_pushed set events id parents ops apart)
    ∙ ap (λ (x : Bytes). Commit id mark branch author committer encoding x (par parents) ops aliases) (ap (λ ls. joined (comments_of set events ls ++ comment ∷ [])) none ∙ alone comment))
  where
    alone : (own : Bytes) → joined (own ∷ []) ≡ own
    alone [] = refl
    alone (x ∷ own) = refl
apart_taken set events h par tags k (Blob id mark bytes) at apart = (none_taken set events h par (takes set events (record { push = push.Forward; tags = tags })) k (Blob id mark bytes) at refl).0
apart_taken set events h par tags k (Tag id name target tagger comment mark) at apart = (none_taken set events h par (takes set events (record { push = push.Forward; tags = tags })) k (Tag id name target tagger comment mark) at refl).0
apart_taken set events h par tags k (Reset id branch target) at apart = (none_taken set events h par (takes set events (record { push = push.Forward; tags = tags })) k (Reset id branch target) at refl).0
apart_taken set events h par tags k (Pass id line) at apart = (none_taken set events h par (takes set events (record { push = push.Forward; tags = tags })) k (Pass id line) at refl).0

module _ (set : List AnyId) (events : List PlainEvent) (tags : Lean) where
  -- forward
  pub carried_taken : (id : ℕ) (parents before : List ℕ) (fresh : Bool) → Carry set events parents before →
      fresh ≡ is_from_root (links set events parents) && not (is_none (expand_all (is_removed set) (past events) parents)) →
      (ops : List FileOp) (comment : Bytes) →
      ((takes set events (record { push = push.Forward; tags = tags })).ops id parents ops ≡ ops_taken events (record { anew = fresh; before = before; after = [] }) ops)
      × ((takes set events (record { push = push.Forward; tags = tags })).comment id parents comment ≡ comment_taken events (record { anew = fresh; before = before; after = [] }) comment)
  carried_taken id parents before fresh c is ops comment = (
    ap (λ b. (cond b (DeleteAll ∷ []) []) ++ (ops_along (links set events parents) ++ ops)) (sym is)
        ∙ ap (λ (os : List FileOp). (cond fresh (DeleteAll ∷ []) []) ++ (os ++ ops)) c.ops
        ∙ ap (λ (os : List FileOp). (cond fresh (DeleteAll ∷ []) []) ++ (flat_map (ops_at events) before ++ os)) (sym (append-nil ops)),
    c.comments (comment ∷ []),
  )

  -- back
  node_ops : AreDistinct events → AllByRecursion (λ (n : Node). ops_at events n.id ≡ n.ops) (nodes events)
  node_ops once = go (length events) 0 (omega arith)
    where
      one : (k : ℕ) (e : PlainEvent) (rest : List PlainEvent) → slice_get events k ≡ Some e → AllByRecursion (λ (n : Node). ops_at events n.id ≡ n.ops) (nodes rest) →
          AllByRecursion (λ (n : Node). ops_at events n.id ≡ n.ops) (nodes (e ∷ rest))
      one k (Commit id mark branch author committer encoding comment parents ops aliases) rest at all =
          (ap (λ o. option_map_or event_ops o []) (place_found events k (Commit id mark branch author committer encoding comment parents ops aliases) at once).1, all)
      one k (Blob id mark bytes) rest at all = all
      one k (Tag id name target tagger comment mark) rest at all = all
      one k (Reset id branch target) rest at all = all
      one k (Pass id line) rest at all = all

      go : (n k : ℕ) → n + k ≡ length events → AllByRecursion (λ (n : Node). ops_at events n.id ≡ n.ops) (nodes (drop k events))
      go zero k whole = subst (λ (es : List PlainEvent). AllByRecursion (λ (n : Node). ops_at events n.id ≡ n.ops) (nodes es)) (sym (none_left k events (omega arith))) tt
      go (suc n) k whole =
          let item = item_at events k (omega arith) in
          subst (λ (es : List PlainEvent). AllByRecursion (λ (n : Node). ops_at events n.id ≡ n.ops) (nodes es)) (sym (drop_item events k item.0 item.1))
          (one k item.0 (drop (suc k) events) item.1 (go n (suc k) (omega arith)))

  ops_by_id : (test : Node → Bool) (ns : List Node) → AllByRecursion (λ (n : Node). ops_at events n.id ≡ n.ops) ns →
      ops_along (filter test ns) ≡ flat_map (ops_at events) (map (λ (n : Node). n.id) (filter test ns))
  ops_by_id test [] all = refl
  ops_by_id test (n ∷ ns) all = by (test n) (ops_by_id test ns all.1)
    where
      by : (b : Bool) → ops_along (filter test ns) ≡ flat_map (ops_at events) (map (λ (n : Node). n.id) (filter test ns)) →
          ops_along (cond b (n ∷ filter test ns) (filter test ns)) ≡ flat_map (ops_at events) (map (λ (n : Node). n.id) (cond b (n ∷ filter test ns) (filter test ns)))
      by true rest = ap (λ (os : List FileOp). os ++ ops_along (filter test ns)) (sym all.0) ∙ ap (λ (os : List FileOp). ops_at events n.id ++ os) rest
      by false rest = rest

  map_twice : (ns : List Node) → map (comment_of events) (map (λ (n : Node). n.id) ns) ≡ map (λ (n : Node). comment_of events n.id) ns
  map_twice [] = refl
  map_twice (n ∷ ns) = ap (λ xs. comment_of events n.id ∷ xs) (map_twice ns)

  hung_whole : (c : ℕ) → hung set events (length events) c ≡ map (λ (n : Node). n.id) (hanging set events c)
  hung_whole c = ap (λ (es : List PlainEvent). map (λ (n : Node). n.id) (filter (λ n. is_removed set n.id && is_it c (back_of set events n.id)) (nodes es))) (take_all events (length events) (omega arith))

  pub hung_taken : AreDistinct events → (id : ℕ) (parents after : List ℕ) → after ≡ hung set events (length events) id → (ops : List FileOp) (comment : Bytes) →
      ((takes set events (record { push = push.Back; tags = tags })).ops id parents ops ≡ ops_taken events (record { anew = false; before = []; after = after }) ops)
      × ((takes set events (record { push = push.Back; tags = tags })).comment id parents comment ≡ comment_taken events (record { anew = false; before = []; after = after }) comment)
  hung_taken once id parents after is ops comment =
      let all = is ∙ hung_whole id in (
        ap (λ (os : List FileOp). ops ++ os) (ops_by_id (λ n. is_removed set n.id && is_it id (back_of set events n.id)) (nodes events) (node_ops once))
            ∙ ap (λ ds. ops ++ flat_map (ops_at events) ds) (sym all),
        ap (λ (xs : List Bytes). joined (comment ∷ xs)) (sym (map_twice (hanging set events id)))
            ∙ ap (λ ds. joined (comment ∷ map (comment_of events) ds)) (sym all),
      )

  -- what is given to an event is what it takes over
  taking_is : (t : Taking) (fresh : Bool) (before after : List ℕ) → t.anew ≡ fresh → t.before ≡ before → t.after ≡ after →
      record { anew = fresh; before = before; after = after } ≡ t
  taking_is t fresh before after a b c =
      ap (λ x. record { anew = x; before = before; after = after }) (sym a)
      ∙ ap (λ x. record { anew = t.anew; before = x; after = after }) (sym b)
      ∙ ap (λ x. record { anew = t.anew; before = t.before; after = x }) (sym c)

  pub forward_taken : (t : Taking) (e : PlainEvent) (before ps : List ℕ) (fresh : Bool) → Carry set events ps before →
      fresh ≡ is_from_root (links set events ps) && not (is_none (expand_all (is_removed set) (past events) ps)) → ps ≡ event_parents e →
      t.anew ≡ fresh → t.before ≡ before → t.after ≡ [] → IsTakenBy events t (takes set events (record { push = push.Forward; tags = tags })) e
  forward_taken t (Commit id mark branch author committer encoding comment parents ops aliases) before ps fresh carry is own a b c =
      subst (λ (x : Taking). IsTakenBy events x (takes set events (record { push = push.Forward; tags = tags })) (Commit id mark branch author committer encoding comment parents ops aliases)) (taking_is t fresh before [] a b c)
      (carried_taken id parents before fresh (subst (λ qs. Carry set events qs before) own carry)
      (is ∙ ap (λ qs. is_from_root (links set events qs) && not (is_none (expand_all (is_removed set) (past events) qs))) own) ops comment)
  forward_taken t (Blob id mark bytes) before ps fresh carry is own a b c = tt
  forward_taken t (Tag id name target tagger comment mark) before ps fresh carry is own a b c = tt
  forward_taken t (Reset id branch target) before ps fresh carry is own a b c = tt
  forward_taken t (Pass id line) before ps fresh carry is own a b c = tt

  pub back_taken : AreDistinct events → (t : Taking) (e : PlainEvent) (after : List ℕ) → ((c : ℕ) → commit_id e ≡ Some c → after ≡ hung set events (length events) c) →
      t.anew ≡ false → t.before ≡ [] → t.after ≡ after → IsTakenBy events t (takes set events (record { push = push.Back; tags = tags })) e
  back_taken once t (Commit id mark branch author committer encoding comment parents ops aliases) after is a b c =
      subst (λ (x : Taking). IsTakenBy events x (takes set events (record { push = push.Back; tags = tags })) (Commit id mark branch author committer encoding comment parents ops aliases)) (taking_is t false [] after a b c)
      (hung_taken once id parents after (is id refl) ops comment)
  back_taken once t (Blob id mark bytes) after is a b c = tt
  back_taken once t (Tag id name target tagger comment mark) after is a b c = tt
  back_taken once t (Reset id branch target) after is a b c = tt
  back_taken once t (Pass id line) after is a b c = tt

pub le_of : (a b : ℕ) → nat_le a b ≡ true → a ≤ b
le_of a b h = grind (arith, nat_tests)
