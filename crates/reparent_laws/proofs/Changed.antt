-- A history in which one commit was changed: each event is one of the old ones, and no more are there.
use Rattle.std.proofs.Common.{◌≡◌, ℕ, ◌≤◌, true, false, cond, List, [], length, refl, sym, ap, ◌∙◌, arith, le_trans, Option, Some}
use Rattle.std.specs.Prelude.{◌==◌}
use Rattle.std.specs.List.{AllByRecursion}
use Rattle.std.proofs.lemmas.List.{length-append}
use Rattle.plain_model.specs.declared.operation.FileOp.{FileOp}
use Rattle.plain_model.specs.declared.person.Signed.{Signed}
use Rattle.plain_model.specs.declared.event.PlainEvent.{PlainEvent}
use Rattle.plain_model.specs.declared.event.PlainEvent.TheVariants.{Blob, Commit, Tag, Reset, Pass}
use Rattle.plain_model.specs.Histories.{nodes}
use Rattle.plain_model.specs.Lookups.{find_event, id_of, same_id}
use Rattle.plain_model.specs.Paths.{Bytes}
use Rattle.plain_model.specs.Soundness.{IsSound, has_id}
use Rattle.plain_model.specs.Streams.{is_marked}
use Rattle.history_laws.specs.FirstParents.{ops_along}
use Rattle.history_laws.proofs.Ids.{each_found, has_id_append, is_marked_append}
use Rattle.history_laws.proofs.SoundOnce.{sound_once}
use Rattle.edit_laws.specs.Keeping.{AddsNothing}
use Rattle.edit_laws.specs.Parts.{HasFewParents, of_id, of_mark, one_if, tally}
use Rattle.edit_laws.specs.Passing.{IsWithinLimits}
use Rattle.edit_laws.proofs.Lists.{own_id}
use Rattle.edit_laws.proofs.Tallies.{aliases_counted, counted, mapped_no_greater, none_new, one, ops_counted, own_aliases, own_ops}
use Rattle.commit_laws.specs.Rewriting.{Rewrite, rewritten, rewritten_all}
use Rattle.commit_laws.proofs.Rewritten.{all_new}
use Rattle.reparent_laws.specs.Remaining.{IsRewritten}

-- ---- one commit

module _ (c : ℕ) (how : Rewrite) where
  -- what doesn't look at parents and operations is the same of the changed event
  alike : {X : Type 0} (f : PlainEvent → X) →
      ((id mark : ℕ) (branch : Bytes) (author committer : Signed) (encoding : Option Bytes) (comment : Bytes) (parents others : List ℕ) (ops more : List FileOp) (aliases : List ℕ)
      → f (Commit id mark branch author committer encoding comment others more aliases) ≡ f (Commit id mark branch author committer encoding comment parents ops aliases))
      → (e : PlainEvent) → f (rewritten c how e) ≡ f e
  alike f same (Commit id mark branch author committer encoding comment parents ops aliases) =
      elim (id == c) as (λ b. f (cond b (Commit id mark branch author committer encoding comment (how.parents parents) (how.ops parents ops) aliases) (Commit id mark branch author committer encoding comment parents ops aliases)) ≡ f (Commit id mark branch author committer encoding comment parents ops aliases)) [
        | true ↦ same id mark branch author committer encoding comment parents (how.parents parents) ops (how.ops parents ops) aliases
        | false ↦ refl
      ]
  alike f same (Blob id mark bytes) = refl
  alike f same (Tag id name target tagger comment mark) = refl
  alike f same (Reset id branch target) = refl
  alike f same (Pass id line) = refl

  rewritten_id : (e : PlainEvent) → id_of (rewritten c how e) ≡ id_of e
  rewritten_id = alike id_of (λ id mark branch author committer encoding comment parents others ops more aliases. refl)

  pub one_of_all : (events : List PlainEvent) → IsSound events → AllByRecursion (IsRewritten c how events) (rewritten_all c how events)
  one_of_all events h =
      all_new c how (λ e. find_event (id_of e) events ≡ Some e) (IsRewritten c how events)
      (λ e f. (e, ap (λ id. find_event id events) (rewritten_id e) ∙ f, refl))
      events (each_found events (sound_once events h).ids)

-- ---- sums

-- no more operations than the commit had
fewer_ops : (c : ℕ) (how : Rewrite) → ((parents : List ℕ) (ops : List FileOp) → length (how.ops parents ops) ≤ length ops) → (e : PlainEvent) → own_ops (rewritten c how e) ≤ own_ops e
fewer_ops c how less (Commit id mark branch author committer encoding comment parents ops aliases) =
    elim (id == c) as (λ b. own_ops (cond b (Commit id mark branch author committer encoding comment (how.parents parents) (how.ops parents ops) aliases) (Commit id mark branch author committer encoding comment parents ops aliases)) ≤ own_ops (Commit id mark branch author committer encoding comment parents ops aliases)) [
      | true ↦ let own = length-append ops [] in let its = length-append (how.ops parents ops) [] in let no_more = less parents ops in omega arith
      | false ↦ omega arith
    ]
fewer_ops c how less (Blob id mark bytes) = omega arith
fewer_ops c how less (Tag id name target tagger comment mark) = omega arith
fewer_ops c how less (Reset id branch target) = omega arith
fewer_ops c how less (Pass id line) = omega arith

-- ---- a list that is made of it

module _ (c : ℕ) (how : Rewrite) (events new : List PlainEvent) (taken : (f : PlainEvent → ℕ) → tally f new ≤ tally f (rewritten_all c how events)) where
  pub no_more : (f : PlainEvent → ℕ) → ((e : PlainEvent) → f (rewritten c how e) ≤ f e) → tally f new ≤ tally f events
  no_more f less = let first = taken f in let rest = mapped_no_greater f (rewritten c how) less events in omega arith

  same_no_more : (f : PlainEvent → ℕ) → ((e : PlainEvent) → f (rewritten c how e) ≡ f e) → tally f new ≤ tally f events
  same_no_more f same = no_more f (λ e. let is = same e in omega arith)

  pub adds_nothing : AddsNothing events new
  adds_nothing = record {
    events = let fewer = same_no_more one (λ e. refl) in let before = counted events in let after = counted new in omega arith;
    ids = λ id there. none_new (λ l. has_id l id) (λ xs ys. has_id_append xs ys id) refl events new (same_no_more (of_id id) (λ e. ap one_if (own_id (rewritten c how e) id ∙ ap (same_id id) (rewritten_id c how e) ∙ sym (own_id e id)))) there;
    marks = λ m there. none_new (λ l. is_marked l m) (λ xs ys. is_marked_append xs ys m) refl events new (same_no_more (of_mark m) (alike c how (of_mark m) (λ i mark branch author committer encoding comment parents others ops more aliases. refl))) there;
    aliases =
        let fewer = same_no_more own_aliases (alike c how own_aliases (λ i mark branch author committer encoding comment parents others ops more aliases. refl)) in
        let before = aliases_counted events in
        let after = aliases_counted new in
        omega arith;
  }

  -- with no more operations and no more parents it is within the limits
  pub still_within : ((parents : List ℕ) (ops : List FileOp) → length (how.ops parents ops) ≤ length ops) → AllByRecursion HasFewParents new → IsWithinLimits events → IsWithinLimits new
  still_within less few within = record {
    few_events = let fewer = adds_nothing.events in let most = within.few_events in le_trans fewer most;
    few_operations =
        let fewer = no_more own_ops (fewer_ops c how less) in
        let before = ops_counted events in
        let after = ops_counted new in
        le_trans (let all : length (ops_along (nodes new)) ≤ length (ops_along (nodes events)) = omega arith in all) within.few_operations;
    few_parents = few;
    few_aliases = le_trans adds_nothing.aliases within.few_aliases;
  }
