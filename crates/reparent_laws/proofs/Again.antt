-- A merge of a commit with its parent changes nothing.
use Rattle.std.proofs.Common.{◌≡◌, ℕ, Bool, true, false, cond, List, [], ◌∷◌, ◌++◌, refl, sym, ap, ◌∙◌, true≢false, Option, Some, Ok}
use Rattle.std.specs.Prelude.{◌==◌, unwrap_or}
use Rattle.std.specs.List.{AllByRecursion, list_any}
use Rattle.std.proofs.lemmas.Bool.{eqb-true}
use Rattle.plain_model.specs.declared.id.AnyId.{AnyId}
use Rattle.plain_model.specs.declared.operation.FileOp.{FileOp}
use Rattle.plain_model.specs.declared.event.PlainEvent.{PlainEvent}
use Rattle.plain_model.specs.declared.event.PlainEvent.TheVariants.{Blob, Commit, Tag, Reset, Pass}
use Rattle.plain_model.specs.Histories.{Node, node_at, past}
use Rattle.plain_model.specs.Soundness.{IsSound}
use Rattle.commit_laws.specs.Rewriting.{rewritten, rewritten_all}
use Rattle.commit_laws.specs.Selected.{listed, node_of}
use Rattle.commit_laws.proofs.Given.{IsGiven, all_given, rank}
use Rattle.reparent_laws.specs.Merge.{merge_of, merges, ops_with_parent, with_parent}
use Rattle.reparent_laws.proofs.Merged.{merge_is}

same_parents : (p : ℕ) (parents : List ℕ) → list_any (λ q. q == p) parents ≡ true → with_parent p parents ≡ parents
same_parents p parents already = ap (λ b. cond b parents (parents ++ p ∷ [])) already

same_ops : (p : ℕ) (parents : List ℕ) (ops : List FileOp) → list_any (λ q. q == p) parents ≡ true → ops_with_parent parents ops ≡ ops
same_ops p [] ops already = absurd (true≢false (sym already))
same_ops p (q ∷ parents) ops already = refl

module _ (low high : ℕ) (events : List PlainEvent) (h : IsSound events) (already : list_any (λ p. p == low) (node_of events high).parents ≡ true) where
  same_event : (e : PlainEvent) → IsGiven events (rank events h) e → rewritten high (merges low) e ≡ e
  same_event (Commit id mark branch author committer encoding comment parents ops aliases) g = go (id == high) refl
    where
      n : Node
      n = record { id = id; parents = parents; ops = ops }

      go : (b : Bool) → (id == high) ≡ b →
          cond b (Commit id mark branch author committer encoding comment (with_parent low parents) (ops_with_parent parents ops) aliases) (Commit id mark branch author committer encoding comment parents ops aliases)
          ≡ Commit id mark branch author committer encoding comment parents ops aliases
      go true is =
          let found : node_at (past events) high ≡ Some n = ap (node_at (past events)) (sym (eqb-true id high is)) ∙ g.found.0 in
          let none : Node = record { id = high; parents = []; ops = [] } in
          let its : list_any (λ p. p == low) parents ≡ true = sym (ap (λ (o : Option Node). list_any (λ p. p == low) (unwrap_or o none).parents) found) ∙ already in
          (λ i. Commit id mark branch author committer encoding comment (same_parents low parents its i) (same_ops low parents ops its i) aliases)
      go false is = refl
  same_event (Blob id mark bytes) g = refl
  same_event (Tag id name target tagger comment mark) g = refl
  same_event (Reset id branch target) g = refl
  same_event (Pass id line) g = refl

  same_events : (es : List PlainEvent) → AllByRecursion (IsGiven events (rank events h)) es → rewritten_all high (merges low) es ≡ es
  same_events [] a = refl
  same_events (e ∷ es) a = λ i. same_event e a.0 i ∷ same_events es a.1 i

pub merge_again : (set : List AnyId) (events new : List PlainEvent) (low high : ℕ) → IsSound events → merge_of set events ≡ Ok new → listed set events ≡ low ∷ high ∷ [] →
    list_any (λ p. p == low) (node_of events high).parents ≡ true → new ≡ events
merge_again set events new low high h d two already = sym (merge_is set events new low high two d) ∙ same_events low high events h already events (all_given events h)
