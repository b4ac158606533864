-- A sample of which the first so many blobs and commits are made.
use Rattle.std.proofs.Common.{◌≡◌, ◌∙◌, ℕ, suc, ◌+◌, ◌-◌, ◌<◌, ◌≤◌, List, [], ◌∷◌, ◌++◌, sym, ap, arith, append_assoc}
use Rattle.std.proofs.lemmas.List.{append-nil}
use Rattle.plain_model.specs.declared.event.PlainEvent.{PlainEvent}
use Rattle.sample_history.specs.Sample.{blob_of, commit_of, drawn, sample_from, stepped}

module _ (count k x : ℕ) (out all : List PlainEvent) (made : out ++ sample_from (count - k) (k + 1) x ≡ all) where
  pub one_more : (b c : PlainEvent) (first second : List PlainEvent) → k < count
      → b ≡ blob_of (k + 1) (drawn (stepped x)) → c ≡ commit_of (k + 1) (drawn (stepped x))
      → first ≡ out ++ b ∷ [] → second ≡ first ++ c ∷ []
      → second ++ sample_from (count - (k + 1)) (k + 1 + 1) (stepped x) ≡ all
  one_more b c first second more is_blob is_commit is_first is_second =
      let left : count - k ≡ suc (count - (k + 1)) = omega arith in
      let rest = sample_from (count - (k + 1)) (k + 1 + 1) (stepped x) in
      let there = ap (λ n. out ++ sample_from n (k + 1) x) left in
      rw (is_second, is_first, is_blob, is_commit) (
      append_assoc (out ++ blob_of (k + 1) (drawn (stepped x)) ∷ []) (commit_of (k + 1) (drawn (stepped x)) ∷ []) rest
      ∙ append_assoc out (blob_of (k + 1) (drawn (stepped x)) ∷ []) (commit_of (k + 1) (drawn (stepped x)) ∷ rest)
      ∙ sym there ∙ made
      )

  pub all_made : count ≤ k → out ≡ all
  all_made none_left =
      let left : count - k ≡ 0 = omega arith in
      sym (append-nil out) ∙ sym (ap (λ n. out ++ sample_from n (k + 1) x) left) ∙ made
