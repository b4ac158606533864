use Rattle.std.proofs.Common.{◌≡◌, ◌∙◌, ◌+◌, ◌++◌, ◌∷◌, [], ℕ, List, cond, take, add-one, ap, sym}
use Rattle.ancestry_laws.specs.Ancestry.{is_one_of}
use Rattle.event_arena.proofs.ListLemmas.{take_more}
use Rattle.graph_walk.specs.Joined.{with_all}
use Rattle.graph_walk.proofs.EntryLemmas.{with_all_push}
use Rattle.squash_delete.proofs.standing.add_all.Goals as goal
use Rattle.squash_delete.proofs.standing.add_all.Goals.{then-not-contains+in_ok-push, else-not-contains}

pub loop-commit-preserved : goal.loop-commit-preserved
loop-commit-preserved c =
    let old = c.args.made.now in
    let i = c.loop-commit.commit-index in
    let x = c.commit-item.result in
    let so_far = with_all old (take i c.args.commits.now) in
    let items : take (i + 1) c.args.commits.now ≡ take i c.args.commits.now ++ x ∷ [] = rw add-one (take_more c.args.commits.now i x c.loop-commit-test.true c.commit-item.is) in
    let step : with_all old (take (i + 1) c.args.commits.now) ≡ cond (is_one_of so_far x) so_far (so_far ++ x ∷ []) =
    ap (λ (l : List ℕ). with_all old l) items ∙ with_all_push old (take i c.args.commits.now) x in
    let there : is_one_of so_far x ≡ c.contains.result = ap (λ (l : List ℕ). is_one_of l x) (sym (c.as_slice.ensures ∙ c.loop-commit.invariant)) ∙ sym c.contains.ensures.value in
    elim c.if-not-contains.branch [
      | then-not-contains+in_ok-push w ↦
          w.made-is ∙ w.in_ok-push.ensures.ok ∙ ap (λ (l : List ℕ). l ++ x ∷ []) c.loop-commit.invariant
          ∙ sym (ap (λ b. cond b so_far (so_far ++ x ∷ [])) (there ∙ w.if-not-contains.true)) ∙ sym step
      | else-not-contains w ↦
          w.made-is ∙ c.loop-commit.invariant
          ∙ sym (ap (λ b. cond b so_far (so_far ++ x ∷ [])) (there ∙ w.if-not-contains.false)) ∙ sym step
    ]
