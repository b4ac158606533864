use Rattle.std.proofs.Common.{◌≡◌, ◌∙◌, ◌+◌, ◌++◌, ◌∷◌, [], ℕ, List, cond, map, take, add-one, ap, sym}
use Rattle.std.proofs.lemmas.List.{map-append}
use Rattle.ancestry_laws.specs.Ancestry.{is_one_of}
use Rattle.event_arena.proofs.ListLemmas.{take_all, take_more}
use Rattle.graph_walk.specs.Joined.{with_all}
use Rattle.graph_walk.proofs.EntryLemmas.{with_all_push}
use Rattle.graph_walk.proofs.ExpansionLemmas.{with_all_once}
use Rattle.tagify_laws.specs.Tagify.{base_of}
use Rattle.empty_commits.proofs.moving.bases_of.Goals as goal
use Rattle.empty_commits.proofs.moving.bases_of.Goals.{then-not-contains+in_ok-push, else-not-contains}

pub loop-commit-preserved : goal.loop-commit-preserved
loop-commit-preserved c =
    let base : ℕ → ℕ = base_of c.args.empties.now.set c.args.empties.now.events in
    let cs = c.args.commits.now in
    let i = c.loop-commit.commit-index in
    let p = c.commit-item.result in
    let x = c.base_of-base.result in
    let so_far = map base (take i cs) in
    let items : take (i + 1) cs ≡ take i cs ++ p ∷ [] = rw add-one (take_more cs i p c.loop-commit-test.true c.commit-item.is) in
    let all : map base (take (i + 1) cs) ≡ so_far ++ x ∷ [] =
    ap (map base) items ∙ map-append base (take i cs) (p ∷ []) ∙ ap (λ y. so_far ++ y ∷ []) (sym c.base_of-base.ensures) in
    let step = ap (with_all []) all ∙ with_all_push [] so_far x in
    let there = ap (λ (l : List ℕ). is_one_of l x) (sym (c.as_slice.ensures ∙ c.loop-commit.invariant)) ∙ sym c.contains.ensures.value in
    elim c.if-not-contains.branch [
      | then-not-contains+in_ok-push w ↦
          w.made-is ∙ w.in_ok-push.ensures.ok ∙ ap (λ (l : List ℕ). l ++ x ∷ []) c.loop-commit.invariant
          ∙ sym (step ∙ ap (λ b. cond b (with_all [] so_far) (with_all [] so_far ++ x ∷ [])) (there ∙ w.if-not-contains.true))
      | else-not-contains w ↦
          w.made-is ∙ c.loop-commit.invariant
          ∙ sym (step ∙ ap (λ b. cond b (with_all [] so_far) (with_all [] so_far ++ x ∷ [])) (there ∙ w.if-not-contains.false))
    ]

pub returns : goal.returns
returns c =
    let base : ℕ → ℕ = base_of c.args.empties.now.set c.args.empties.now.events in
    c.loop-commit.invariant
    ∙ ap (λ (l : List ℕ). with_all [] (map base l)) (take_all c.args.commits.now c.loop-commit.commit-index c.loop-commit-test.false)
    ∙ with_all_once [] (map base c.args.commits.now)
