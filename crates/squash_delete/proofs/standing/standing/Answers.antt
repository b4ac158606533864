use Rattle.std.proofs.Common.{◌≡◌, ◌∙◌, ◌+◌, ◌++◌, ◌∷◌, [], ℕ, List, take, add-one, append-nil, ap, sym, flat_map}
use Rattle.std.proofs.lemmas.List.Concat.{flat_map-append}
use Rattle.event_arena.proofs.ListLemmas.{take_all, take_more}
use Rattle.plain_model.specs.Histories.{past}
use Rattle.edit_laws.specs.Removal.{expand}
use Rattle.graph_walk.specs.Joined.{with_all}
use Rattle.graph_walk.proofs.ExpansionLemmas.{with_all_once}
use Rattle.squash_laws.specs.Removed.{is_removed}
use Rattle.squash_delete.proofs.StandingLemmas.{with_all_both}
use Rattle.squash_delete.proofs.standing.standing.Goals as goal

pub loop-commit-preserved : goal.loop-commit-preserved
loop-commit-preserved c =
    let f : ℕ → List ℕ = expand (is_removed c.args.removal.now.set) (past c.args.removal.now.events) in
    let cs = c.args.commits.now in
    let i = c.loop-commit.commit-index in
    let x = c.commit-item.result in
    let items : take (i + 1) cs ≡ take i cs ++ x ∷ [] = rw add-one (take_more cs i x c.loop-commit-test.true c.commit-item.is) in
    let step : flat_map f (take (i + 1) cs) ≡ flat_map f (take i cs) ++ f x =
    ap (λ (l : List ℕ). flat_map f l) items ∙ flat_map-append f (take i cs) (x ∷ []) ∙ ap (λ (l : List ℕ). flat_map f (take i cs) ++ l) (append-nil (f x)) in
    c.in_ok-add_standing.ensures ∙ ap (λ (l : List ℕ). with_all l (f x)) c.loop-commit.invariant
    ∙ with_all_both [] (flat_map f (take i cs)) (f x) ∙ ap (λ (l : List ℕ). with_all [] l) (sym step)

pub returns : goal.returns
returns c =
    let f : ℕ → List ℕ = expand (is_removed c.args.removal.now.set) (past c.args.removal.now.events) in
    c.loop-commit.invariant
    ∙ ap (λ (l : List ℕ). with_all [] (flat_map f l)) (take_all c.args.commits.now c.loop-commit.commit-index c.loop-commit-test.false)
    ∙ with_all_once [] (flat_map f c.args.commits.now)
