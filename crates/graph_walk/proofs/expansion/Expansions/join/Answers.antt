use Rattle.std.proofs.Common.{◌≡◌, ◌∙◌, ◌∷◌, true, suc, Option, List, ℕ, drop, get_or, length, add-one, ap, sym, None}
use Rattle.std.specs.Prelude.{map}
use Rattle.graph_walk.specs.Joined.{entry_at, entry_of, fits, joined_from}
use Rattle.graph_walk.proofs.ExpansionLemmas.{drop_read, joined_step}
use Rattle.graph_walk.proofs.expansion.Expansions.join.Goals as goal

pub loop-commit-preserved : goal.loop-commit-preserved
loop-commit-preserved c =
    let s = c.args.self.now in
    let events = c.args.events.now.list in
    let commits = c.args.commits.now in
    let i = c.loop-commit.commit-index in
    let x = c.commit-item.result in
    let entries = map (entry_of s.entries events) (drop (suc i) commits) in
    let items = drop_read commits i x c.loop-commit-test.true c.commit-item.is in
    let entry : entry_of s.entries events x ≡ get_or s.entries c.unwrap-place.result None =
    ap (entry_at s.entries) (sym c.place.ensures.place ∙ c.unwrap-place.ensures) in
    let fit : fits s.bounded (length c.add_to.new.gathered) ≡ true = ap (fits s.bounded) (sym c.len.ensures) ∙ sym c.fits.ensures ∙ c.if-not-fits.false in
    let step = joined_step s.bounded c.loop-commit.gathered c.add_to.new.gathered (get_or s.entries c.unwrap-place.result None) entries c.in_ok-add_to.field-0 c.in_ok-add_to.ensures c.if-not-branch.false fit in
    rw add-one (
    sym step ∙ ap (λ (o : Option (List ℕ)). joined_from s.bounded c.loop-commit.gathered (o ∷ entries)) (sym entry)
    ∙ ap (λ (ps : List ℕ). joined_from s.bounded c.loop-commit.gathered (map (entry_of s.entries events) ps)) (sym items)
    ∙ c.loop-commit.invariant
    )
