use Rattle.std.proofs.Common.{◌≡◌, ◌+◌, ◌∙◌, ◌++◌, ◌∷◌, [], List, ℕ, take, add-one, ap, sym}
use Rattle.event_arena.proofs.ListLemmas.{take_all}
use Rattle.graph_walk.specs.Joined.{with_all, with_one}
use Rattle.event_arena.proofs.ListLemmas.{take_more}
use Rattle.graph_walk.proofs.EntryLemmas.{inserted, with_all_push}
use Rattle.graph_walk.proofs.expansion.Gathered.add_all.Goals as goal

pub loop-commit-preserved : goal.loop-commit-preserved
loop-commit-preserved c =
    let keys = c.loop-commit.self-inside.commits.keys in
    let was = c.self.inside.commits.keys in
    let i = c.loop-commit.commit-index in
    let items : take (i + 1) c.args.commits.now ≡ take i c.args.commits.now ++ c.commit-item.result ∷ [] = rw add-one (take_more c.args.commits.now i c.commit-item.result c.loop-commit-test.true c.commit-item.is) in
    c.in_ok-insert.ensures.keys ∙ inserted keys c.commit-item.result ∙ ap (λ (ks : List ℕ). with_one ks c.commit-item.result) c.loop-commit.invariant
    ∙ sym (with_all_push was (take i c.args.commits.now) c.commit-item.result)
    ∙ ap (λ (cs : List ℕ). with_all was cs) (sym items)

pub returns : goal.returns
returns c =
    c.loop-commit.invariant ∙ ap (λ (ks : List ℕ). with_all ks (take c.loop-commit.commit-index c.args.commits.now)) c.self.view_is
    ∙ ap (with_all c.args.self.now) (take_all c.args.commits.now c.loop-commit.commit-index c.loop-commit-test.false)
