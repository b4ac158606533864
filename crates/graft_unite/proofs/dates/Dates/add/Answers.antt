use Rattle.std.proofs.Common.{◌∙◌, List, ℕ, ap}
use Rattle.std.specs.BTreeMap.{insert_entry}
use Rattle.std.specs.Ordering.{nat_cmp}
use Rattle.graft_unite.specs.Dates.{latest_in, with_commit}
use Rattle.graft_unite.proofs.DateLemmas.{added}
use Rattle.graft_unite.proofs.dates.Dates.add.Goals as goal

pub returns : goal.returns
returns c seconds =
    let old = c.self.inside.by_second.entries in
    ap (λ (es : List (ℕ × ℕ)). latest_in es seconds) (c.in_ok-insert.ensures.entries ∙ ap (insert_entry nat_cmp old c.args.second) c.number.ensures)
    ∙ added old c.args.second c.args.id c.in_ok-insert.ensures.was_ordered seconds
    ∙ ap (λ (es : List (ℕ × ℕ)). with_commit es c.args.second c.args.id seconds) c.self.view_is
