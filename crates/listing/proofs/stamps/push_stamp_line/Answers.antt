use Rattle.std.proofs.Common.{◌≡◌, ◌∙◌, ◌++◌, ℕ, List, Some, subst, sym, ap}
use Rattle.std.specs.Prelude.{OnOk}
use Rattle.listing.proofs.StampLemmas.{stamped_line}
use Rattle.listing.proofs.stamps.push_stamp_line.Goals as goal

pub returns-in-Some-Commit : goal.returns-in-Some-Commit
returns-in-Some-Commit c =
    let e = c.in-Some-Commit in
    let found = sym e.ensures.event ∙ ap Some e.field-0-is in
    let rank = c.rank_at-which.ensures in
    let text =
    stamped_line e.field-0-0 e.field-0-1 e.field-0-2 e.field-0-3 e.committer e.field-0-5 e.field-0-6 e.field-0-7 e.field-0-8 e.field-0-9
    c.args.events.now.list c.args.id.now c.in-Some.place c.rank_at-which.result c.args.stamped.now.counts c.args.stamped.now.ranks
    (sym c.in-Some.ensures.place) found c.requires.counts c.requires.ranks (rw c.as_slice.ensures at rank)
    in
    subst (λ (t : List ℕ). OnOk c.push_stamped.result (c.push_stamped.new.into ≡ c.args.into.now ++ t)) text c.push_stamped.ensures
