use Rattle.std.proofs.Common.{◌≡◌, sym, ap, subst}
use Rattle.std.specs.Prelude.{IfSome}
use Rattle.std.proofs.lemmas.Bool.{OnTrue_at}
use Rattle.plain_model.specs.declared.id.AnyId.TheVariants.{Commit}
use Rattle.plain_model.specs.Lookups.{find_event}
use Rattle.event_arena.specs.Changes.{with_aliases}
use Rattle.event_arena.proofs.StepLemmas.{changed_same as changed-same}
use Rattle.renumbering.specs.Renumbered.{marks_from}
use Rattle.renumbering.proofs.numbering.give_aliases.Goals as goal

pub returns-then-go_from : goal.returns-then-go_from
returns-then-go_from c =
    let plan = c.args.plan.now in
    let same : c.args.old.now ≡ marks_from c.args.first c.args.old.now = OnTrue_at c.if-go_from.true c.go_from.ensures in
    ap (λ events. record plan { after = events })
    (sym (changed-same (Commit c.args.id) (with_aliases (marks_from c.args.first c.args.old.now)) plan.after
    (subst (λ ms. IfSome (find_event (Commit c.args.id) plan.after) (λ event. with_aliases ms event ≡ event)) same c.requires.own)))
