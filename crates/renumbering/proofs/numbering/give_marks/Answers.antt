use Rattle.std.proofs.Common.{◌≡◌, ◌∙◌, ◌+◌, Some, refl, sym, ap, subst}
use Rattle.std.specs.Prelude.{IsSome, IsTrue}
use Rattle.plain_model.specs.declared.event.PlainEvent.TheVariants.{Commit, Tag}
use Rattle.plain_model.specs.declared.id.AnyId.TheVariants as any
use Rattle.plain_model.specs.Lookups.{find_event, id_of}
use Rattle.event_arena.specs.declared.field.Field.TheVariants as field
use Rattle.event_arena.specs.Changes.{changed, has_mark, with_aliases, with_mark}
use Rattle.event_arena.specs.Graphs.{Change}
use Rattle.event_arena.proofs.ChangeLemmas.{id_with_field}
use Rattle.event_arena.proofs.StepLemmas.{found_holds as found-holds}
use Rattle.renumbering.specs.Renumbered.{marked_from, marks_from}
use Rattle.renumbering.proofs.Steps.{aliases_set, changed_twice, kept}
use Rattle.renumbering.proofs.numbering.give_marks.Goals as goal

pub give_mark-requires-in-Commit-clause-there : goal.give_mark-requires-in-Commit-clause-there
give_mark-requires-in-Commit-clause-there c =
    let found = aliases_set _ _ _ _ _ c.in-Commit.is c.requires.there (ap (λ (p : Change). p.after) c.in_ok-give_aliases-in-Commit.ensures) in
    subst IsSome (sym found) refl

pub give_mark-requires-in-Commit-clause-field : goal.give_mark-requires-in-Commit-clause-field
give_mark-requires-in-Commit-clause-field c =
    let found = aliases_set _ _ _ _ _ c.in-Commit.is c.requires.there (ap (λ (p : Change). p.after) c.in_ok-give_aliases-in-Commit.ensures) in
    found-holds _ _ (λ event. IsTrue (has_mark event)) found refl

pub give_mark-requires-in-Commit-clause-own : goal.give_mark-requires-in-Commit-clause-own
give_mark-requires-in-Commit-clause-own c =
    let found = aliases_set _ _ _ _ _ c.in-Commit.is c.requires.there (ap (λ (p : Change). p.after) c.in_ok-give_aliases-in-Commit.ensures) in
    found-holds _ _ (λ event. with_mark c.in-Commit.mark event ≡ event) found refl

pub returns-in_ok-give_mark-in-Commit-clause-given : goal.returns-in_ok-give_mark-in-Commit-clause-given
returns-in_ok-give_mark-in-Commit-clause-given c =
    let plan = c.args.plan.now in
    let next = c.args.next in
    let id = any.Commit c.in-Commit.id in
    let commit = Commit c.in-Commit.id c.in-Commit.mark c.in-Commit.branch c.in-Commit.author c.in-Commit.committer c.in-Commit.encoding c.in-Commit.comment c.in-Commit.parents c.in-Commit.ops c.in-Commit.aliases in
    let new = marks_from (next + 1) c.as_slice.result.now in
    let there = subst (λ e. find_event (id_of e) plan.after ≡ Some e) c.in-Commit.is c.requires.there in
    let both : with_mark next (with_aliases new commit) ≡ marked_from next commit = ap (λ ms. with_mark next (with_aliases (marks_from (next + 1) ms) commit)) c.as_slice.ensures in
    c.in_ok-give_mark-in-Commit.ensures
    ∙ ap (λ (p : Change). record p { after = changed id (with_mark next) p.after }) c.in_ok-give_aliases-in-Commit.ensures
    ∙ ap (λ events. record plan { after = events })
    (changed_twice id (with_aliases new) (id_with_field (field.Aliases new)) (with_mark next) (marked_from next) plan.after commit there both
    ∙ ap (λ i. changed i (marked_from next) plan.after) (sym (ap id_of c.in-Commit.is)))

pub returns-in-None-clause-given : goal.returns-in-None-clause-given
returns-in-None-clause-given c =
    let is = c.in-Tag.is ∙ ap (λ mark. Tag c.in-Tag.id c.in-Tag.name c.in-Tag.target c.in-Tag.tagger c.in-Tag.comment mark) c.in-None.is in
    kept c.args.plan.now c.args.event.now (marked_from c.args.next) c.requires.there (subst (λ e. marked_from c.args.next e ≡ e) (sym is) refl)

pub returns-in-Reset-clause-given : goal.returns-in-Reset-clause-given
returns-in-Reset-clause-given c =
    kept c.args.plan.now c.args.event.now (marked_from c.args.next) c.requires.there (subst (λ e. marked_from c.args.next e ≡ e) (sym c.in-Reset.is) refl)

pub returns-in-Pass-clause-given : goal.returns-in-Pass-clause-given
returns-in-Pass-clause-given c =
    kept c.args.plan.now c.args.event.now (marked_from c.args.next) c.requires.there (subst (λ e. marked_from c.args.next e ≡ e) (sym c.in-Pass.is) refl)
