use Rattle.std.proofs.Common.{◌∙◌, [], ◌∷◌, add-one, ap, arith, Bool, List, ℕ, length, sym}
use Rattle.std.specs.List.{list_any}
use Rattle.std.specs.Prelude.{nat_lt}
use Rattle.plain_model.specs.declared.event.PlainEvent.{PlainEvent}
use Rattle.plain_model.specs.declared.limit.TheConstants.{MAX_NAME_BYTES}
use Rattle.event_arena.proofs.ListLemmas.{take_all}
use Rattle.plan_steps.proofs.Counting.{any_item, none_item}
use Rattle.graft_laws.specs.Names.{names_of}
use Rattle.graft_unite.proofs.NameLemmas.{named_each}
use Rattle.graft_unite.proofs.limits.has_long_names.Goals as goal

abbrev is_long : List ℕ → Bool
is_long name = nat_lt MAX_NAME_BYTES (length name)

abbrev has_long : PlainEvent → Bool
has_long e = list_any is_long (names_of (e ∷ []))

pub returns-then-has_long_name : goal.returns-then-has_long_name
returns-then-has_long_name c =
    sym (named_each is_long c.args.plan.now.after ∙ any_item has_long c.args.plan.now.after c.loop-place.place c.nth.result.now c.nth.ensures.event (sym c.has_long_name.ensures ∙ c.if-has_long_name.true))

pub loop-place-preserved : goal.loop-place-preserved
loop-place-preserved c =
    rw add-one (none_item has_long c.args.plan.now.after c.loop-place.place c.nth.result.now c.nth.ensures.event c.loop-place.invariant (sym c.has_long_name.ensures ∙ c.if-has_long_name.false))

pub returns : goal.returns
returns c =
    let count = c.count-place-end.ensures.count in
    let end = c.loop-place-test.false in
    sym (named_each is_long c.args.plan.now.after ∙ ap (list_any has_long) (sym (take_all c.args.plan.now.after c.loop-place.place (omega arith))) ∙ c.loop-place.invariant)
