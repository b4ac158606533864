use Rattle.std.proofs.Common.{◌≡◌, ◌∙◌, ◌+◌, add-one, ap, subst, suc, sym, take}
use Rattle.plain_model.specs.declared.limit.TheConstants.{MAX_ALIASES, MAX_OPERATIONS}
use Rattle.edit_laws.proofs.Limits.{not_many}
use Rattle.plan_steps.specs.Counts.{IsSum, count_of, total_of}
use Rattle.plan_steps.specs.declared.limits.Counted.{Counted}
use Rattle.plan_steps.specs.declared.limits.Counted.TheVariants.{Operations, Aliases}
use Rattle.plan_steps.proofs.Counting.{tally_item, totals}
use Rattle.plan_steps.proofs.limits.has_many.Goals as goal

pub loop-place-preserved : goal.loop-place-preserved
loop-place-preserved c =
    let after = c.args.plan.now.after in
    let place = c.loop-place.place in
    let e = c.nth-event.result.now in
    let v = c.loop-place.invariant in
    let more : (what : Counted) → total_of what (take place after) + count_of what e ≡ total_of what (take (suc place) after) = λ what.
    ap (λ n. n + count_of what e) (sym (totals what (take place after))) ∙ sym (tally_item (count_of what) after place e c.nth-event.ensures.event) ∙ totals what (take (suc place) after) in
    rw add-one (record {
      operations = subst (λ n. IsSum MAX_OPERATIONS n c.add-operations.result) (ap (λ n. total_of Operations (take place after) + n) c.count_of.ensures ∙ more Operations)
          (c.add-operations.ensures MAX_OPERATIONS (total_of Operations (take place after)) v.operations);
      aliases = subst (λ n. IsSum MAX_ALIASES n c.add-aliases.result) (ap (λ n. total_of Aliases (take place after) + n) c.count_of-in-loop-place.ensures ∙ more Aliases)
          (c.add-aliases.ensures MAX_ALIASES (total_of Aliases (take place after)) v.aliases);
    })

pub returns-then-is_light-clause-operations : goal.returns-then-is_light-clause-operations
returns-then-is_light-clause-operations c = sym (not_many MAX_OPERATIONS (total_of Operations c.args.plan.now.after) (c.is_light.ensures.operations c.if-is_light.true))

pub returns-then-is_light-clause-aliases : goal.returns-then-is_light-clause-aliases
returns-then-is_light-clause-aliases c = sym (not_many MAX_ALIASES (total_of Aliases c.args.plan.now.after) (c.is_light.ensures.aliases c.if-is_light.true))
