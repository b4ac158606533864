use Rattle.std.proofs.Common.{◌∙◌, ◌++◌, ap, add-one, arith}
use Rattle.plain_model.specs.declared.id.AnyId.TheVariants.{Commit}
use Rattle.history_laws.specs.Once.{named}
use Rattle.event_arena.proofs.ListLemmas.{take_all}
use Rattle.event_arena.proofs.OnceLemmas.{named_more}
use Rattle.event_arena.proofs.index.note_aliases.Goals as goal

pub loop-alias-preserved : goal.loop-alias-preserved
loop-alias-preserved c =
    let v = c.loop-alias.invariant in
    let e = c.push_reserved.ensures in
    rw add-one (record {
      items = e.items ∙ rw (c.number.ensures.value, v.items) (named_more c.args.marks.now.items c.args.aliases.now (Commit c.args.id) c.loop-alias.alias-index c.alias-item.result c.loop-alias-test.true c.alias-item.is);
      len = omega arith;
      room = e.capacity ∙ v.room;
    })

pub returns-clause-items : goal.returns-clause-items
returns-clause-items c =
    c.loop-alias.invariant.items ∙ ap (λ ms. c.args.marks.now.items ++ named (Commit c.args.id) ms) (take_all c.args.aliases.now c.loop-alias.alias-index c.loop-alias-test.false)
