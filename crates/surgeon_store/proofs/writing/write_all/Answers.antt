use Rattle.std.proofs.Common.{arith, ◌∙◌}
use Rattle.surgeon_store.proofs.Parts.{put_more, length_after, on_more}
use Rattle.surgeon_store.proofs.writing.write_all.Goals as goal

pub loop-preserved : goal.loop-preserved
loop-preserved g c =
    let long = length_after c.args.bytes.now c.loop.at in
    record {
      within = omega (arith, long, c.in-Ok.ensures.bound.0);
      on = on_more _ c.loop.at c.loop.counter c.in-Ok.count _ long c.loop.invariant.on c.in-Ok.ensures.bound.1;
      put = put_more (g.W.Sink.state c.args.sink.now).written (g.W.Sink.state c.loop.sink).written (g.W.Sink.state c.write.new.self).written c.args.bytes.now c.loop.at c.in-Ok.count c.loop.invariant.put c.in-Ok.ensures.appends;
      later = omega (arith, c.in-Ok.ensures.later, c.loop.invariant.later);
      quiet = c.in-Ok.ensures.quiet ∙ c.loop.invariant.quiet;
      around = c.in-Ok.ensures.around ∙ c.loop.invariant.around;
    }
