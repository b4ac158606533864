use Rattle.stream_builder.proofs.draft_trees.kept_trees.KeptTrees.make_room.Goals as goal

pub loop-self-preserved : goal.loop-self-preserved
loop-self-preserved c = λ events earlier. c.forget.ensures.earlier events (c.loop-self.invariant events earlier)
