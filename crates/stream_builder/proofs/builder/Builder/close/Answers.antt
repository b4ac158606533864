use Rattle.std.proofs.Common.{subst, sym, arith}
use Rattle.stream_builder.specs.declared.open.Open.{Open}
use Rattle.stream_builder.specs.Building.{ops_in, parents_in}
use Rattle.stream_builder.proofs.Built.{Taken, over, sum_fits}
use Rattle.stream_builder.proofs.builder.Builder.close.Goals as goal

pub overflow_add-self : goal.overflow_add-self
overflow_add-self c =
    let fits = sum_fits c.self.inside.drafts c.self.inside.current c.replace-current.result c.self.inside.trees c.self.inside.ops c.count_ops.result c.self.invariant
    c.replace-current.ensures.value c.count_ops.ensures c.push_open.new.drafts c.push_open.new.trees c.in_ok-count.count c.in_ok-count.ensures.count c.in_ok-count.ensures.within in
    omega (arith, fits)

pub invariant_of-self-2 : goal.invariant_of-self-2
invariant_of-self-2 c =
    let taken = subst (λ (o : Open). Taken c.take-tree.new.self c.take-tree.result c.self.inside.drafts o) (sym c.replace-current.ensures.value)
    (c.take-tree.ensures c.self.inside.drafts (parents_in c.self.inside.current) (ops_in c.self.inside.current) c.self.invariant.agrees) in
    over c.self.inside.drafts c.self.inside.current c.replace-current.result c.self.inside.trees c.self.inside.ops c.count_ops.result c.self.invariant
    c.replace-current.ensures.value c.count_ops.ensures c.push_open.new.drafts c.push_open.new.trees c.in_ok-count.count c.in_ok-count.ensures.count c.in_ok-count.ensures.within
    c.replace-current.new.dest c.replace-current.ensures.after (c.in_ok-count.ensures.trees taken.0 taken.1 taken.2)
