use Rattle.std.proofs.Common.{◌+◌, ◌-◌, ◌≤◌, List, length, ap, subst, arith}
use Rattle.plain_model.specs.declared.operation.FileOp.{FileOp}
use Rattle.plain_model.specs.declared.limit.TheConstants.{MAX_OPERATIONS}
use Rattle.stream_builder.specs.declared.open.Open.{Open}
use Rattle.stream_builder.specs.Building.{IsBuilt, ops_in, parents_in}
use Rattle.stream_builder.proofs.Built.{merged_first}
use Rattle.stream_builder.proofs.builder.Builder.put_parent.Goals as goal

pub invariant_of-self-then-is_empty : goal.invariant_of-self-then-is_empty
invariant_of-self-then-is_empty c =
    let few = c.if-count-gt-MAX_OPERATIONS.false in
    let fits : c.self.inside.ops - length c.as_slice-then-is_empty.result.now + 1 ≤ MAX_OPERATIONS = omega (arith, few) in
    merged_first c.self.inside.drafts c.in-Commit.open (record c.in-Commit.open { parents = c.in_ok-parents.parents; ops = c.in_ok-ops.ops })
    c.self.inside.trees c.forget.new.self c.self.inside.ops (c.self.inside.ops - length c.as_slice-then-is_empty.result.now + 1)
    (subst (λ (o : Open). IsBuilt c.self.inside.drafts o c.self.inside.trees c.self.inside.ops) c.in-Commit.is c.self.invariant)
    c.in_ok-ops.ensures (ap (λ (l : List FileOp). c.self.inside.ops - length l + 1) c.as_slice-then-is_empty.ensures) fits
    (c.forget.ensures.kept c.self.inside.drafts (parents_in c.self.inside.current) (ops_in c.self.inside.current) c.in_ok-parents.parents c.self.invariant.agrees)
    c.forget.ensures.gone
