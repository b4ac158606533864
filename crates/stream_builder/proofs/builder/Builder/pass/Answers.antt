use Rattle.std.proofs.Common.{refl}
use Rattle.stream_builder.proofs.Built.{beside}
use Rattle.stream_builder.proofs.builder.Builder.pass.Goals as goal

pub invariant_of-self-2 : goal.invariant_of-self-2
invariant_of-self-2 c =
    beside c.self.inside.drafts c.push_pass.new.self _ c.self.inside.current c.self.inside.trees c.self.inside.ops c.self.invariant c.in_ok-push_pass.ensures.ok refl refl
