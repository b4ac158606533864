use Rattle.std.proofs.Common.{[], arith}
use Rattle.stream_builder.proofs.known.Trees.new.Goals as goal

pub returns : goal.returns
returns c = record {
  earlier = c.new.ensures [];
  is_opened = tt;
  all = λ commit. tt;
  own = omega arith;
}
