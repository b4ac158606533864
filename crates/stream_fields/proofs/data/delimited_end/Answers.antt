use Rattle.std.proofs.Common.{◌-◌, [], take, drop, length, sym, ap, ◌∙◌}
use Rattle.std.proofs.lemmas.List.{take_rest, drop_all}
use Rattle.plain_model.specs.Fields.{delimited}
use Rattle.field_laws.proofs.Blocks.{no_line}
use Rattle.stream_fields.proofs.BlockSteps.{found_here, kept_on, next_within}
use Rattle.stream_fields.proofs.data.delimited_end.Goals as goal

pub returns-then-are_same-clause-value : goal.returns-then-are_same-clause-value
returns-then-are_same-clause-value c =
    found_here c.args.delimiter.now c.args.text.now (take (length c.args.text.now - c.loop-at.at) (drop c.loop-at.at c.args.text.now)) c.loop-at.at c.sizes_of_line-size.result.0 c.sizes_of_line-size.result.1 (delimited c.args.delimiter.now [] [] c.args.text.now) (take_rest c.args.text.now c.loop-at.at) c.sizes_of_line-size.ensures c.loop-at.invariant.same (sym c.if-are_same.ensures)

pub loop-at-preserved : goal.loop-at-preserved
loop-at-preserved c = record {
  within = next_within c.args.delimiter.now c.args.text.now (take (length c.args.text.now - c.loop-at.at) (drop c.loop-at.at c.args.text.now)) c.loop-at.at c.sizes_of_line-size.result.0 c.sizes_of_line-size.result.1 (delimited c.args.delimiter.now [] [] c.args.text.now) (take_rest c.args.text.now c.loop-at.at) c.sizes_of_line-size.ensures c.loop-at.invariant.same c.loop-at.invariant.within;
  same = kept_on c.args.delimiter.now c.args.text.now (take (length c.args.text.now - c.loop-at.at) (drop c.loop-at.at c.args.text.now)) c.loop-at.at c.sizes_of_line-size.result.0 c.sizes_of_line-size.result.1 (delimited c.args.delimiter.now [] [] c.args.text.now) (take_rest c.args.text.now c.loop-at.at) c.sizes_of_line-size.ensures c.loop-at.invariant.same c.requires (sym c.if-are_same.ensures);
}

pub returns-clause-value : goal.returns-clause-value
returns-clause-value c =
    sym (no_line c.args.delimiter.now (take c.loop-at.at c.args.text.now) c.requires)
    ∙ ap (delimited c.args.delimiter.now (take c.loop-at.at c.args.text.now) []) (sym (drop_all c.loop-at.at c.args.text.now c.loop-at-test.false))
    ∙ c.loop-at.invariant.same
