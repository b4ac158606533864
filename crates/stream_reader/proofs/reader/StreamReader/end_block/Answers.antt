use Rattle.std.proofs.Common.{ℕ, true, List, ◌++◌, subst}
use Rattle.plain_model.specs.Paths.{Bytes}
use Rattle.line_automaton.specs.Machine.Machine.{At}
use Rattle.line_automaton.specs.Machine.Mode.{After}
use Rattle.line_automaton.proofs.FirstLines.{inside_after}
use Rattle.stream_grammar.specs.Lines.{data_arrived}
use Rattle.stream_reader.specs.Reading.{IsAt, Reading, state}
use Rattle.stream_reader.proofs.Pieces.{block_whole}
use Rattle.stream_reader.proofs.reader.StreamReader.end_block.Goals as goal

pub returns-clause-leads : goal.returns-clause-leads
returns-clause-leads c =
    let all = c.args.bytes ++ c.args.part.now in
    subst (λ (r : Reading). (n : ℕ) → (spelled : List Bytes) → IsAt c.self.inside.standing c.take_block.new.self n (After c.is_inside_after.result) (At n (After (inside_after true c.args.part.now)) (data_arrived (state r.standing spelled r.known) all))) c.self.view_is
    (λ n spelled. block_whole c.self.inside.standing c.self.inside.builder c.take_block.new.self n spelled all c.push_all.new.self c.is_inline.result (inside_after true c.args.part.now) c.is_inside_after.result c.in_ok-take_block.ensures c.is_inline.ensures c.in_ok-push_all.ensures.ok c.is_inside_after.ensures)
