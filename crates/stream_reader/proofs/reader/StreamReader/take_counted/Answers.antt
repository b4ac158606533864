use Rattle.std.proofs.Common.{◌≡◌, ℕ, ◌+◌, true, arith, List, ◌++◌, length, take, subst, sym, ap, ◌∙◌}
use Rattle.plain_model.specs.Paths.{Bytes}
use Rattle.line_automaton.specs.Machine.Machine.{At}
use Rattle.line_automaton.specs.Machine.Mode.{After, InBlock}
use Rattle.line_automaton.proofs.FirstLines.{inside_after}
use Rattle.stream_grammar.specs.Lines.{data_arrived}
use Rattle.stream_reader.specs.Reading.{HasCome, IsAt, Leads, Reading, StreamMachine, after, state}
use Rattle.stream_reader.proofs.Pieces.{block_part}
use Rattle.stream_reader.proofs.Taken.{all_taken, block_leads, come_by}
use Rattle.stream_reader.proofs.reader.StreamReader.take_counted.Goals as goal

pub returns-then-rest-more-clause-reads : goal.returns-then-rest-more-clause-reads
returns-then-rest-more-clause-reads c =
    let rest = c.args.rest.now in
    let inside = c.self.inside in
    subst (λ (r : Reading). (m : StreamMachine) → IsAt r.standing r.known r.number (InBlock c.args.from c.args.more c.args.bytes) m → HasCome c.go_to.new.self (after m (take (length rest) rest))) c.self.view_is
    (λ m here. all_taken c.go_to.new.self m rest (come_by c.go_to.new.self inside.standing inside.builder (inside.number + c.count_line_ends.result) (inside.come + length rest) c.more_of_block.result (after m rest) c.go_to.ensures
    (subst (λ k. Leads inside.standing inside.builder (inside.number + k) (inside.come + length rest) c.more_of_block.result (after m rest)) (sym c.count_line_ends.ensures)
    (block_part inside.standing inside.builder inside.number (inside.come + length rest) c.args.from c.args.more c.args.bytes rest c.more_of_block.result m c.if-rest-more.true c.more_of_block.ensures here))))

pub returns-clause-reads : goal.returns-clause-reads
returns-clause-reads c =
    let rest = c.args.rest.now in
    let part = take (c.args.more + 1) rest in
    let old = c.self-2.inside in
    let now = c.self-3.inside in
    let leads = c.end_block-leads.result in
    let come = old.come + length part in
    let whole : (k : ℕ) → (spelled : List Bytes) → Leads now.standing now.builder k come leads (At k (After (inside_after true part)) (data_arrived (state old.standing spelled old.builder) (c.args.bytes ++ part))) =
    subst (λ (r : Reading). (k : ℕ) → (spelled : List Bytes) → Leads r.standing r.known k come leads (At k (After (inside_after true part)) (data_arrived (state old.standing spelled old.builder) (c.args.bytes ++ part))))
    (sym c.self-3.view_is) c.end_block-leads.ensures.leads in
    let number : now.number ≡ old.number = ap (λ (r : Reading). r.number) c.self-3.view_is ∙ c.end_block-leads.ensures.number in
    let come_is : now.come ≡ come = ap (λ (r : Reading). r.come) c.self-3.view_is ∙ c.end_block-leads.ensures.come in
    subst (λ (r : Reading). (m : StreamMachine) → IsAt r.standing r.known r.number (InBlock c.args.from c.args.more c.args.bytes) m → HasCome c.go_to-2.new.self (after m (take (length part) rest))) c.self-2.view_is
    (λ m here. come_by c.go_to-2.new.self now.standing now.builder (now.number + c.count_line_ends-2.result) now.come leads (after m (take (length part) rest)) c.go_to-2.ensures
    (subst (λ (x : ℕ × ℕ). Leads now.standing now.builder x.0 x.1 leads (after m (take (length part) rest))) (λ i. (sym number i + sym c.count_line_ends-2.ensures i, sym come_is i))
    (block_leads old.standing now.standing old.builder now.builder old.number come c.args.from c.args.more c.args.bytes rest leads (omega (arith, c.if-rest-more.false)) whole m here)))
