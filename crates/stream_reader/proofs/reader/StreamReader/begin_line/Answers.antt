use Rattle.std.proofs.Common.{◌≡◌, ℕ, ◌+◌, List, [], length, take, subst, sym, ap, ◌∙◌, arith}
use Rattle.plain_model.specs.Paths.{Bytes}
use Rattle.line_automaton.specs.Machine.Mode.{InLine}
use Rattle.stream_reader.specs.Reading.{HasCome, IsAt, Leads, Reading, StreamMachine, after, after_line, state, stayed}
use Rattle.stream_reader.proofs.Taken.{come_by, line_leads, line_size}
use Rattle.stream_reader.proofs.reader.StreamReader.begin_line.Goals as goal

pub invariant_of-self : goal.invariant_of-self
invariant_of-self c =
    let size = line_size c.args.rest.now c.in-Some.line.now c.in-Some.field-0-1.now c.in-Some.ensures in
    let room = c.requires.room in
    let come : c.self.inside.come ≡ c.args.self.now.come = ap (λ (r : Reading). r.come) c.self.view_is in
    (omega (arith, c.self.invariant.0), omega (arith, size, room, come))

pub returns-clause-count : goal.returns-clause-count
returns-clause-count c = (omega arith, line_size c.args.rest.now c.in-Some.line.now c.in-Some.field-0-1.now c.in-Some.ensures)

pub returns-clause-reads : goal.returns-clause-reads
returns-clause-reads c =
    let rest = c.args.rest.now in
    let line = c.in-Some.line.now in
    let old = c.self.inside in
    let now = c.self-2.inside in
    let leads = stayed now.place c.end_line-ended.result in
    let come = old.come + (length line + 1) in
    let whole : (spelled : List Bytes) → Leads now.standing now.builder (old.number + 1) come leads (after_line old.number (state old.standing spelled old.builder) line) =
    subst (λ (r : Reading). (spelled : List Bytes) → Leads r.standing r.known (old.number + 1) come (stayed r.place c.end_line-ended.result) (after_line old.number (state old.standing spelled old.builder) line))
    (sym c.self-2.view_is) c.end_line-ended.ensures.leads in
    let number : now.number ≡ old.number = ap (λ (r : Reading). r.number) c.self-2.view_is ∙ c.end_line-ended.ensures.number in
    let come_is : now.come ≡ come = ap (λ (r : Reading). r.come) c.self-2.view_is ∙ c.end_line-ended.ensures.come in
    subst (λ (r : Reading). (m : StreamMachine) → IsAt r.standing r.known r.number (InLine []) m → HasCome c.stay.new.self (after m (take (length line + 1) rest))) c.self.view_is
    (λ m here. come_by c.stay.new.self now.standing now.builder (now.number + 1) now.come leads (after m (take (length line + 1) rest)) c.stay.ensures
    (subst (λ (x : ℕ × ℕ). Leads now.standing now.builder (x.0 + 1) x.1 leads (after m (take (length line + 1) rest))) (λ i. (sym number i, sym come_is i))
    (line_leads old.standing now.standing old.builder now.builder old.number come [] rest line c.in-Some.field-0-1.now leads c.in-Some.ensures whole m here)))
