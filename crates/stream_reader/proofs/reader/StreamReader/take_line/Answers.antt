use Rattle.std.proofs.Common.{◌≡◌, ℕ, ◌+◌, List, ◌++◌, length, take, subst, sym, ap, ◌∙◌, arith}
use Rattle.plain_model.specs.Paths.{Bytes}
use Rattle.line_automaton.specs.Machine.Mode.{InLine}
use Rattle.stream_reader.specs.Reading.{HasCome, IsAt, Leads, Reading, StreamMachine, after, after_line, state, stayed}
use Rattle.stream_reader.proofs.Pieces.{line_part}
use Rattle.stream_reader.proofs.Taken.{all_taken, come_by, line_leads, line_size, no_line_taken}
use Rattle.stream_reader.proofs.reader.StreamReader.take_line.Goals as goal

pub invariant_of-self : goal.invariant_of-self
invariant_of-self c =
    let size = line_size c.args.rest.now c.in-Some.part.now c.in-Some.field-0-1.now c.in-Some.ensures in
    let room = c.requires.room in
    let come : c.self.inside.come ≡ c.args.self.now.come = ap (λ (r : Reading). r.come) c.self.view_is in
    (omega (arith, c.self.invariant.0), omega (arith, size, room, come))

pub returns-in-Some-clause-count : goal.returns-in-Some-clause-count
returns-in-Some-clause-count c = (omega arith, line_size c.args.rest.now c.in-Some.part.now c.in-Some.field-0-1.now c.in-Some.ensures)

pub returns-in-Some-clause-reads : goal.returns-in-Some-clause-reads
returns-in-Some-clause-reads c =
    let rest = c.args.rest.now in
    let part = c.in-Some.part.now in
    let old = c.self.inside in
    let now = c.self-in-Some.inside in
    let leads = stayed now.place c.end_begun-ended.result in
    let come = old.come + (length part + 1) in
    let whole : (spelled : List Bytes) → Leads now.standing now.builder (old.number + 1) come leads (after_line old.number (state old.standing spelled old.builder) (c.args.begun ++ part)) =
    subst (λ (r : Reading). (spelled : List Bytes) → Leads r.standing r.known (old.number + 1) come (stayed r.place c.end_begun-ended.result) (after_line old.number (state old.standing spelled old.builder) (c.args.begun ++ part)))
    (sym c.self-in-Some.view_is) c.end_begun-ended.ensures.leads in
    let number : now.number ≡ old.number = ap (λ (r : Reading). r.number) c.self-in-Some.view_is ∙ c.end_begun-ended.ensures.number in
    let come_is : now.come ≡ come = ap (λ (r : Reading). r.come) c.self-in-Some.view_is ∙ c.end_begun-ended.ensures.come in
    subst (λ (r : Reading). (m : StreamMachine) → IsAt r.standing r.known r.number (InLine c.args.begun) m → HasCome c.stay.new.self (after m (take (length part + 1) rest))) c.self.view_is
    (λ m here. come_by c.stay.new.self now.standing now.builder (now.number + 1) now.come leads (after m (take (length part + 1) rest)) c.stay.ensures
    (subst (λ (x : ℕ × ℕ). Leads now.standing now.builder (x.0 + 1) x.1 leads (after m (take (length part + 1) rest))) (λ i. (sym number i, sym come_is i))
    (line_leads old.standing now.standing old.builder now.builder old.number come c.args.begun rest part c.in-Some.field-0-1.now leads c.in-Some.ensures whole m here)))

pub returns-in-None-clause-reads : goal.returns-in-None-clause-reads
returns-in-None-clause-reads c =
    let rest = c.args.rest.now in
    let inside = c.self-in-None.inside in
    subst (λ (r : Reading). (m : StreamMachine) → IsAt r.standing r.known r.number (InLine c.args.begun) m → HasCome c.go_to.new.self (after m (take (length rest) rest))) c.self-in-None.view_is
    (λ m here. all_taken c.go_to.new.self m rest (come_by c.go_to.new.self inside.standing inside.builder inside.number (inside.come + length rest) c.more_of_line.result (after m rest) c.go_to.ensures
    (line_part inside.standing inside.builder inside.number (inside.come + length rest) c.args.begun rest c.more_of_line.result m (no_line_taken rest c.in-None.ensures) c.more_of_line.ensures here)))
