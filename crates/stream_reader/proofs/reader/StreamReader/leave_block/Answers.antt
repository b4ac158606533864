use Rattle.std.proofs.Common.{◌+◌, Bool, [], take, refl, subst, sym, ap, ◌∙◌}
use Rattle.plain_model.specs.Paths.{Bytes}
use Rattle.line_automaton.specs.Machine.Mode.{After, InLine}
use Rattle.stream_reader.specs.declared.place.Place.{Place}
use Rattle.stream_reader.specs.Reading.{HasCome, IsAt, IsIn, Reading, StreamMachine, after, is_between_lines}
use Rattle.stream_reader.proofs.Lines.{between_lines}
use Rattle.stream_reader.proofs.Pieces.{after_byte, after_lf}
use Rattle.stream_reader.proofs.reader.StreamReader.leave_block.Goals as goal

pub returns-then-not-begins_with_lf-clause-reads : goal.returns-then-not-begins_with_lf-clause-reads
returns-then-not-begins_with_lf-clause-reads c = λ in_line m here.
    let now = c.args.self.now in
    let rest = c.args.rest.now in
    let taken = c.take_line-then-not-begins_with_lf in
    let q = after_byte now.standing now.known now.number taken.result rest in_line m (sym c.begins_with_lf.ensures ∙ c.if-not-begins_with_lf.true) taken.ensures.count.0 taken.ensures.count.1 here in
    subst (λ (x : StreamMachine). HasCome taken.new.self x) (sym q.2)
    (taken.ensures.reads q.0 (subst (λ (t : Bytes). IsAt now.standing now.known now.number (InLine t) q.0) (sym c.empty.ensures) q.1))

pub returns-clause-reads : goal.returns-clause-reads
returns-clause-reads c =
    let rest = c.args.rest.now in
    let old = c.self.inside in
    let between = between_lines old.place (ap (λ (r : Reading). is_between_lines r.place) c.self.view_is ∙ c.requires.place) in
    subst (λ (r : Reading). (in_line : Bool) → (m : StreamMachine) → IsAt r.standing r.known r.number (After in_line) m → IsIn old.standing old.builder (old.number + 1) (old.come + 1) old.place (after m (take 1 rest))) c.self.view_is
    (λ in_line m here. subst (λ (p : Place). IsIn old.standing old.builder (old.number + 1) (old.come + 1) p (after m (take 1 rest))) (sym between)
    (after_lf old.standing old.builder old.number in_line rest [] m (sym c.begins_with_lf.ensures ∙ c.if-not-begins_with_lf.false) refl here))
