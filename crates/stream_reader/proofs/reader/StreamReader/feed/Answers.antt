use Rattle.std.proofs.Common.{◌≡◌, ℕ, ◌+◌, ◌-◌, ◌++◌, length, take, drop, zero-le, sym, subst, ap, ◌∙◌, arith, length-drop}
use Rattle.std.proofs.Math.Seq.{take-add}
use Rattle.std.proofs.lemmas.List.{take_all, take_rest}
use Rattle.plain_model.specs.Paths.{Bytes}
use Rattle.line_automaton.specs.Machine.{all}
use Rattle.line_automaton.proofs.Runs.{run_append}
use Rattle.stream_grammar.specs.Limits.{stream_within}
use Rattle.stream_reader.specs.Reading.{HasCome, Reading, StreamMachine, after, at_start}
use Rattle.stream_reader.proofs.reader.StreamReader.feed.Goals as goal

pub loop-at-init : goal.loop-at-init
loop-at-init c = record { within = zero-le; come = omega arith; reads = λ m h. h }

-- what is left of the piece
rest_is : (piece : Bytes) (at : ℕ) → take (length piece - at) (drop at piece) ≡ drop at piece
rest_is piece at = take_rest piece at

rest_size : (piece : Bytes) (at : ℕ) → length (take (length piece - at) (drop at piece)) ≡ length piece - at
rest_size piece at = ap length (rest_is piece at) ∙ length-drop at piece

pub take-at-requires-clause-room : goal.take-at-requires-clause-room
take-at-requires-clause-room c =
    let size = rest_size c.args.piece.now c.loop-at.at in
    let come = c.loop-at.invariant.come in
    let old : c.self.inside.come ≡ c.args.self.now.come = ap (λ (r : Reading). r.come) c.self.view_is in
    let room = c.if-piece-self.false in
    let within = c.loop-at.invariant.within in
    omega (arith, size, come, old, room, within)

pub loop-at-preserved : goal.loop-at-preserved
loop-at-preserved c =
    let piece = c.args.piece.now in
    let at = c.loop-at.at in
    let count = c.take-at.result in
    let size = rest_size piece at in
    let within = c.take-at.ensures.count.1 in
    let before = c.loop-at.invariant.within in
    let come = c.take-at.ensures.come in
    let come_before = c.loop-at.invariant.come in
    record {
      within = omega (arith, size, within, before);
      come = omega (arith, come, come_before);
      reads = λ m h.
          let part : (take at piece ++ take count (take (length piece - at) (drop at piece))) ≡ take (at + count) piece =
          ap (λ (t : Bytes). take at piece ++ take count t) (rest_is piece at) ∙ sym (take-add at count piece) in
          subst (λ (x : StreamMachine). HasCome c.take-at.new.self x)
          (sym (run_append stream_within all m (take at piece) (take count (take (length piece - at) (drop at piece)))) ∙ ap (after m) part)
          (c.take-at.ensures.reads (after m (take at piece)) (c.loop-at.invariant.reads m h));
    }

pub returns-clause-reads : goal.returns-clause-reads
returns-clause-reads c = λ m h.
    subst (λ (t : Bytes). HasCome c.loop-at.self (after m t)) (take_all c.loop-at.at c.args.piece.now (omega (arith, c.loop-at-test.false))) (c.loop-at.invariant.reads m h)

pub returns-clause-text : goal.returns-clause-text
returns-clause-text c = λ bytes h.
    subst (λ (m : StreamMachine). HasCome c.loop-at.self m) (sym (run_append stream_within all at_start bytes c.args.piece.now)) (returns-clause-reads c (after at_start bytes) h)
