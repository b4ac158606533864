use Rattle.std.proofs.Common.{◌+◌, [], List, ◌∷◌, Result, refl, sym, subst, ap, ◌∙◌}
use Rattle.plain_model.specs.Paths.{Bytes}
use Rattle.stream_grammar.specs.declared.lines.Word.TheVariants as word
use Rattle.stream_grammar.specs.Lines.{next_of}
use Rattle.stream_reader.specs.declared.fault.ReadFault.{ReadFault}
use Rattle.stream_reader.specs.declared.place.Place.{Place}
use Rattle.stream_reader.specs.declared.place.Place.TheVariants as place
use Rattle.stream_reader.specs.Reading.{HasStopped, IsIn, Leads, Reading, after_line, is_between_lines, state, stayed}
use Rattle.stream_reader.proofs.Lines.{between_lines, data_goes, ended, judged_on, not_judged}
use Rattle.stream_reader.proofs.reader.StreamReader.end_line.Goals as goal
use Rattle.stream_reader.proofs.reader.StreamReader.end_line.Goals.{in-Ok-judge, in-Err-judge}

pub returns-in-Ok-end_data-clause-leads : goal.returns-in-Ok-end_data-clause-leads
returns-in-Ok-end_data-clause-leads c =
    let line = c.args.line.now in
    let old = c.self.inside in
    let next = c.end_data.new.self in
    subst (λ (r : Reading). (spelled : List Bytes) → IsIn r.standing r.known (c.args.self.now.number + 1) c.args.self.now.come r.place (after_line c.args.self.now.number (state c.args.self.now.standing spelled c.args.self.now.known) line)) (sym c.go_on_at.ensures)
    (subst (λ (r : Reading). (spelled : List Bytes) → IsIn next.standing next.known (r.number + 1) r.come c.in-Ok-end_data.place (after_line r.number (state r.standing spelled r.known) line)) c.self.view_is
    (λ spelled. subst (λ (x : Result Place ReadFault). Leads next.standing next.known (old.number + 1) old.come x (after_line old.number (state old.standing spelled old.builder) line)) c.in-Ok-end_data.is
    (subst (λ m. Leads next.standing next.known (old.number + 1) old.come c.end_data.result m)
    (sym (data_goes old.standing old.builder old.number old.come line spelled c.word_of-word.result (sym c.is_comment.ensures ∙ c.if-is_comment.false) c.word_of-word.ensures
    c.in-Ok.after (sym c.after.ensures ∙ c.in-Ok.is) c.in-Data.is (next_of word.Data line) refl)) (c.end_data.ensures.leads (line ∷ spelled)))))

pub returns-in-Err-end_data-clause-leads : goal.returns-in-Err-end_data-clause-leads
returns-in-Err-end_data-clause-leads c =
    let line = c.args.line.now in
    let old = c.self.inside in
    let next = c.end_data.new.self in
    subst (λ (r : Reading). (spelled : List Bytes) → HasStopped c.in-Err-end_data.fault (after_line r.number (state r.standing spelled r.known) line)) c.self.view_is
    (λ spelled. subst (λ (x : Result Place ReadFault). Leads next.standing next.known (old.number + 1) old.come x (after_line old.number (state old.standing spelled old.builder) line)) c.in-Err-end_data.is
    (subst (λ m. Leads next.standing next.known (old.number + 1) old.come c.end_data.result m)
    (sym (data_goes old.standing old.builder old.number old.come line spelled c.word_of-word.result (sym c.is_comment.ensures ∙ c.if-is_comment.false) c.word_of-word.ensures
    c.in-Ok.after (sym c.after.ensures ∙ c.in-Ok.is) c.in-Data.is (next_of word.Data line) refl)) (c.end_data.ensures.leads (line ∷ spelled))))

pub returns-in-Done-clause-leads : goal.returns-in-Done-clause-leads
returns-in-Done-clause-leads c =
    let line = c.args.line.now in
    subst (λ (r : Reading). (spelled : List Bytes) → IsIn r.standing r.known (c.args.self.now.number + 1) c.args.self.now.come r.place (after_line c.args.self.now.number (state c.args.self.now.standing spelled c.args.self.now.known) line)) (sym c.go_on_at-in-Done.ensures)
    (subst (λ (r : Reading). (spelled : List Bytes) → IsIn c.in-Ok.after c.self.inside.builder (r.number + 1) r.come place.Over (after_line r.number (state r.standing spelled r.known) line)) c.self.view_is
    (λ spelled. ended c.self.inside.standing c.self.inside.builder c.self.inside.number c.self.inside.come line spelled c.word_of-word.result (sym c.is_comment.ensures ∙ c.if-is_comment.false) c.word_of-word.ensures
    c.in-Ok.after (sym c.after.ensures ∙ c.in-Ok.is) c.in-Done.is))

pub returns-after-judge : goal.returns-after-judge
returns-after-judge c =
    let line = c.args.line.now in
    let old = c.self.inside in
    let plain = sym c.is_comment.ensures ∙ c.if-is_comment.false in
    let stands = sym c.after.ensures ∙ c.in-Ok.is in
    let between = between_lines old.place (ap (λ (r : Reading). is_between_lines r.place) c.self.view_is ∙ c.requires) in
    record {
      number = ap (λ (r : Reading). r.number) c.self.view_is;
      come = ap (λ (r : Reading). r.come) c.self.view_is;
      leads = subst (λ (r : Reading). (spelled : List Bytes) → Leads c.in-Ok.after c.judge.new.self (r.number + 1) r.come (stayed old.place c.match-judge.result) (after_line r.number (state r.standing spelled r.known) line)) c.self.view_is
          (λ spelled.
          let to = after_line old.number (state old.standing spelled old.builder) line in
          elim c.match-judge.branch [
            | in-Ok-judge w ↦ rw w.result-is (subst (λ (p : Place). IsIn c.in-Ok.after c.judge.new.self (old.number + 1) old.come p to) (sym between)
                (judged_on old.standing old.builder old.number old.come line spelled c.word_of-word.result plain c.word_of-word.ensures c.in-Ok.after stands c.in_default.not-Data c.in_default.not-Done
                c.judge.new.self [] w.in-Ok-judge.ensures refl))
            | in-Err-judge w ↦ rw w.result-is
                (subst (λ (f : ReadFault). HasStopped f to) (sym w.in_line.ensures)
                (not_judged old.standing old.builder old.number old.come line spelled c.word_of-word.result plain c.word_of-word.ensures c.in-Ok.after stands c.in_default.not-Data c.in_default.not-Done
                c.judge.new.self w.in-Err-judge.fault w.in-Err-judge.ensures))
          ]);
    }
