use Rattle.std.proofs.Common.{◌≡◌, ◌+◌, ◌++◌, ◌∷◌, [], false, List, subst, sym, ap, ◌∙◌}
use Rattle.std.specs.Prelude.{bytes_eq}
use Rattle.plain_model.specs.Paths.{Bytes}
use Rattle.stream_reader.specs.declared.place.Place.TheVariants as place
use Rattle.stream_reader.specs.Reading.{IsIn, Reading, after_compared, state}
use Rattle.stream_reader.proofs.Lines.{delimiter_comes, line_more}
use Rattle.stream_reader.proofs.reader.StreamReader.end_delimited.Goals as goal

pub returns-then-are_same-clause-leads : goal.returns-then-are_same-clause-leads
returns-then-are_same-clause-leads c =
    subst (λ (r : Reading). (spelled : List Bytes) → IsIn c.self.inside.standing c.take_block.new.self (r.number + 1) r.come (place.AfterBlock false) (after_compared r.number c.args.from c.args.delimiter c.args.bytes c.args.line.now (state r.standing spelled r.known))) c.self.view_is
    (λ spelled. delimiter_comes c.self.inside.standing c.self.inside.builder c.self.inside.number c.self.inside.come c.args.from c.args.delimiter c.args.bytes c.args.line.now spelled c.take_block.new.self c.is_inline.result (ap (bytes_eq c.args.line.now) (sym c.as_slice.ensures) ∙ sym c.are_same.ensures ∙ c.if-are_same.true) c.is_inline.ensures c.in_ok-take_block.ensures)

pub returns-clause-leads : goal.returns-clause-leads
returns-clause-leads c =
    let line = c.args.line.now in
    let made : c.push.new.self ≡ c.args.bytes ++ line ++ 10 ∷ [] = c.in_ok-push.ensures.ok ∙ ap (λ (t : Bytes). t ++ 10 ∷ []) c.in_ok-push_all.ensures.ok in
    subst (λ (r : Reading). (spelled : List Bytes) → IsIn r.standing r.known (r.number + 1) r.come (place.DelimitedBlock c.args.from c.args.delimiter c.push.new.self c.empty.result) (after_compared r.number c.args.from c.args.delimiter c.args.bytes line (state r.standing spelled r.known))) c.self.view_is
    (λ spelled. line_more c.self.inside.standing c.self.inside.builder c.self.inside.number c.self.inside.come c.args.from c.args.delimiter c.args.bytes line spelled c.push.new.self c.empty.result (ap (bytes_eq c.args.line.now) (sym c.as_slice.ensures) ∙ sym c.are_same.ensures ∙ c.if-are_same.false) made c.empty.ensures)
