use Rattle.std.proofs.Common.{◌+◌, ◌-◌, ◌^◌, false, List, Ok, subst, ap, ◌∙◌}
use Rattle.plain_model.specs.Fields.{extent_in}
use Rattle.plain_model.specs.Fields.Extent.{Counted, Delimited}
use Rattle.plain_model.specs.Paths.{Bytes}
use Rattle.field_laws.proofs.Blocks.{delimiter_place}
use Rattle.stream_fields.specs.declared.data.Extent.{Extent}
use Rattle.stream_fields.specs.declared.data.Extent.TheVariants as extent
use Rattle.stream_fields.specs.Blocks.{SaysExtent}
use Rattle.stream_grammar.specs.declared.lines.Word.TheVariants as word
use Rattle.stream_grammar.specs.Lines.{next_of}
use Rattle.stream_reader.specs.declared.place.Place.TheVariants as place
use Rattle.stream_reader.specs.Reading.{IsIn, Reading, goes, state}
use Rattle.stream_reader.proofs.Lines.{data_next, no_bytes, counted_block, endless_block, delimited_block}
use Rattle.stream_reader.proofs.reader.StreamReader.end_data.Goals as goal

pub returns-in_ok-take_block-in-Ok-Counted-eq0-clause-leads : goal.returns-in_ok-take_block-in-Ok-Counted-eq0-clause-leads
returns-in_ok-take_block-in-Ok-Counted-eq0-clause-leads c =
    let line = c.args.line.now in
    let next = next_of word.Data line in
    let said = subst (λ (x : Extent). SaysExtent (2 ^ 63) (Ok x) (extent_in line)) (c.in-Ok-Counted-eq0.field-0-is ∙ ap extent.Counted c.in-Ok-Counted-eq0.field-0-0-test) c.in-Ok-Counted-eq0.ensures in
    subst (λ (r : Reading). (spelled : List Bytes) → IsIn c.self.inside.standing c.take_block.new.self (r.number + 1) r.come (place.AfterBlock false) (goes r.number line (state r.standing spelled r.known) next)) c.self.view_is
    (λ spelled. no_bytes c.self.inside.standing c.self.inside.builder c.self.inside.number c.self.inside.come line spelled next c.take_block.new.self c.empty.result c.is_inline.result (data_next line (Ok (Counted 0)) said.0) c.empty.ensures c.is_inline.ensures c.in_ok-take_block-in-Ok-Counted-eq0.ensures)

pub returns-in-Ok-Counted-clause-leads : goal.returns-in-Ok-Counted-clause-leads
returns-in-Ok-Counted-clause-leads c =
    let line = c.args.line.now in
    let next = next_of word.Data line in
    let count = c.in-Ok-Counted.count in
    let said = subst (λ (x : Extent). SaysExtent (2 ^ 63) (Ok x) (extent_in line)) c.in-Ok-Counted.field-0-is c.in-Ok-Counted.ensures in
    subst (λ (r : Reading). (spelled : List Bytes) → IsIn r.standing r.known (r.number + 1) r.come (place.Block c.self.inside.number (count - 1) c.empty-in-Ok-Counted.result) (goes r.number line (state r.standing spelled r.known) next)) c.self.view_is
    (λ spelled. counted_block c.self.inside.standing c.self.inside.builder c.self.inside.number c.self.inside.come line spelled next count c.empty-in-Ok-Counted.result (data_next line (Ok (Counted count)) said.0) c.in-Ok-Counted.count-test.1 c.empty-in-Ok-Counted.ensures)

pub returns-in-Ok-Longer-clause-leads : goal.returns-in-Ok-Longer-clause-leads
returns-in-Ok-Longer-clause-leads c =
    let line = c.args.line.now in
    let next = next_of word.Data line in
    let said = subst (λ (x : Extent). SaysExtent (2 ^ 63) (Ok x) (extent_in line)) c.in-Ok-Longer.field-0-is c.in-Ok-Longer.ensures in
    subst (λ (r : Reading). (spelled : List Bytes) → IsIn r.standing r.known (r.number + 1) r.come (place.EndlessBlock c.self.inside.number) (goes r.number line (state r.standing spelled r.known) next)) c.self.view_is
    (λ spelled. endless_block c.self.inside.standing c.self.inside.builder c.self.inside.number c.self.inside.come line spelled next said.0 said.1 (data_next line (Ok (Counted said.0)) said.2))

pub returns-in_ok-of-in-Ok-Delimited-clause-leads : goal.returns-in_ok-of-in-Ok-Delimited-clause-leads
returns-in_ok-of-in-Ok-Delimited-clause-leads c =
    let line = c.args.line.now in
    let next = next_of word.Data line in
    let delimiter = c.in-Ok-Delimited.delimiter in
    let said = subst (λ (x : Extent). SaysExtent (2 ^ 63) (Ok x) (extent_in line)) c.in-Ok-Delimited.field-0-is c.in-Ok-Delimited.ensures in
    subst (λ (r : Reading). (spelled : List Bytes) → IsIn r.standing r.known (r.number + 1) r.come (place.DelimitedBlock c.self.inside.number c.in_ok-of-in-Ok-Delimited.field-0 c.empty-in-Ok-Delimited.result c.empty-in-Ok-Delimited-2.result) (goes r.number line (state r.standing spelled r.known) next)) c.self.view_is
    (λ spelled. delimited_block c.self.inside.standing c.self.inside.builder c.self.inside.number c.self.inside.come line spelled next c.in_ok-of-in-Ok-Delimited.field-0 c.empty-in-Ok-Delimited.result c.empty-in-Ok-Delimited-2.result (data_next line (Ok (Delimited delimiter.now)) said.0) (c.in_ok-of-in-Ok-Delimited.ensures ∙ delimiter_place line delimiter.now said.0) c.empty-in-Ok-Delimited.ensures c.empty-in-Ok-Delimited-2.ensures)
