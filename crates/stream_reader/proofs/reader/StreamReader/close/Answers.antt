use Rattle.std.proofs.Common.{sym, ◌∙◌, subst}
use Rattle.stream_reader.specs.Reading.{HasCome, StreamMachine}
use Rattle.stream_reader.proofs.Ends.{last_line}
use Rattle.stream_reader.proofs.reader.StreamReader.close.Goals as goal

pub returns-then-has_begun-clause-reads : goal.returns-then-has_begun-clause-reads
returns-then-has_begun-clause-reads c = λ m h.
    let old = c.args.self.now in
    subst (λ (x : StreamMachine). HasCome c.feed.new.self x) (sym (last_line old.standing old.known old.number old.come old.place m (sym c.has_begun.ensures ∙ c.if-has_begun.true) h)) (c.feed.ensures.reads m h)
