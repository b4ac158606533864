use Rattle.std.proofs.Common.{◌∙◌, ap, sym}
use Rattle.plain_model.specs.Fields.{unquoted}
use Rattle.plain_model.specs.Fields.Quoting.{Between}
use Rattle.field_laws.proofs.Quoted.{with_front, with_front_nil, quote_ends, quote_unfit}
use Rattle.stream_fields.proofs.QuoteSteps.{within_after, same_after_byte, same_inside}
use Rattle.stream_fields.specs.declared.quoting.QuotePlace.TheVariants as place
use Rattle.stream_fields.specs.Quotes.{quoting_of}
use Rattle.stream_fields.proofs.quoting.unquote.Goals as goal
use Rattle.stream_fields.proofs.quoting.unquote.Goals.{in-Says+in_ok-push-in-Says, in-GoesOn}

pub loop-at-init : goal.loop-at-init
loop-at-init c = record {
  within = tt;
  same = ap (λ front. with_front front (unquoted Between c.args.text.now)) c.empty-bytes.ensures ∙ with_front_nil (unquoted Between c.args.text.now);
}

pub returns-in-Ends-clause-value : goal.returns-in-Ends-clause-value
returns-in-Ends-clause-value c =
    sym (quote_ends c.loop-at.bytes c.args.text.now (quoting_of c.loop-at.place) c.loop-at.at c.loop-at-test.true (sym c.in-Ends.ensures.turn)) ∙ c.loop-at.invariant.same

pub returns-in-Unfit-clause-value : goal.returns-in-Unfit-clause-value
returns-in-Unfit-clause-value c =
    sym (quote_unfit c.loop-at.bytes c.args.text.now (quoting_of c.loop-at.place) c.loop-at.at c.loop-at-test.true (sym c.in-Unfit.ensures.turn)) ∙ c.loop-at.invariant.same

pub loop-at-preserved : goal.loop-at-preserved
loop-at-preserved c = elim c.match-step.branch [
  | in-Says+in_ok-push-in-Says w ↦ record {
    within = within_after c.match-step.place place.Between w.place-is tt;
    same = same_after_byte c.args.text.now c.loop-at.bytes c.match-step.bytes (quoting_of c.loop-at.place) c.match-step.place c.loop-at.at (unquoted Between c.args.text.now) c.loop-at-test.true c.loop-at.invariant.same w.in-Says.value (sym w.in-Says.ensures.turn) w.place-is (w.bytes-is ∙ w.in_ok-push-in-Says.ensures.ok);
  }
  | in-GoesOn w ↦ record {
    within = within_after c.match-step.place w.in-GoesOn.to w.place-is w.in-GoesOn.ensures.within;
    same = same_inside c.args.text.now c.loop-at.bytes c.match-step.bytes (quoting_of c.loop-at.place) c.match-step.place c.loop-at.at (unquoted Between c.args.text.now) c.loop-at-test.true c.loop-at.invariant.same w.in-GoesOn.to (sym w.in-GoesOn.ensures.turn) w.place-is w.bytes-is;
  }
]
