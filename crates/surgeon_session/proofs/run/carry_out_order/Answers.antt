use Rattle.std.proofs.Common.{List, None, Ok, Result, ap, refl}
use Rattle.plain_model.specs.declared.fault.Fault.{Fault}
use Rattle.script_lines.specs.Answering.{◌>>=◌}
use Rattle.history_machine.specs.Steps.{calling}
use Rattle.plain_model.specs.Paths.{Bytes}
use Rattle.surgeon_session.proofs.Halting.{halted_alone, halts_after, returned}
use Rattle.surgeon_session.proofs.Readying.{as_broken_line, as_done_line, done_alone}
use Rattle.surgeon_session.proofs.run.carry_out_order.Goals as goal

pub returns-in_err-expand-in-Do-clause-carries : goal.returns-in_err-expand-in-Do-clause-carries
returns-in_err-expand-in-Do-clause-carries g c =
    let failed = c.in_err-expand-in-Do in
    rw c.in-Do.is (
      None,
      λ sized. absurd cc,
      halted_alone (λ (calls : List Bytes). calls) _ _ c.args.session.now c.args.session.now _ _ failed.field-0.0 _ c.from_residual-in_err-expand-in-Do.ensures.1
          (λ files. halts_after failed.field-0.0 _ _ (returned (λ (lines : List Bytes). lines) failed.field-0.0 _ failed.ensures)) refl,
    )

pub returns-in_err-step-in-Step-clause-carries : goal.returns-in_err-step-in-Step-clause-carries
returns-in_err-step-in-Step-clause-carries g c =
    let failed = c.in_err-step-in-Step in
    let ran = failed.ensures.carries in
    rw c.in-Step.is (ran.0, ran.1, as_broken_line _ _ _ _ c.args.session.now c.step.new.self _ _ failed.field-0.0 c.from_residual.result c.from_residual.ensures.1 ran.2)

pub returns-in_ok-step-in-Step-clause-carries : goal.returns-in_ok-step-in-Step-clause-carries
returns-in_ok-step-in-Step-clause-carries g c =
    let ran = c.in_ok-step-in-Step.ensures.carries in
    rw c.in-Step.is (ran.0, ran.1, as_done_line _ _ _ _ c.args.session.now c.step.new.self _ _ c.none.result c.none.ensures ran.2)

pub returns-in_ok-expand-in-Do-clause-carries : goal.returns-in_ok-expand-in-Do-clause-carries
returns-in_ok-expand-in-Do-clause-carries g c =
    rw c.in-Do.is (
      None,
      λ sized. absurd cc,
      done_alone (λ (calls : List Bytes). calls) _ _ c.args.session.now c.args.session.now _ _ c.in_ok-expand-in-Do.field-0
          (λ files. ap (λ (r : Result (List Bytes) Fault). r >>= λ lines. Ok (calling c.args.session.now lines)) c.in_ok-expand-in-Do.ensures),
    )
