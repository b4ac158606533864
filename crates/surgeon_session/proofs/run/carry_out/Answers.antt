use Rattle.std.proofs.Common.{List, [], None, Ok, ap, refl, sym}
use Rattle.plain_model.specs.declared.fault.Halt.TheVariants as halt
use Rattle.plain_model.specs.Paths.{Bytes}
use Rattle.script_reader.specs.declared.command.Order.{Order}
use Rattle.history_machine.specs.Sessions.{Session}
use Rattle.history_machine.specs.Steps.{line_step, quiet}
use Rattle.surgeon_session.proofs.Halting.{halted_alone, halts_after, returned}
use Rattle.surgeon_session.proofs.Readying.{done_alone, of_order}
use Rattle.surgeon_session.proofs.run.carry_out.Goals as goal

pub returns-in_err-order-in-Plain-clause-carries : goal.returns-in_err-order-in-Plain-clause-carries
unfolding line_step
returns-in_err-order-in-Plain-clause-carries g c =
    let failed = c.in_err-order-in-Plain in
    rw c.in-Plain.is (
      None,
      λ sized. absurd cc,
      halted_alone (λ (calls : List Bytes). calls) _ _ c.args.session.now c.args.session.now _ _ failed.field-0.0 _ c.from_residual-in_err-order-in-Plain.ensures.1
          (λ files. halts_after failed.field-0.0 _ _ (returned (λ (order : Order). order) failed.field-0.0 _ (rw c.as_str.ensures at failed.ensures))) refl,
    )

pub returns-in_err-define-in-Define-clause-carries : goal.returns-in_err-define-in-Define-clause-carries
returns-in_err-define-in-Define-clause-carries g c =
    rw c.in-Define.is (
      None,
      λ sized. absurd cc,
      halted_alone (λ (calls : List Bytes). calls) _ _ c.args.session.now c.define.new.self _ _ halt.Memory _ c.from_residual.ensures.1 (λ files. tt) c.in_err-define-in-Define.ensures.err,
    )

pub returns-in_ok-define-in-Define-clause-carries : goal.returns-in_ok-define-in-Define-clause-carries
unfolding line_step
returns-in_ok-define-in-Define-clause-carries g c =
    rw (c.in-Define.is, c.none.ensures) (
      None,
      λ sized. absurd cc,
      done_alone (λ (calls : List Bytes). calls) _ _ c.args.session.now c.define.new.self _ _ [] (λ files. ap (λ (s : Session). Ok (quiet s)) (sym c.in_ok-define-in-Define.ensures.ok)),
    )

pub returns-in_ok-order-in-Plain-clause-carries : goal.returns-in_ok-order-in-Plain-clause-carries
returns-in_ok-order-in-Plain-clause-carries g c =
    rw c.in-Plain.is
    (of_order (λ (calls : List Bytes). calls) (g.P.Patterns.sizes c.args.patterns.now) (g.P.Patterns.sizes c.carry_out_order.new.patterns) _ _ _ _ c.args.session.now c.carry_out_order.new.session c.args.depth _ c.in_ok-order-in-Plain.order
    c.carry_out_order.result (rw c.as_str.ensures at c.in_ok-order-in-Plain.ensures) c.carry_out_order.ensures.carries)
