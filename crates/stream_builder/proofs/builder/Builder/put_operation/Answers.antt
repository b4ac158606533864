use Rattle.std.proofs.Common.{◌+◌, ◌≤◌, length, arith}
use Rattle.plain_model.specs.declared.limit.TheConstants.{MAX_EVENTS}
use Rattle.stream_builder.proofs.Limited.{is_put, isnt_put}
use Rattle.stream_builder.proofs.builder.Builder.put_operation.Goals as goal

pub returns-in-Err : goal.returns-in-Err
returns-in-Err c = λ k is.
    let few = c.if-next_id-more.false in
    let next = c.next_id.ensures in
    let within : length c.self.inside.drafts + 1 + c.args.more ≤ MAX_EVENTS = omega (arith, few, next, c.requires) in
    let less = c.if-self-ge-MAX_OPERATIONS.false in
    isnt_put c.self.inside.drafts c.self.inside.aliases c.self.inside.current c.in-Commit.open c.args.self.now k c.self.view_is c.in-Commit.is is c.args.op c.args.more c.self.inside.ops c.self.invariant.counted
    within (omega (arith, less)) c.put_last.new.commit c.put_last.new.trees c.args.self.now c.in-Err.fault c.in-Err.ensures

pub returns-in-Ok : goal.returns-in-Ok
returns-in-Ok c = λ k is.
    let few = c.if-next_id-more.false in
    let next = c.next_id.ensures in
    let within : length c.self.inside.drafts + 1 + c.args.more ≤ MAX_EVENTS = omega (arith, few, next, c.requires) in
    let less = c.if-self-ge-MAX_OPERATIONS.false in
    is_put c.self.inside.drafts c.self.inside.aliases c.self.inside.current c.in-Commit.open c.args.self.now k c.self.view_is c.in-Commit.is is c.args.op c.args.more c.self.inside.ops c.self.invariant.counted
    within (omega (arith, less)) c.put_last.new.commit c.put_last.new.trees c.in-Ok.ensures
