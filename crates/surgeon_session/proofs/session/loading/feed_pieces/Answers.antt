use Rattle.std.proofs.Common.{◌≡◌, ◌++◌, [], drop, take, Some, Err, refl, subst, sym, arith, zero-le}
use Rattle.plain_model.specs.declared.fault.Fault.{Fault}
use Rattle.plain_model.specs.declared.limit.TheConstants.{MAX_STREAM_BYTES}
use Rattle.history_machine.specs.Loading.{read_of}
use Rattle.surgeon_store.specs.declared.whole_files.ReadEnd.{ReadEnd}
use Rattle.surgeon_session.specs.Calls.{AsTold}
use Rattle.surgeon_session.specs.Pieces.{StopsNear, Tells, read_refused}
use Rattle.surgeon_session.proofs.Pieces.{TakesMore, any_told, begins, fed_piece, goes_on, has_room, long_near, long_returns, memory_near, memory_tells, more_taken, never_source, none_taken, nothing_near, one_byte, piece_size, reads_both, refused_near, refused_returns, room_fits, wanted, whole}
use Rattle.surgeon_session.proofs.Rounds.{none_counted}
use Rattle.surgeon_session.proofs.session.loading.feed_pieces.Goals as goal

pub loop-come-init : goal.loop-come-init
loop-come-init g c = record {
  within = zero-le;
  read = ([], c.requires, begins, none_taken _, refl);
  quiet = record { read_faults = refl; write_faults = refl };
  frame = record { files = refl; writing = refl; write_faults = refl; read_faults = omega arith; misses = omega arith };
}

pub returns-in-Err-clause-tells : goal.returns-in-Err-clause-tells
returns-in-Err-clause-tells g c = any_told _ [] (λ bytes. tt)

pub returns-in-Err-clause-near : goal.returns-in-Err-clause-near
returns-in-Err-clause-near g c = nothing_near _ _

pub returns-then-count-eq0-clause-tells : goal.returns-then-count-eq0-clause-tells
returns-then-count-eq0-clause-tells g c =
    let before = c.loop-come.invariant in
    let now = (g.S.Store.state c.loop-come.store).rest in
    let new = (g.S.Store.state c.read.new.self).rest in
    let some = wanted MAX_STREAM_BYTES c.loop-come.come 65536 c.min-room.result c.loop-come-test.true (omega arith) c.min-room.ensures in
    let room = has_room c.min-room.result c.loop-come.piece c.read.new.piece some (omega arith) c.read.auto.piece in
    whole _ now new c.loop-come.reader before.read.0 c.read.new.piece c.loop-come.come before.within before.read.3 before.read.4 before.read.1 before.read.2
    (subst (λ n. TakesMore now n c.read.new.piece new) c.if-count-eq0.true c.in-Ok.ensures.takes) room

pub returns-then-count-eq0-clause-near : goal.returns-then-count-eq0-clause-near
returns-then-count-eq0-clause-near g c = nothing_near _ _

pub returns-in-Err-feed-clause-tells : goal.returns-in-Err-feed-clause-tells
returns-in-Err-feed-clause-tells g c =
    let before = c.loop-come.invariant in
    let now = (g.S.Store.state c.loop-come.store).rest in
    let new = (g.S.Store.state c.read.new.self).rest in
    let count = c.in-Ok.count in
    let fits = room_fits MAX_STREAM_BYTES c.loop-come.come 65536 c.min-room.result count c.loop-come.piece c.read.new.piece before.within c.min-room.ensures c.read.auto.piece c.in-Ok.ensures.bound in
    let next = fed_piece c.feed.new.self before.read.0 c.read.new.piece (drop c.min-room.result c.loop-come.piece) count c.in-Ok.ensures.bound (c.feed.ensures.reads _ before.read.1) in
    subst (λ (e : ReadEnd). Tells c.args.name.now (g.S.Store.state c.args.store.now).rest (Err e) c.feed.new.self new) (sym c.of_read_fault.ensures)
    (refused_returns c.limits_refuse_nothing_else.ensures.defect MAX_STREAM_BYTES c.args.name.now _ now new c.loop-come.reader before.read.0 c.read.new.piece c.loop-come.come before.within before.read.3 before.read.4 before.read.1 before.read.2
    count c.in-Err-feed.fault c.feed.new.self c.in-Ok.ensures.takes fits.0 fits.1 c.in-Err-feed.ensures.answer next)

pub returns-in-Err-feed-clause-near : goal.returns-in-Err-feed-clause-near
returns-in-Err-feed-clause-near g c =
    let before = c.loop-come.invariant in
    let now = (g.S.Store.state c.loop-come.store).rest in
    let new = (g.S.Store.state c.read.new.self).rest in
    let count = c.in-Ok.count in
    let fits = room_fits MAX_STREAM_BYTES c.loop-come.come 65536 c.min-room.result count c.loop-come.piece c.read.new.piece before.within c.min-room.ensures c.read.auto.piece c.in-Ok.ensures.bound in
    let next = fed_piece c.feed.new.self before.read.0 c.read.new.piece (drop c.min-room.result c.loop-come.piece) count c.in-Ok.ensures.bound (c.feed.ensures.reads _ before.read.1) in
    subst (λ (e : ReadEnd). StopsNear (g.S.Store.state c.args.store.now).rest (read_refused {X = Unit {0}} (Err e)) new) (sym c.of_read_fault.ensures)
    (refused_near c.limits_refuse_nothing_else.ensures.defect MAX_STREAM_BYTES [] _ now new c.loop-come.reader before.read.0 c.read.new.piece c.loop-come.come before.within before.read.3 before.read.4 before.read.1 before.read.2
    count c.in-Err-feed.fault c.feed.new.self c.in-Ok.ensures.takes fits.0 fits.1 c.in-Err-feed.ensures.answer next fits.0 (Unit {0}))

pub returns-in-Err-feed-clause-failed : goal.returns-in-Err-feed-clause-failed
returns-in-Err-feed-clause-failed g c = λ h. absurd (never_source c.in-Err-feed.fault c.of_read_fault.result c.of_read_fault.ensures h)

pub loop-come-preserved : goal.loop-come-preserved
loop-come-preserved g c =
    let before = c.loop-come.invariant in
    let now = (g.S.Store.state c.loop-come.store).rest in
    let new = (g.S.Store.state c.read.new.self).rest in
    let count = c.in-Ok.count in
    let read = before.read.0 ++ take count c.read.new.piece in
    let fits = room_fits MAX_STREAM_BYTES c.loop-come.come 65536 c.min-room.result count c.loop-come.piece c.read.new.piece before.within c.min-room.ensures c.read.auto.piece c.in-Ok.ensures.bound in
    let next = fed_piece c.feed.new.self before.read.0 c.read.new.piece (drop c.min-room.result c.loop-come.piece) count c.in-Ok.ensures.bound (c.feed.ensures.reads _ before.read.1) in
    record {
      within = fits.0;
      read = (
        read,
        next,
        goes_on c.feed.new.self read c.in_default.ensures.answer next,
        more_taken _ now new c.loop-come.come count before.read.0 c.read.new.piece before.read.3 c.in-Ok.ensures.takes,
        piece_size count before.read.0 c.read.new.piece c.loop-come.come c.in-Ok.ensures.bound before.read.4,
      );
      quiet = none_counted _ _ _ before.quiet c.in-Ok.ensures.quiet;
      frame = reads_both _ _ _ before.frame c.read.ensures.frame;
    }

pub returns-in-Ok-eq0-clause-tells : goal.returns-in-Ok-eq0-clause-tells
returns-in-Ok-eq0-clause-tells g c =
    let before = c.loop-come.invariant in
    let now = (g.S.Store.state c.loop-come.store).rest in
    let new = (g.S.Store.state c.read-2.new.self).rest in
    let room = has_room 1 c.loop-come.piece c.read-2.new.piece (omega arith) (omega arith) c.read-2.auto.piece in
    whole _ now new c.loop-come.reader before.read.0 c.read-2.new.piece c.loop-come.come before.within before.read.3 before.read.4 before.read.1 before.read.2
    (subst (λ n. TakesMore now n c.read-2.new.piece new) c.in-Ok-eq0.field-0-test c.in-Ok-eq0.ensures.takes) room

pub returns-in-Ok-eq0-clause-near : goal.returns-in-Ok-eq0-clause-near
returns-in-Ok-eq0-clause-near g c = nothing_near _ _

pub returns-in_err-too_long-in-Ok-read-clause-tells : goal.returns-in_err-too_long-in-Ok-read-clause-tells
returns-in_err-too_long-in-Ok-read-clause-tells g c = memory_tells _ _ c.from_residual.result _ _ c.from_residual.ensures.1

pub returns-in_err-too_long-in-Ok-read-clause-near : goal.returns-in_err-too_long-in-Ok-read-clause-near
returns-in_err-too_long-in-Ok-read-clause-near g c = memory_near c.from_residual.result c.from_residual.ensures.1 _ _

pub returns-in_ok-too_long-in-Ok-read-clause-tells : goal.returns-in_ok-too_long-in-Ok-read-clause-tells
returns-in_ok-too_long-in-Ok-read-clause-tells g c =
    let before = c.loop-come.invariant in
    let now = (g.S.Store.state c.loop-come.store).rest in
    let new = (g.S.Store.state c.read-2.new.self).rest in
    subst (λ (f : Fault). AsTold (g.S.Store.state c.args.store.now).rest (λ bytes. read_of c.args.name.now (Some bytes) ≡ Err f)) (sym c.in_ok-too_long-in-Ok-read.ensures)
    (long_returns c.limits_refuse_nothing_else.ensures.defect MAX_STREAM_BYTES c.args.name.now _ now new c.loop-come.reader before.read.0 c.read-2.new.piece c.loop-come.come before.within before.read.3 before.read.4 before.read.1 before.read.2
    c.in-Ok-read.field-0 c.in-Ok-read.ensures.takes c.in-Ok-read.field-0-test.1 c.loop-come-test.false)

pub returns-in_ok-too_long-in-Ok-read-clause-near : goal.returns-in_ok-too_long-in-Ok-read-clause-near
returns-in_ok-too_long-in-Ok-read-clause-near g c =
    let before = c.loop-come.invariant in
    let now = (g.S.Store.state c.loop-come.store).rest in
    let new = (g.S.Store.state c.read-2.new.self).rest in
    subst (λ (f : Fault). StopsNear (g.S.Store.state c.args.store.now).rest (Some f) new) (sym c.in_ok-too_long-in-Ok-read.ensures)
    (long_near _ now new c.loop-come.come c.in-Ok-read.field-0 before.read.0 c.read-2.new.piece c.args.name.now MAX_STREAM_BYTES before.within c.loop-come-test.false
    (one_byte c.loop-come.piece c.read-2.new.piece c.in-Ok-read.field-0 c.read-2.auto.piece c.in-Ok-read.ensures.bound) c.in-Ok-read.field-0-test.1 before.read.3 c.in-Ok-read.ensures.takes)

pub returns-in-Err-read-clause-tells : goal.returns-in-Err-read-clause-tells
returns-in-Err-read-clause-tells g c = any_told _ [] (λ bytes. tt)

pub returns-in-Err-read-clause-near : goal.returns-in-Err-read-clause-near
returns-in-Err-read-clause-near g c = nothing_near _ _
