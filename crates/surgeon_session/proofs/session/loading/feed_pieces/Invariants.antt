use Rattle.std.proofs.Common.{◌≡◌, ◌≤◌, ◌-◌, length}
use Rattle.plain_model.specs.Paths.{Bytes}
use Rattle.plain_model.specs.declared.limit.TheConstants.{MAX_STREAM_BYTES}
use Rattle.stream_reader.specs.Reading.{HasRead, after, at_start}
use Rattle.surgeon_store.specs.Outside.{CountsNoFault, Reads}
use Rattle.surgeon_session.specs.Pieces.{GoesOn}
use Rattle.surgeon_session.proofs.Pieces.{HasTaken}
use Rattle.surgeon_session.proofs.session.loading.feed_pieces.Given as goal

abbrev pub invariant-loop-come : goal.invariant-loop-come
invariant-loop-come g l = record {
  within : l.come ≤ MAX_STREAM_BYTES;
  read : (bytes : Bytes) × HasRead l.reader bytes × GoesOn (after at_start bytes) × HasTaken (g.S.Store.state l.fn.store).rest l.come bytes (g.S.Store.state l.store).rest
      × (length bytes ≡ l.come);
  quiet : CountsNoFault (g.S.Store.state l.fn.store) (g.S.Store.state l.store);
  frame : Reads (g.S.Store.state l.fn.store) (g.S.Store.state l.store);
}

abbrev pub decreases-loop-come : goal.decreases-loop-come
decreases-loop-come g l = MAX_STREAM_BYTES - l.come
