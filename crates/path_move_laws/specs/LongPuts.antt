-- Puts whose paths have images that are too long. (own)
use Rattle.std.specs.Prelude.{Bool, false, length, nat_lt}
use Rattle.std.specs.List.{list_any}
use Rattle.plain_model.specs.declared.event.PlainEvent.{PlainEvent}
use Rattle.plain_model.specs.declared.limit.TheConstants.{MAX_PATH_BYTES}
use Rattle.plain_model.specs.declared.operation.FileOp.{FileOp}
use Rattle.plain_model.specs.declared.operation.FileOp.TheVariants.{Modify, Delete, Copy, Rename, DeleteAll}
use Rattle.plain_model.specs.Lookups.{event_ops}
use Rattle.plain_model.specs.Paths.{Bytes}

module _ (f : Bytes → Bytes) where
  -- the operation is a put at a path whose image has more bytes than a path may have
  abbrev pub is_long_put : FileOp → Bool
  is_long_put (Modify mode content path) = nat_lt MAX_PATH_BYTES (length (f path))
  is_long_put (Delete path) = false
  is_long_put (Copy source target) = false
  is_long_put (Rename source target) = false
  is_long_put DeleteAll = false

  -- the event has such a put
  abbrev pub has_long_put : PlainEvent → Bool
  has_long_put e = list_any is_long_put (event_ops e)
