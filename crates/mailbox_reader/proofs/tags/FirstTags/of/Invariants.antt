use Rattle.std.proofs.Common.{take}
use Rattle.mailbox_reader.specs.FirstTags.{AreFirstIn}
use Rattle.mailbox_reader.proofs.tags.FirstTags.of.Given as goal

abbrev pub invariant-loop-place : goal.invariant-loop-place
invariant-loop-place l = AreFirstIn l.events.list (take l.place l.events.list) l.first
