-- The dates of a sound history are no greater than the greatest.
use Rattle.std.proofs.Common.{List, None, Option, Some, ◌≤◌}
use Rattle.std.specs.Prelude.{IfSome}
use Rattle.plain_model.specs.Soundness.{IsFormedSigned, IsSoundEvent}
use Rattle.plain_model.specs.declared.event.PlainEvent.{PlainEvent}
use Rattle.plain_model.specs.declared.event.PlainEvent.TheVariants.{Blob, Commit, Pass, Reset, Tag}
use Rattle.plain_model.specs.declared.limit.TheConstants.{MAX_SECONDS}
use Rattle.plain_model.specs.declared.person.Signed.{Signed}
use Rattle.history_laws.specs.Finding.{IsDated}

pub dated_tagger : (tagger : Option Signed) → IfSome tagger IsFormedSigned
    → IfSome tagger (λ t. t.when.seconds ≤ MAX_SECONDS)
dated_tagger (Some t) h = h.1
dated_tagger None h = tt

pub dated_event : (earlier : List PlainEvent) (e : PlainEvent) → IsSoundEvent earlier e → IsDated e
dated_event earlier (Blob id mark bytes) h = tt
dated_event earlier (Commit id mark branch author committer encoding comment parents ops aliases) h = h.4.1
dated_event earlier (Tag id name target tagger comment mark) h = dated_tagger tagger h.3
dated_event earlier (Reset id branch target) h = tt
dated_event earlier (Pass id line) h = tt
