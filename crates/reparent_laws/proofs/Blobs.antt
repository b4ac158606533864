-- Which blobs go with the operations that are removed: those that some operation named before, and none names afterwards.
use Rattle.std.proofs.Common.{◌≡◌, ℕ, not, List, ap, ◌∙◌, Ok}
use Rattle.std.specs.Prelude.{◌&&◌}
use Rattle.plain_model.specs.declared.id.AnyId.{AnyId}
use Rattle.plain_model.specs.declared.id.AnyId.TheVariants as any
use Rattle.plain_model.specs.declared.event.PlainEvent.{PlainEvent}
use Rattle.plain_model.specs.declared.event.PlainEvent.TheVariants.{Blob}
use Rattle.plain_model.specs.Soundness.{IsSound, has_id}
use Rattle.edit_laws.specs.Sweeping.{is_named, swept}
use Rattle.edit_laws.proofs.Naming.{swept_blob}
use Rattle.commit_laws.specs.Rewriting.{rewritten_all}
use Rattle.commit_laws.proofs.Rewritten.{ids_same}
use Rattle.reparent_laws.specs.Operations.{remove_of, removes}
use Rattle.reparent_laws.specs.declared.removal.Removal.{Removal}
use Rattle.reparent_laws.proofs.Operated.{of_removed}

pub blobs_go : (what : Removal) (set : List AnyId) (events new : List PlainEvent) → IsSound events → remove_of what set events ≡ Ok new → (b : ℕ) →
    has_id new (any.Blob b) ≡ has_id events (any.Blob b) && not (is_named events b && not (is_named new b))
blobs_go what set events new h d b =
    of_removed what set events new h d (λ l. has_id l (any.Blob b) ≡ has_id events (any.Blob b) && not (is_named events b && not (is_named l b)))
    (λ c found.
    let whole = rewritten_all c (removes what) events in
    swept_blob events whole b
    ∙ ap (λ t. t && not (is_named events b && not (is_named (swept events whole) b))) (ids_same c (removes what) events (any.Blob b)))
