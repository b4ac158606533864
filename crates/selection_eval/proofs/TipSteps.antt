-- Where the branches are, event by event.
use Rattle.std.proofs.Common.{◌≡◌, ℕ, suc, List, [], ◌∷◌, Option, Some, subst, drop, sym, IsSome}
use Rattle.std.specs.Prelude.{slice_get}
use Rattle.plain_model.specs.Lookups.{find_event}
use Rattle.plain_model.specs.Paths.{Bytes}
use Rattle.plain_model.specs.Snapshots.{refs, refs_after}
use Rattle.plain_model.specs.Soundness.{IsSound}
use Rattle.plain_model.specs.Trees.{TreeOf, at}
use Rattle.plain_model.specs.declared.id.AnyId.TheVariants as any
use Rattle.plain_model.specs.declared.event.PlainEvent.{PlainEvent}
use Rattle.event_arena.proofs.ListLemmas.{drop_item}
use Rattle.branch_tips.proofs.Noted.{noted}
use Rattle.event_sets.specs.Once.{AreLive}
use Rattle.selection_eval.specs.Spots.{tip_of}
use Rattle.selection_eval.proofs.Found.{live_found}
use Rattle.selection_eval.proofs.SoundLaws.{sound_tips}

-- one event more
pub next_tips : (tips now : TreeOf ℕ) (events : List PlainEvent) (k : ℕ) (e : PlainEvent) → slice_get events k ≡ Some e
    → now ≡ refs_after tips (e ∷ []) → refs_after tips (drop k events) ≡ refs events
    → refs_after now (drop (suc k) events) ≡ refs events
next_tips tips now events k e at_k is h =
    let rest : refs_after tips (e ∷ drop (suc k) events) ≡ refs events =
    subst (λ (l : List PlainEvent). refs_after tips l ≡ refs events) (drop_item events k e at_k) h in
    rw (is, sym (noted tips e (drop (suc k) events))) rest

-- the tip of a branch is a commit of the history
pub tip_found : (events : List PlainEvent) (branch : Bytes) (c : ℕ) → IsSound events → at (refs events) branch ≡ Some c
    → IsSome (find_event (any.Commit c) events)
tip_found events branch c sound h =
    let live : AreLive events (tip_of (Some c)) =
    subst (λ (o : Option ℕ). AreLive events (tip_of o)) h (sound_tips events sound branch) in
    live_found (any.Commit c) events live.0
