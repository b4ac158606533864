-- Tags and resets are found where places are noted.
use Rattle.std.proofs.Common.{◌≡◌, zero, suc, true, List, Some, sym, subst, arith}
use Rattle.std.proofs.lemmas.Bool.{true≢false}
use Rattle.std.specs.Prelude.{slice_get}
use Rattle.plain_model.specs.declared.id.AnyId.{AnyId}
use Rattle.plain_model.specs.declared.id.AnyId.TheVariants as any
use Rattle.plain_model.specs.declared.event.PlainEvent.{PlainEvent}
use Rattle.plain_model.specs.Lookups.{id_of, is_listed, place_of}
use Rattle.history_laws.proofs.Ids.{place_at}
use Rattle.event_arena.specs.Pointers.{AreAmong, HasNotedResets, HasNotedTags, HasPointers}
use Rattle.event_arena.specs.Rows.{IsPlaced}
use Rattle.event_arena.specs.declared.places.Places.{Places}

-- the first event's id, the tags and then the resets for which other places are noted are all of them
pub all_pointers : (places : Places) (es : List PlainEvent) (first tags all : List AnyId) → IsPlaced places es →
    ((e : PlainEvent) → slice_get es 0 ≡ Some e → is_listed (id_of e) first ≡ true) → AreAmong first tags → HasNotedTags places tags →
    AreAmong tags all → HasNotedResets places all → HasPointers all es
all_pointers places es first tags all placed here more t rest r = λ id k is at. by id k is at
  where
    at_first : (id : AnyId) → place_of id es ≡ Some 0 → is_listed id all ≡ true
    at_first id at =
        let e = place_at id es 0 at in
        rest id (more id (subst (λ x. is_listed x first ≡ true) (sym e.3) (here e.0 e.1)))

    by : HasPointers all es
    by (any.Tag n) zero is at = at_first (any.Tag n) at
    by (any.Tag n) (suc k) is at = let note = placed (any.Tag n) (suc k) at in rest (any.Tag n) (t n (omega arith))
    by (any.Reset n) zero is at = at_first (any.Reset n) at
    by (any.Reset n) (suc k) is at = let note = placed (any.Reset n) (suc k) at in r n (omega arith)
    by (any.Blob n) k is at = absurd (true≢false (sym is))
    by (any.Commit n) k is at = absurd (true≢false (sym is))
    by (any.Pass n) k is at = absurd (true≢false (sym is))
