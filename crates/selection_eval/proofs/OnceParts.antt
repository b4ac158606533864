-- Parts and unions of lists without repeats are without repeats.
use Rattle.std.proofs.Common.{◌≡◌, Bool, true, false, not, List, [], ◌∷◌, map, refl}
use Rattle.std.specs.Prelude.{◌||◌, filter, if◌then◌else◌}
use Rattle.std.proofs.lemmas.Bool.{not-true}
use Rattle.plain_model.specs.Lookups.{id_of, is_listed, same_id}
use Rattle.plain_model.specs.declared.id.AnyId.{AnyId}
use Rattle.plain_model.specs.declared.event.PlainEvent.{PlainEvent}
use Rattle.event_sets.specs.Once.{IsOnce, are_once}
use Rattle.event_sets.specs.Sets.{Ids, common, passing}
use Rattle.event_sets.proofs.OnceLemmas.{both_parts, either_off, once_part}
use Rattle.selection_eval.specs.Given.{HaveOwnIds}

-- ---- tests

pub or_second : (a b : Bool) → b ≡ true → (a || b) ≡ true
or_second true b h = refl
or_second false b h = h

-- ---- parts of lists

unlisted_passing : (id : AnyId) (test : PlainEvent → Bool) (events : List PlainEvent)
    → is_listed id (map id_of events) ≡ false → is_listed id (passing test events) ≡ false
unlisted_passing id test [] h = refl
unlisted_passing id test (e ∷ events) h =
    let apart = either_off (same_id id (id_of e)) (is_listed id (map id_of events)) h in
    go (test e) apart.0 (unlisted_passing id test events apart.1)
  where
    go : (b : Bool) → same_id id (id_of e) ≡ false → is_listed id (passing test events) ≡ false
        → is_listed id (map id_of (if b then e ∷ filter test events else filter test events)) ≡ false
    go true off rec = rw off rec
    go false off rec = rec

pub once_passing : (test : PlainEvent → Bool) (events : List PlainEvent) → HaveOwnIds events
    → IsOnce (passing test events)
once_passing test [] h = refl
once_passing test (e ∷ events) h =
    let apart = both_parts (not (is_listed (id_of e) (map id_of events))) (are_once (map id_of events)) h in
    let off = not-true (is_listed (id_of e) (map id_of events)) apart.0 in
    go (test e) (unlisted_passing (id_of e) test events off) (once_passing test events apart.1)
  where
    go : (b : Bool) → is_listed (id_of e) (passing test events) ≡ false → IsOnce (passing test events)
        → IsOnce (map id_of (if b then e ∷ filter test events else filter test events))
    go true off rec = rw off rec
    go false off rec = rec

pub once_common : (left right : Ids) → IsOnce left → IsOnce right → IsOnce (common left right)
once_common left right h k = once_part (λ id. is_listed id right) left h
