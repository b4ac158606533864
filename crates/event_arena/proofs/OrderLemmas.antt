-- What a list weighs in another order.
use Rattle.std.proofs.Common.{◌≡◌, ◌∙◌, ℕ, suc, ◌+◌, List, [], ◌∷◌, Some, None, refl, ap, sym, arith}
use Rattle.std.proofs.lemmas.List.Sorted.{IsPermutation-insert, sum_by-IsPermutation}
use Rattle.std.proofs.lemmas.List.Sums.{sum_by-append, sum_by-cons}
use Rattle.std.specs.List.{insert, sum_by}
use Rattle.std.specs.Prelude.{map, option_to_list}
use Rattle.plain_model.specs.declared.id.AnyId.{AnyId}
use Rattle.plain_model.specs.declared.event.PlainEvent.{PlainEvent}
use Rattle.plain_model.specs.Lookups.{find_event, id_of, place_of}
use Rattle.history_laws.proofs.Ids.{absent_cons, same_id_comm, same_id_refl}
use Rattle.event_arena.specs.Changes.{IsOrderOf, in_order, put_after}
use Rattle.history_laws.specs.Once.{AreDistinct}
use Rattle.event_arena.specs.Weights.{event_weight, weight_of}
use Rattle.event_arena.proofs.PlaceLemmas.{put_insert}

-- what the event with an id weighs
abbrev id_weight : List PlainEvent → AnyId → ℕ
id_weight es id = weight_of (option_to_list (find_event id es))

by_ids : (order : List AnyId) (es : List PlainEvent) → weight_of (in_order order es) ≡ sum_by (id_weight es) order
by_ids [] es = refl
by_ids (id ∷ order) es =
    sum_by-append event_weight (option_to_list (find_event id es)) (in_order order es)
    ∙ ap (λ n. id_weight es id + n) (by_ids order es)
    ∙ sym (sum_by-cons (id_weight es) id order)

-- ids of others find the same behind one event more
beside : (e : PlainEvent) (all es : List PlainEvent) → find_event (id_of e) es ≡ None → sum_by (id_weight (e ∷ all)) (map id_of es) ≡ sum_by (id_weight all) (map id_of es)
beside e all [] absent = refl
beside e all (x ∷ es) absent =
    let rest = absent_cons (id_of e) x es absent in
    let same : id_weight (e ∷ all) (id_of x) ≡ id_weight all (id_of x) = rw (same_id_comm (id_of x) (id_of e) ∙ rest.0) refl in
    sum_by-cons (id_weight (e ∷ all)) (id_of x) (map id_of es)
    ∙ (λ i. same i + beside e all es rest.1 i)
    ∙ sym (sum_by-cons (id_weight all) (id_of x) (map id_of es))

own_ids : (es : List PlainEvent) → AreDistinct es → sum_by (id_weight es) (map id_of es) ≡ weight_of es
own_ids [] once = refl
own_ids (e ∷ es) once =
    let alone = sum_by-cons event_weight e [] in
    let first : id_weight (e ∷ es) (id_of e) ≡ event_weight e = rw (same_id_refl (id_of e)) (omega arith) in
    sum_by-cons (id_weight (e ∷ es)) (id_of e) (map id_of es)
    ∙ (λ i. first i + (beside e es es once.0 ∙ own_ids es once.1) i)
    ∙ sym (sum_by-cons event_weight e es)

pub weight_in_order : (order : List AnyId) (es : List PlainEvent) → AreDistinct es → IsOrderOf order es → weight_of (in_order order es) ≡ weight_of es
weight_in_order order es once p = by_ids order es ∙ sum_by-IsPermutation (id_weight es) (map id_of es) order p ∙ own_ids es once

-- one event more
pub weight_put_after : (id : AnyId) (new : PlainEvent) (es : List PlainEvent) (k : ℕ) → place_of id es ≡ Some k → weight_of (put_after id new es) ≡ event_weight new + weight_of es
weight_put_after id new es k place =
    ap weight_of (sym (put_insert id new es k place))
    ∙ sum_by-IsPermutation event_weight (new ∷ es) (insert es (suc k) new) (IsPermutation-insert es (suc k) new)
    ∙ sum_by-cons event_weight new es
