use Rattle.std.proofs.Common.{◌≡◌, ◌∙◌, ◌∷◌, ◌++◌, ◌+◌, ◌≤◌, ℕ, [], suc, ap, length, sym, subst, arith}
use Rattle.std.specs.List.{insert}
use Rattle.std.specs.Prelude.{IfOk, IfSome, List}
use Rattle.plain_model.specs.declared.event.PlainEvent.{PlainEvent}
use Rattle.history_laws.proofs.Ids.{found_place, place_at, place_within}
use Rattle.event_arena.specs.Changes.{put_after}
use Rattle.event_arena.specs.Rows.{NameAll}
use Rattle.event_arena.specs.Weights.{event_weight, weight_of}
use Rattle.event_arena.proofs.DistinctLemmas.{distinct_put_after}
use Rattle.event_arena.proofs.OrderLemmas.{weight_put_after}
use Rattle.event_arena.proofs.PlaceLemmas.{put_insert}
use Rattle.event_arena.proofs.RowLemmas.{names_are, names_insert, names_length, names_more, names_new, rows_copied, rows_of}
use Rattle.event_arena.proofs.WeightLemmas.{bound_less}
use Rattle.event_arena.proofs.table.EventTable.table_with.Goals as goal
use Rattle.event_arena.proofs.table.EventTable.table_with.Goals.{In_ok-insert}

pub unwrap-place-requires : goal.unwrap-place-requires
unwrap-place-requires c = rw c.place.ensures.place (found_place c.args.id c.args.self.now c.requires.there)

pub insert-requires : goal.insert-requires
insert-requires c =
    let es = c.args.self.now in
    let named = rows_copied c.self.inside.store c.self.inside.rows.value c.as_ref.result.now c.in_ok-rows.rows c.self.inside.places.value c.self.inside.weight es c.as_ref.ensures c.self.invariant c.self.view_is c.in_ok-rows.ensures.cases.0 in
    let long = names_length c.self.inside.store c.in_ok-rows.rows.items es named in
    let fits = c.in_ok-rows.rows.ok.0 in
    let here = place_at c.args.id es c.unwrap-place.result (sym c.place.ensures.place ∙ c.unwrap-place.ensures) in
    let within = place_within es c.unwrap-place.result here.0 here.1 in
    omega arith

-- the rows name the events with the new one
put : (c : In_ok-insert) → NameAll c.push.new.self c.insert.new.self.items (put_after c.args.id c.args.event c.args.self.now)
put c =
    let es = c.args.self.now in
    let stored = c.self.inside.store in
    let k = c.unwrap-place.result in
    let copy = c.in_ok-rows.rows in
    let x = c.in_ok-event.event.value in
    let named = rows_copied stored c.self.inside.rows.value c.as_ref.result.now copy c.self.inside.places.value c.self.inside.weight es c.as_ref.ensures c.self.invariant c.self.view_is c.in_ok-rows.ensures.cases.0 in
    let place = sym c.place.ensures.place ∙ c.unwrap-place.ensures in
    let here = place_at c.args.id es k place in
    let within = place_within es k here.0 here.1 in
    let shared : c.push.new.self ≡ stored ++ x ∷ [] = c.in_ok-row.ensures.ok ∙ ap (λ s. s ++ x ∷ []) c.in_ok-store.ensures in
    let number = c.in_ok-row.ensures.number ∙ ap length c.in_ok-store.ensures in
    let row = names_new stored x c.args.event c.in_ok-row.row c.in_ok-event.ensures.ok number c.in_ok-row.ensures.id in
    let more = names_more stored (x ∷ []) copy.items es named in
    rw (c.in_ok-insert.ensures.items, shared)
    (subst (NameAll (stored ++ x ∷ []) (insert copy.items (k + 1) c.in_ok-row.row)) (next es k c.args.event ∙ put_insert c.args.id c.args.event es k place)
    (names_insert (stored ++ x ∷ []) copy.items es (k + 1) c.in_ok-row.row c.args.event more row (omega arith)))
  where
    next : (es : List PlainEvent) (n : ℕ) (e : PlainEvent) → insert es (n + 1) e ≡ insert es (suc n) e
    next es n e = ap (λ m. insert es m e) (same n)
      where
        same : (n : ℕ) → n + 1 ≡ suc n
        same n = omega arith

pub of_rows-requires : goal.of_rows-requires
of_rows-requires c =
    let es = c.args.self.now in
    let place = sym c.place.ensures.place ∙ c.unwrap-place.ensures in
    let all = weight_put_after c.args.id c.args.event es c.unwrap-place.result place in
    let old = subst (λ xs. IfSome c.self.inside.weight (λ most. weight_of xs ≤ most)) c.self.view_is c.self.invariant.listed.bound in
    rows_of c.push.new.self c.insert.new.self.items c.heavier-weight.result (put_after c.args.id c.args.event es) (record {
      named = put c.before;
      once = distinct_put_after c.args.id c.args.event es c.requires.unknown c.count-count.ensures.once;
      bound = bound_less c.heavier-weight.result (weight_of (put_after c.args.id c.args.event es)) (weight_of es + event_weight c.args.event) (omega arith) (c.heavier-weight.ensures (weight_of es) old);
    })

pub returns : goal.returns
returns c =
    subst (λ xs. IfOk c.of_rows.result (λ table. table ≡ xs))
    (names_are c.push.new.self c.insert.new.self.items (put_after c.args.id c.args.event c.args.self.now) (put c.before.before)) c.of_rows.ensures
