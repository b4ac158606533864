use Rattle.std.proofs.Common.{◌≡◌, ◌∙◌, ◌∷◌, ◌++◌, ◌+◌, [], None, ap, arith, length, subst, sym}
use Rattle.std.proofs.lemmas.List.Sums.{sum_by_push}
use Rattle.std.proofs.lemmas.Result.{MatchResult-from_err}
use Rattle.plain_model.specs.Lookups.{find_event, id_of}
use Rattle.event_arena.specs.Rows.{IsNoted, NameAll, in_rows}
use Rattle.event_arena.specs.Spent.{AddsOnly}
use Rattle.event_arena.specs.Weights.{event_weight, weight_of}
use Rattle.event_arena.proofs.DistinctLemmas.{distinct_more}
use Rattle.event_arena.proofs.PlaceLemmas.{placed_beside, placed_more}
use Rattle.event_arena.proofs.RowLemmas.{names_are, names_more, names_push, rows_more, table_of}
use Rattle.event_arena.proofs.SpentLemmas.{adds_append}
use Rattle.event_arena.proofs.WeightLemmas.{bound_less}
use Rattle.event_arena.proofs.table.EventTable.append.Goals as goal
use Rattle.event_arena.proofs.table.EventTable.append.Goals.{After-weight-1, In_err-push_row}

pub invariant_of-self-in_err-id : goal.invariant_of-self-in_err-id
invariant_of-self-in_err-id c =
    let e = c.args.event in
    let old = in_rows c.self.inside.store c.self.inside.rows.value.items in
    let places = c.note_place.new.places.value in
    let absent : find_event (id_of e) old ≡ None = rw (← c.self.view_is) at c.requires in
    let note = subst (λ i. IsNoted i c.count-place.result c.self.inside.places.value places) c.id-id.ensures c.in_ok-note_place.ensures.ok in
    rw c.in_err-id.ensures.err (record {
      listed = c.self.invariant.listed;
      placed = placed_beside c.self.inside.places.value places (id_of e) c.count-place.result old absent note c.self.invariant.placed;
    })

pub invariant_of-self-in_err-push_row : goal.invariant_of-self-in_err-push_row
invariant_of-self-in_err-push_row c =
    let e = c.args.event in
    let stored = c.self.inside.store in
    let rows = c.self.inside.rows.value.items in
    let more = c.in_ok-event.event.value ∷ [] in
    let old = in_rows stored rows in
    let places = c.note_place.new.places.value in
    let absent : find_event (id_of e) old ≡ None = rw (← c.self.view_is) at c.requires in
    let note = subst (λ i. IsNoted i c.count-place.result c.self.inside.places.value places) c.id-id.ensures c.in_ok-note_place.ensures.ok in
    rw (c.in_err-push_row.ensures.err, c.in_ok-id.ensures.ok) (table_of (stored ++ more) rows places c.self.inside.weight old (record {
      listed = rows_more stored more rows c.self.inside.weight old c.self.invariant.listed;
      placed = placed_beside c.self.inside.places.value places (id_of e) c.count-place.result old absent note c.self.invariant.placed;
    }))

-- one event more in the store, which no row names
same : (c : In_err-push_row) → in_rows c.push.new.self c.push_row.new.rows.value.items ≡ c.args.self.now
same c =
    let stored = c.self.inside.store in
    let rows = c.self.inside.rows.value.items in
    let more = c.in_ok-event.event.value ∷ [] in
    let old = in_rows stored rows in
    rw (c.in_err-push_row.ensures.err, c.in_ok-id.ensures.ok) (names_are (stored ++ more) rows old (names_more stored more rows old c.self.invariant.listed.named) ∙ c.self.view_is)

pub returns-in_err-push_row-clause-err : goal.returns-in_err-push_row-clause-err
returns-in_err-push_row-clause-err c =
    MatchResult-from_err c.from_residual-in_err-push_row.result _ _ c.from_residual-in_err-push_row.ensures.0 (λ _. same c.before)

pub returns-in_err-push_row-clause-adds : goal.returns-in_err-push_row-clause-adds
returns-in_err-push_row-clause-adds c = subst (AddsOnly (id_of c.args.event) c.args.self.now) (sym (same c.before)) (λ id other absent. absent)

-- the event is put at the end
put : (c : After-weight-1) → NameAll c.push.new.self c.push_row.new.rows.value.items (in_rows c.self.inside.store c.self.inside.rows.value.items ++ c.args.event ∷ [])
put c =
    let stored = c.self.inside.store in
    let rows = c.self.inside.rows.value.items in
    rw (c.in_ok-push_row.ensures.ok, c.in_ok-id.ensures.ok)
    (names_push stored rows (in_rows stored rows) c.in_ok-event.event.value c.args.event c.in_ok-id.field-0 c.in_ok-event.ensures.ok
    c.in_ok-id.ensures.number c.in_ok-id.ensures.id c.self.invariant.listed.named)

pub invariant_of-self-2 : goal.invariant_of-self-2
invariant_of-self-2 c =
    let e = c.args.event in
    let old = in_rows c.self.inside.store c.self.inside.rows.value.items in
    let places = c.note_place.new.places.value in
    let absent : find_event (id_of e) old ≡ None = rw (← c.self.view_is) at c.requires in
    let note = subst (λ i. IsNoted i c.count-place.result c.self.inside.places.value places) c.id-id.ensures c.in_ok-note_place.ensures.ok in
    let last : c.count-place.result ≡ length old = c.count-place.ensures.count ∙ ap length (sym c.self.view_is) in
    let more = sum_by_push event_weight old e in
    table_of c.push.new.self c.push_row.new.rows.value.items places c.heavier-weight.result (old ++ e ∷ []) (record {
      listed = record {
        named = put c;
        once = distinct_more old e absent c.self.invariant.listed.once;
        bound = bound_less c.heavier-weight.result (weight_of (old ++ e ∷ [])) (weight_of old + event_weight e) (omega arith) (c.heavier-weight.ensures (weight_of old) c.self.invariant.listed.bound);
      };
      placed = placed_more c.self.inside.places.value places e c.count-place.result old last absent note c.self.invariant.placed;
    })

pub returns-clause-ok : goal.returns-clause-ok
returns-clause-ok c =
    let old = in_rows c.self.inside.store c.self.inside.rows.value.items in
    names_are c.push.new.self c.push_row.new.rows.value.items (old ++ c.args.event ∷ []) (put c) ∙ ap (λ es. es ++ c.args.event ∷ []) c.self.view_is

pub returns-clause-adds : goal.returns-clause-adds
returns-clause-adds c =
    let old = in_rows c.self.inside.store c.self.inside.rows.value.items in
    let all = names_are c.push.new.self c.push_row.new.rows.value.items (old ++ c.args.event ∷ []) (put c) ∙ ap (λ es. es ++ c.args.event ∷ []) c.self.view_is in
    subst (AddsOnly (id_of c.args.event) c.args.self.now) (sym all) (adds_append c.args.event c.args.self.now)
