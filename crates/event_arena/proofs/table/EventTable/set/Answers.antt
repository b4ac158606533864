use Rattle.std.proofs.Common.{◌≡◌, ◌∙◌, ◌∷◌, ◌++◌, ◌+◌, ◌-◌, [], Some, ap, arith, length, subst, sym}
use Rattle.std.proofs.Math.ListN.{set}
use Rattle.std.proofs.lemmas.Result.{MatchResult-from_err}
use Rattle.std.specs.Prelude.{slice_get}
use Rattle.plain_model.specs.Lookups.{place_of}
use Rattle.history_laws.proofs.Ids.{found_place, place_within}
use Rattle.event_arena.specs.Changes.{changed, with_field}
use Rattle.event_arena.specs.Rows.{NameAll, in_rows}
use Rattle.event_arena.specs.Spent.{AddsNone}
use Rattle.event_arena.specs.Weights.{event_weight, weight_of}
use Rattle.event_arena.proofs.ChangeLemmas.{id_with_field}
use Rattle.event_arena.proofs.DistinctLemmas.{distinct_changed}
use Rattle.event_arena.proofs.PlaceLemmas.{placed_changed, put_set}
use Rattle.event_arena.proofs.RowLemmas.{names_are, names_length, names_more, names_new, names_set, rows_more, table_of}
use Rattle.event_arena.proofs.SpentLemmas.{adds_changed}
use Rattle.event_arena.proofs.WeightLemmas.{bound_less, weight_part, weight_set}
use Rattle.event_arena.proofs.table.EventTable.set.Goals as goal
use Rattle.event_arena.proofs.table.EventTable.set.Goals.{After-weight-1, In_err-put_row}

pub unwrap-place-requires : goal.unwrap-place-requires
unwrap-place-requires c = rw c.place.ensures.place (found_place c.args.id c.args.self.now c.requires)

pub put_row-requires : goal.put_row-requires
put_row-requires c =
    let stored = c.self.inside.store in
    let rows = c.self.inside.rows.value.items in
    let within = place_within c.args.self.now c.unwrap-place.result c.nth-old.result.now c.nth-old.ensures.event in
    let long = names_length stored rows (in_rows stored rows) c.self.invariant.listed.named in
    let same = ap length c.self.view_is in
    omega arith

pub invariant_of-self-in_err-put_row : goal.invariant_of-self-in_err-put_row
invariant_of-self-in_err-put_row c =
    let stored = c.self.inside.store in
    let rows = c.self.inside.rows.value.items in
    let more = c.in_ok-shared.shared.value ∷ [] in
    rw (c.in_err-put_row.ensures.err, c.in_ok-row.ensures.ok) (table_of (stored ++ more) rows c.self.inside.places.value c.self.inside.weight (in_rows stored rows) (record {
      listed = rows_more stored more rows c.self.inside.weight (in_rows stored rows) c.self.invariant.listed;
      placed = c.self.invariant.placed;
    }))

-- one event more in the store, which no row names
same : (c : In_err-put_row) → in_rows c.push.new.self c.put_row.new.rows.value.items ≡ c.args.self.now
same c =
    let stored = c.self.inside.store in
    let rows = c.self.inside.rows.value.items in
    let more = c.in_ok-shared.shared.value ∷ [] in
    let old = in_rows stored rows in
    rw (c.in_err-put_row.ensures.err, c.in_ok-row.ensures.ok) (names_are (stored ++ more) rows old (names_more stored more rows old c.self.invariant.listed.named) ∙ c.self.view_is)

pub returns-in_err-put_row-clause-err : goal.returns-in_err-put_row-clause-err
returns-in_err-put_row-clause-err c =
    MatchResult-from_err c.from_residual-in_err-put_row.result _ _ c.from_residual-in_err-put_row.ensures.0 (λ _. same c.before)

pub returns-in_err-put_row-clause-adds : goal.returns-in_err-put_row-clause-adds
returns-in_err-put_row-clause-adds c = subst (AddsNone c.args.self.now) (sym (same c.before)) (λ id absent. absent)

-- the event that is there
there : (c : After-weight-1) → slice_get (in_rows c.self.inside.store c.self.inside.rows.value.items) c.unwrap-place.result ≡ Some c.nth-old.result.now
there c = subst (λ xs. slice_get xs c.unwrap-place.result ≡ Some c.nth-old.result.now) (sym c.self.view_is) c.nth-old.ensures.event

-- one with the value in its place
swapped : (c : After-weight-1) → set (in_rows c.self.inside.store c.self.inside.rows.value.items) c.unwrap-place.result (with_field c.args.field c.nth-old.result.now)
    ≡ changed c.args.id (with_field c.args.field) (in_rows c.self.inside.store c.self.inside.rows.value.items)
swapped c =
    let old = in_rows c.self.inside.store c.self.inside.rows.value.items in
    let k = c.unwrap-place.result in
    let place = subst (λ xs. place_of c.args.id xs ≡ Some k) (sym c.self.view_is) (sym c.place.ensures.place ∙ c.unwrap-place.ensures) in
    put_set c.args.id (with_field c.args.field) old k c.nth-old.result.now place (there c)

-- the row of the event with the value is put
put : (c : After-weight-1) → NameAll c.push.new.self c.put_row.new.rows.value.items (changed c.args.id (with_field c.args.field) (in_rows c.self.inside.store c.self.inside.rows.value.items))
put c =
    let stored = c.self.inside.store in
    let rows = c.self.inside.rows.value.items in
    let old = in_rows stored rows in
    let k = c.unwrap-place.result in
    let x = c.in_ok-shared.shared.value in
    let new = with_field c.args.field c.nth-old.result.now in
    let more = names_more stored (x ∷ []) rows old c.self.invariant.listed.named in
    let row = names_new stored x new c.in_ok-row.row (c.in_ok-shared.ensures.ok ∙ c.in_ok-event.ensures) c.in_ok-row.ensures.number c.in_ok-row.ensures.id in
    rw (c.in_ok-put_row.ensures.ok, c.in_ok-row.ensures.ok)
    (subst (NameAll (stored ++ x ∷ []) (set rows k c.in_ok-row.row)) (swapped c) (names_set (stored ++ x ∷ []) rows old k c.in_ok-row.row new more row))

pub invariant_of-self-2 : goal.invariant_of-self-2
invariant_of-self-2 c =
    let es = in_rows c.self.inside.store c.self.inside.rows.value.items in
    let f = with_field c.args.field in
    let kept = id_with_field c.args.field in
    let k = c.unwrap-place.result in
    let old = c.nth-old.result.now in
    let part = weight_part es k old (there c) in
    let whole = weight_set es k old (f old) (there c) in
    let changed_weight = ap weight_of (swapped c) in
    let own = ap event_weight c.in_ok-event.ensures in
    let rest = weight_of es - event_weight old in
    let others = c.lighter-others.ensures rest (bound_less c.self.inside.weight (rest + event_weight old) (weight_of es) (omega arith) c.self.invariant.listed.bound) in
    table_of c.push.new.self c.put_row.new.rows.value.items c.self.inside.places.value c.heavier-weight.result (changed c.args.id f es) (record {
      listed = record {
        named = put c;
        once = distinct_changed c.args.id f kept es c.self.invariant.listed.once;
        bound = bound_less c.heavier-weight.result (weight_of (changed c.args.id f es)) (rest + event_weight c.in_ok-event.event) (omega arith) (c.heavier-weight.ensures rest others);
      };
      placed = placed_changed c.self.inside.places.value c.args.id f kept es c.self.invariant.placed;
    })

-- so the table has what is changed
all : (c : After-weight-1) → in_rows c.push.new.self c.put_row.new.rows.value.items ≡ changed c.args.id (with_field c.args.field) c.args.self.now
all c =
    let es = in_rows c.self.inside.store c.self.inside.rows.value.items in
    names_are c.push.new.self c.put_row.new.rows.value.items (changed c.args.id (with_field c.args.field) es) (put c) ∙ ap (changed c.args.id (with_field c.args.field)) c.self.view_is

pub returns-clause-ok : goal.returns-clause-ok
returns-clause-ok c = all c

pub returns-clause-adds : goal.returns-clause-adds
returns-clause-adds c = subst (AddsNone c.args.self.now) (sym (all c)) (adds_changed c.args.id (with_field c.args.field) (id_with_field c.args.field) c.args.self.now)
