use Rattle.std.proofs.Common.{◌∙◌, ap, sym, subst, arith}
use Rattle.std.proofs.lemmas.Bool.{true≢false}
use Rattle.plain_model.specs.Lookups.{same_id}
use Rattle.history_laws.proofs.Ids.{place_within}
use Rattle.event_arena.specs.Rows.{IsPlaced, noted}
use Rattle.event_arena.proofs.PlaceLemmas.{placed_apart, placed_here}
use Rattle.event_arena.proofs.RowLemmas.{names_at, names_get, names_length, rows_seen}
use Rattle.event_arena.proofs.table.EventTable.place.Goals as goal

pub index-requires : goal.index-requires
index-requires c =
    let rows = c.as_ref-2.result.now in
    let named = rows_seen c.self.inside.store c.self.inside.rows.value rows c.self.inside.places.value c.self.inside.weight c.args.self.now c.as_ref-2.ensures c.self.invariant c.self.view_is in
    let long = names_length c.self.inside.store rows.items c.args.self.now named in
    let fits = c.as_ref-2.type_inv in
    let all = c.count.ensures.count in
    let within = c.if-place-count.false in
    omega arith

pub returns-then-has_id-clause-place : goal.returns-then-has_id-clause-place
returns-then-has_id-clause-place c =
    let rows = c.as_ref-2.result.now in
    let named = rows_seen c.self.inside.store c.self.inside.rows.value rows c.self.inside.places.value c.self.inside.weight c.args.self.now c.as_ref-2.ensures c.self.invariant c.self.view_is in
    let all = c.count.ensures.count in
    let within = c.if-place-count.false in
    let e = names_get c.self.inside.store rows.items c.args.self.now c.noted-place.result c.index.result.now named (omega arith) c.index.ensures in
    let placed = subst (IsPlaced c.self.inside.places.value) c.self.view_is c.self.invariant.placed in
    let note = c.noted-place.ensures ∙ ap (λ p. noted p c.args.id) c.as_ref.ensures in
    let same = ap (λ i. same_id i c.args.id) e.2.1 ∙ sym c.has_id.ensures ∙ c.if-has_id.true in
    placed_here c.self.inside.places.value c.args.self.now e.0 c.args.id c.noted-place.result placed note e.1 same

pub returns-else-has_id-clause-place : goal.returns-else-has_id-clause-place
returns-else-has_id-clause-place c =
    let rows = c.as_ref-2.result.now in
    let named = rows_seen c.self.inside.store c.self.inside.rows.value rows c.self.inside.places.value c.self.inside.weight c.args.self.now c.as_ref-2.ensures c.self.invariant c.self.view_is in
    let placed = subst (IsPlaced c.self.inside.places.value) c.self.view_is c.self.invariant.placed in
    let note = c.noted-place.ensures ∙ ap (λ p. noted p c.args.id) c.as_ref.ensures in
    placed_apart c.self.inside.places.value c.args.self.now c.args.id c.noted-place.result placed note
    (λ e at same.
    let own = (names_at c.self.inside.store rows.items c.args.self.now c.noted-place.result c.index.result.now e named at c.index.ensures).1 in
    true≢false (sym same ∙ ap (λ i. same_id i c.args.id) own ∙ sym c.has_id.ensures ∙ c.if-has_id.false))

pub returns-then-place-count-clause-place : goal.returns-then-place-count-clause-place
returns-then-place-count-clause-place c =
    let placed = subst (IsPlaced c.self.inside.places.value) c.self.view_is c.self.invariant.placed in
    let note = c.noted-place.ensures ∙ ap (λ p. noted p c.args.id) c.as_ref.ensures in
    placed_apart c.self.inside.places.value c.args.self.now c.args.id c.noted-place.result placed note
    (λ e at same.
    let within = place_within c.args.self.now c.noted-place.result e at in
    let past = c.if-place-count.true in
    let all = c.count.ensures.count in
    omega arith)
