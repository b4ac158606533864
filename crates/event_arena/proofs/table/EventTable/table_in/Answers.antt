use Rattle.std.proofs.Common.{◌≡◌, ◌∙◌, ◌≤◌, ◌++◌, take, ap, sym, subst, add-one, arith}
use Rattle.std.proofs.lemmas.Slice.Zip.{all_zipped_more}
use Rattle.std.specs.Prelude.{IfOk, IfSome, option_to_list}
use Rattle.history_laws.proofs.Ids.{placeless}
use Rattle.event_arena.specs.Changes.{in_order}
use Rattle.event_arena.specs.Rows.{NameAll, Names, in_rows}
use Rattle.event_arena.specs.Weights.{weight_of}
use Rattle.event_arena.proofs.ChangeLemmas.{order_more}
use Rattle.event_arena.proofs.DistinctLemmas.{distinct_in_order}
use Rattle.event_arena.proofs.ListLemmas.{append-nil, take_all}
use Rattle.event_arena.proofs.OrderLemmas.{weight_in_order}
use Rattle.event_arena.proofs.PlaceLemmas.{place_found}
use Rattle.event_arena.proofs.RowLemmas.{names_are, names_get, names_length, rows_of, rows_seen}
use Rattle.event_arena.proofs.WeightLemmas.{bound_less}
use Rattle.event_arena.proofs.table.EventTable.table_in.Goals as goal
use Rattle.event_arena.proofs.table.EventTable.table_in.Goals.{in-Some+in_ok-push, in_default}

pub index-requires : goal.index-requires
index-requires c =
    let rows = c.as_ref.result.now in
    let named = rows_seen c.self.inside.store c.self.inside.rows.value rows c.self.inside.places.value c.self.inside.weight c.args.self.now c.as_ref.ensures c.self.invariant c.self.view_is in
    let long = names_length c.self.inside.store rows.items c.args.self.now named in
    let fits = c.as_ref.type_inv in
    let within = c.in-Some.ensures.within in
    omega arith

pub loop-id-preserved : goal.loop-id-preserved
loop-id-preserved c =
    let es = c.args.self.now in
    let stored = c.self.inside.store in
    let id = c.id-item.result in
    let seen = take c.loop-id.id-index c.args.order.now in
    let more = sym (order_more c.args.order.now c.loop-id.id-index id es c.loop-id-test.true c.id-item.is) in
    elim c.match-place.branch [
      | in-Some+in_ok-push w ↦
          let rows = w.as_ref.result.now in
          let named = rows_seen stored c.self.inside.rows.value rows c.self.inside.places.value c.self.inside.weight es w.as_ref.ensures c.self.invariant c.self.view_is in
          let e = names_get stored rows.items es w.in-Some.place w.index.result.now named w.in-Some.ensures.within w.index.ensures in
          let found = place_found id es w.in-Some.place e.0 (sym w.in-Some.ensures.place) e.1 in
          let list = ap (λ o. in_order seen es ++ option_to_list o) found ∙ more in
          rw (w.rows-is, w.in_ok-push.ensures.items, add-one)
          (subst (NameAll stored _) list (all_zipped_more (Names stored) c.loop-id.rows.items (in_order seen es) w.index.result.now e.0 c.loop-id.invariant e.2))
      | in_default w ↦
          let absent = sym (placeless es id (sym w.in_default.ensures.place)) in
          let list = sym (append-nil (in_order seen es)) ∙ ap (λ o. in_order seen es ++ option_to_list o) absent ∙ more in
          rw (w.rows-is, add-one) (subst (NameAll stored c.loop-id.rows.items) list c.loop-id.invariant)
    ]

pub of_rows-requires : goal.of_rows-requires
of_rows-requires c =
    let es = c.args.self.now in
    let stored = c.self.inside.store in
    let order = c.args.order.now in
    let all = ap (λ ids. in_order ids es) (take_all order c.loop-id.id-index c.loop-id-test.false) in
    let listed = c.self.invariant.listed in
    let bound = subst (λ xs. IfSome c.self.inside.weight (λ most. weight_of xs ≤ most)) c.self.view_is listed.bound in
    rw c.in_ok-store.ensures (rows_of stored c.loop-id.rows.items c.self.inside.weight (in_order order es) (record {
      named = subst (NameAll stored c.loop-id.rows.items) all c.loop-id.invariant;
      once = distinct_in_order order es c.count-count.ensures.once c.requires;
      bound = let same = weight_in_order order es c.count-count.ensures.once c.requires in bound_less c.self.inside.weight (weight_of (in_order order es)) (weight_of es) (omega arith) bound;
    }))

pub returns : goal.returns
returns c =
    let es = c.args.self.now in
    let stored = c.self.inside.store in
    let rows = c.loop-id.rows.items in
    let order = c.args.order.now in
    let all = ap (λ ids. in_order ids es) (take_all order c.loop-id.id-index c.loop-id-test.false) in
    let named = subst (NameAll stored rows) all c.loop-id.invariant in
    subst (λ xs. IfOk c.of_rows.result (λ table. table ≡ xs))
    (ap (λ s. in_rows s rows) c.in_ok-store.ensures ∙ names_are stored rows (in_order order es) named) c.of_rows.ensures
