use Rattle.std.proofs.Common.{◌≡◌, ◌∙◌, ◌∷◌, ◌++◌, ◌+◌, ◌<◌, ◌≤◌, [], false, suc, not, take, drop, ap, sym, subst, length, get_or, add-one, arith}
use Rattle.std.proofs.lemmas.List.{length-map, length-take-le, take-append-drop}
use Rattle.std.proofs.lemmas.List.Sums.{sum_by-append, sum_by_push}
use Rattle.std.proofs.lemmas.Slice.Zip.{all_zipped_more}
use Rattle.std.specs.Prelude.{IfSome, map}
use Rattle.plain_model.specs.Lookups.{id_of, is_listed}
use Rattle.event_arena.specs.Changes.{without_all}
use Rattle.event_arena.specs.Rows.{IsNoted, IsPlaced, NameAll, Names}
use Rattle.event_arena.specs.Weights.{event_weight, weight_of}
use Rattle.event_arena.proofs.ChangeLemmas.{without_keep, without_none, without_skip}
use Rattle.event_arena.proofs.DistinctLemmas.{distinct_before, distinct_filter}
use Rattle.event_arena.proofs.ListLemmas.{take_all}
use Rattle.event_arena.proofs.PlaceLemmas.{placed_front, placed_more}
use Rattle.event_arena.proofs.RowLemmas.{names_are, names_front, names_get, names_length, rows_seen, table_of}
use Rattle.event_arena.proofs.SpentLemmas.{adds_filter}
use Rattle.event_arena.proofs.WeightLemmas.{bound_less, weight_left}
use Rattle.event_arena.proofs.table.EventTable.table_without.Goals as goal
use Rattle.event_arena.proofs.table.EventTable.table_without.Goals.{then-index, else-index+in_ok-note+in_ok-push}

pub slice_bounds-extend_from_slice-end : goal.slice_bounds-extend_from_slice-end
slice_bounds-extend_from_slice-end c =
    let es = c.args.self.now in
    let rows = c.as_ref.result.now in
    let named = rows_seen c.self.inside.store c.self.inside.rows.value rows c.self.inside.places.value c.self.inside.weight es c.as_ref.ensures c.self.invariant c.self.view_is in
    let long = names_length c.self.inside.store rows.items es named in
    let flags : length c.deref.result.now ≡ length es = ap length c.deref.ensures.value ∙ ap length c.in_ok-gone.ensures ∙ length-map es (λ e. is_listed (id_of e) c.args.ids.now) in
    let same = ap length c.deref-2.ensures.value in
    let within = c.first_flagged-first.ensures.within in
    sym (length-take-le c.first_flagged-first.result c.deref-2.result.now (omega arith))

pub loop-place-init : goal.loop-place-init
loop-place-init c =
    let es = c.args.self.now in
    let stored = c.self.inside.store in
    let ids = c.args.ids.now in
    let k = c.first_flagged-first.result in
    let rows = c.as_ref.result.now in
    let named = rows_seen stored c.self.inside.rows.value rows c.self.inside.places.value c.self.inside.weight es c.as_ref.ensures c.self.invariant c.self.view_is in
    let front = without_none ids es k (λ j low. ap (λ bs. get_or bs j false) (sym c.in_ok-gone.ensures ∙ sym c.deref.ensures.value) ∙ c.first_flagged-first.ensures.none j low) in
    let copied : c.extend_from_slice.new.self.items ≡ take k rows.items =
    c.in_ok-extend_from_slice.ensures.items ∙ ap (λ rows. rows ++ take k c.deref-2.result.now) c.in_ok-rows.ensures.items ∙ ap (take k) c.deref-2.ensures.value in
    let placed = subst (λ places. IsPlaced places es) (sym c.as_ref-2.ensures) (subst (IsPlaced c.self.inside.places.value) c.self.view_is c.self.invariant.placed) in
    let bound = subst (λ xs. IfSome c.self.inside.weight (λ most. weight_of xs ≤ most)) c.self.view_is c.self.invariant.listed.bound in
    let whole = ap weight_of (sym (take-append-drop k es)) ∙ sum_by-append event_weight (take k es) (drop k es) in
    rw front (record {
      named = subst (λ rows. NameAll stored rows (take k es)) (sym copied) (names_front stored rows.items es k named);
      placed = λ id j at. c.in_ok-places.ensures.cases id ∙ placed_front c.as_ref-2.result.now es k placed id j at;
      bound = bound_less c.self.inside.weight (weight_of (take k es) + weight_of (drop k es)) (weight_of es) (omega arith) bound;
    })

pub index-row-requires : goal.index-row-requires
index-row-requires c =
    let rows = c.as_ref-else-index.result.now in
    let named = rows_seen c.self.inside.store c.self.inside.rows.value rows c.self.inside.places.value c.self.inside.weight c.args.self.now c.as_ref-else-index.ensures c.self.invariant c.self.view_is in
    let long = names_length c.self.inside.store rows.items c.args.self.now named in
    let fits = c.as_ref-else-index.type_inv in
    let count = c.count-count.ensures.count in
    let test = c.loop-place-test.true in
    omega arith

pub loop-place-preserved : goal.loop-place-preserved
loop-place-preserved c =
    let es = c.args.self.now in
    let stored = c.self.inside.store in
    let ids = c.args.ids.now in
    let k = c.loop-place.place in
    let b = c.index.result.now in
    let v = c.loop-place.invariant in
    let kept = without_all ids (take k es) in
    let at : b ≡ get_or (map (λ e. is_listed (id_of e) ids) es) k b = c.index.ensures ∙ ap (λ bs. get_or bs k b) c.in_ok-gone.ensures in
    let count = c.count-count.ensures.count in
    let test = c.loop-place-test.true in
    let within : k < length es = omega arith in
    elim c.if-index.branch [
      | then-index w ↦
          let left = weight_left es k w.nth.result.now w.nth.ensures.event in
          let skip = without_skip ids es k b within at w.if-index.true in
          rw (w.rows-is, w.places-is, w.weight-is, add-one) (record {
            named = subst (NameAll stored c.loop-place.rows.items) (sym skip) v.named;
            placed = subst (IsPlaced c.loop-place.places) (sym skip) v.placed;
            bound = subst (λ xs. IfSome w.lighter-weight.result (λ most. weight_of xs + weight_of (drop (suc k) es) ≤ most)) (sym skip)
                (w.lighter-weight.ensures (weight_of kept + weight_of (drop (suc k) es)) (bound_less c.loop-place.weight (weight_of kept + weight_of (drop (suc k) es) + event_weight w.nth.result.now) (weight_of kept + weight_of (drop k es)) (omega arith) v.bound));
          })
      | else-index+in_ok-note+in_ok-push w ↦
          let rows = w.as_ref-else-index.result.now in
          let named = rows_seen stored c.self.inside.rows.value rows c.self.inside.places.value c.self.inside.weight es w.as_ref-else-index.ensures c.self.invariant c.self.view_is in
          let here = names_get stored rows.items es k w.index-row.result.now named within w.index-row.ensures in
          let e = here.0 in
          let left = weight_left es k e here.1 in
          let keep = without_keep ids es k b e here.1 at w.if-index.false in
          let absent = adds_filter (λ e. not (is_listed (id_of e) ids)) (take k es) (id_of e) (distinct_before es k e c.count-count.ensures.once here.1) in
          let note = subst (λ i. IsNoted i w.len.result c.loop-place.places w.note.new.self) (sym here.2.1) w.in_ok-note.ensures.ok in
          let last : w.len.result ≡ length kept =
          let h = w.len.ensures in
          let fits = c.loop-place.rows.ok.0 in
          let long = names_length stored c.loop-place.rows.items kept v.named in
          omega arith
          in
          let heavier = sum_by_push event_weight kept e in
          rw (w.rows-is, w.places-is, w.weight-is, w.in_ok-push.ensures.items, add-one) (record {
            named = subst (NameAll stored _) (sym keep) (all_zipped_more (Names stored) c.loop-place.rows.items kept w.index-row.result.now e v.named here.2);
            placed = subst (IsPlaced w.note.new.self) (sym keep) (placed_more c.loop-place.places w.note.new.self e w.len.result kept last absent note v.placed);
            bound = subst (λ xs. IfSome c.loop-place.weight (λ most. weight_of xs + weight_of (drop (suc k) es) ≤ most)) (sym keep)
                (bound_less c.loop-place.weight (weight_of (kept ++ e ∷ []) + weight_of (drop (suc k) es)) (weight_of kept + weight_of (drop k es)) (omega arith) v.bound);
          })
    ]

pub invariant_of-result : goal.invariant_of-result
invariant_of-result c =
    let es = c.args.self.now in
    let stored = c.self.inside.store in
    let ids = c.args.ids.now in
    let k = c.loop-place.place in
    let v = c.loop-place.invariant in
    let kept = without_all ids (take k es) in
    let count = c.count-count.ensures.count in
    let past = c.loop-place-test.false in
    let all : kept ≡ without_all ids es = ap (without_all ids) (take_all es k (omega arith)) in
    rw (c.in_ok-places-2.ensures.ok, c.in_ok-rows-2.ensures.ok, c.in_ok-store.ensures) (table_of stored c.loop-place.rows.items c.loop-place.places c.loop-place.weight kept (record {
      listed = record {
        named = v.named;
        once = rw all (distinct_filter (λ e. not (is_listed (id_of e) ids)) es c.count-count.ensures.once);
        bound = bound_less c.loop-place.weight (weight_of kept) (weight_of kept + weight_of (drop k es)) (omega arith) v.bound;
      };
      placed = v.placed;
    }))

pub returns : goal.returns
returns c =
    let es = c.args.self.now in
    let ids = c.args.ids.now in
    let k = c.loop-place.place in
    let kept = without_all ids (take k es) in
    let count = c.count-count.ensures.count in
    let past = c.loop-place-test.false in
    rw (c.in_ok-rows-2.ensures.ok, c.in_ok-store.ensures)
    (names_are c.self.inside.store c.loop-place.rows.items kept c.loop-place.invariant.named ∙ ap (without_all ids) (take_all es k (omega arith)))
