use Rattle.std.proofs.Common.{◌≡◌, ◌∙◌, List, ◌∷◌, ◌++◌, [], ap, sym, subst, append_assoc, arith, length, refl}
use Rattle.std.proofs.lemmas.List.Sums.{sum_by_push}
use Rattle.std.specs.Prelude.{IfOk}
use Rattle.plain_model.specs.declared.event.PlainEvent.{PlainEvent}
use Rattle.plain_model.specs.Lookups.{id_of}
use Rattle.history_laws.specs.Once.{AreDistinct}
use Rattle.event_arena.specs.Rows.{events_of, in_rows}
use Rattle.event_arena.specs.Weights.{event_weight, weight_of}
use Rattle.event_arena.proofs.ListLemmas.{append-nil}
use Rattle.event_arena.proofs.RowLemmas.{names_are, names_push, rows_length, rows_of, rows_push}
use Rattle.event_arena.proofs.WeightLemmas.{bound_less}
use Rattle.event_arena.proofs.table.EventTable.from_list.Goals as goal

pub loop-event-preserved : goal.loop-event-preserved
loop-event-preserved c =
    let stored = c.loop-event.stored.items in
    let es = events_of stored in
    let x = c.into_rc-shared.result in
    let rest = c.next.new.self.rest.items in
    let v = c.loop-event.invariant in
    let push = ap events_of c.in_ok-push-2.ensures.items ∙ rows_push stored x in
    let own = c.id.ensures ∙ ap id_of c.as_ref-in-loop-event.ensures in
    let long = rows_length stored in
    let fits = c.loop-event.stored.ok.0 in
    let count = c.len-at.ensures in
    let number : c.len-at.result ≡ length es = omega arith in
    let heavier = sum_by_push event_weight es x.value in
    let same = ap event_weight c.as_ref.ensures in
    rw (push, c.in_ok-push.ensures.items) (record {
      whole = append_assoc es (x.value ∷ []) rest ∙ ap (λ y. es ++ y ∷ rest) c.into_rc-shared.ensures ∙ ap (λ l. es ++ l) (sym c.in-Some.ensures.steps.0) ∙ v.whole;
      named = names_push es c.loop-event.rows.items es x.value x.value _ refl number own v.named;
      bound = bound_less c.heavier-weight.result _ _ (omega arith) (c.heavier-weight.ensures (weight_of es) v.bound);
    })

-- at the end all of the list is stored
ended : (so_far left whole : List PlainEvent) → length left ≡ 0 → so_far ++ left ≡ whole → so_far ≡ whole
ended so_far [] whole none same = sym (append-nil so_far) ∙ same
ended so_far (e ∷ left) whole none same = absurd (omega arith)

pub of_rows-requires : goal.of_rows-requires
of_rows-requires c =
    let es = events_of c.loop-event.stored.items in
    let left = c.loop-event.event-iterator.rest in
    let fits = left.ok.0 in
    let none = c.in-None.ensures.steps.0 in
    let all : es ≡ c.args.list = ended es left.items c.args.list (omega arith) c.loop-event.invariant.whole in
    rw c.in_ok-store.ensures (rows_of es c.loop-event.rows.items c.loop-event.weight es (record {
      named = c.loop-event.invariant.named;
      once = subst AreDistinct (sym all) c.requires;
      bound = c.loop-event.invariant.bound;
    }))

pub returns : goal.returns
returns c =
    let es = events_of c.loop-event.stored.items in
    let left = c.loop-event.event-iterator.rest in
    let fits = left.ok.0 in
    let none = c.in-None.ensures.steps.0 in
    let all : es ≡ c.args.list = ended es left.items c.args.list (omega arith) c.loop-event.invariant.whole in
    subst (λ xs. IfOk c.of_rows.result (λ table. table ≡ xs))
    (ap (λ s. in_rows s c.loop-event.rows.items) c.in_ok-store.ensures ∙ names_are es c.loop-event.rows.items es c.loop-event.invariant.named ∙ all) c.of_rows.ensures
