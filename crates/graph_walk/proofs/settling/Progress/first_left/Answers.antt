use Rattle.std.proofs.Common.{◌≡◌, ◌∙◌, ◌<◌, ◌∷◌, true, false, get_or, length, arith, ap, sym, add-one}
use Rattle.std.proofs.lemmas.List.{get_or_read}
use Rattle.plain_model.specs.declared.event.PlainEvent.{PlainEvent}
use Rattle.plain_model.specs.Lookups.{id_of, is_listed}
use Rattle.history_laws.proofs.Lists.{item_at}
use Rattle.edit_laws.specs.Settling.{first_commit_mark}
use Rattle.graph_walk.proofs.TurnLemmas.{first_found, first_other, first_taken, not_a_commit, taken_at}
use Rattle.graph_walk.proofs.settling.Progress.first_left.Goals as goal
use Rattle.graph_walk.proofs.settling.Progress.first_left.Goals.{then-not-index+in_default, else-not-index}

pub returns-in-Commit : goal.returns-in-Commit
returns-in-Commit c =
    let s = c.args.self.now in
    let place = c.loop-place.place in
    let low : place < length s.taken.items = let a = c.requires.under_way.flag_count in let b = c.count-place-end.ensures.count in let d = c.loop-place-test.true in omega arith in
    let flag : get_or s.taken.items place false ≡ false = sym (get_or_read s.taken.items place c.index.result.now low c.index.ensures false) ∙ c.if-not-index.true in
    let un : is_listed (id_of c.nth.result.now) s.order ≡ false = taken_at s.plan.now.after s.order s.taken.items place c.nth.result.now c.requires.under_way.taken c.count-place-end.ensures.once c.nth.ensures.event ∙ flag in
    sym (first_found s.order s.plan.now.after place c.nth.result.now c.nth.ensures.event c.loop-place.invariant c.in-Commit.mark un (λ es. ap (λ (e : PlainEvent). first_commit_mark (e ∷ es)) c.in-Commit.is))

pub loop-place-preserved : goal.loop-place-preserved
loop-place-preserved c =
    let s = c.args.self.now in
    let place = c.loop-place.place in
    let low : place < length s.taken.items = let a = c.requires.under_way.flag_count in let b = c.count-place-end.ensures.count in let d = c.loop-place-test.true in omega arith in
    let read = get_or_read s.taken.items place c.index.result.now low c.index.ensures false in
    elim c.if-not-index.branch [
      | then-not-index+in_default w ↦ rw add-one (first_other s.order s.plan.now.after place w.nth.result.now w.nth.ensures.event c.loop-place.invariant (not_a_commit w.nth.result.now w.in_default.not-Commit))
      | else-not-index w ↦
          let item = item_at s.plan.now.after place (let b = c.count-place-end.ensures.count in let d = c.loop-place-test.true in omega arith) in
          let taken : is_listed (id_of item.0) s.order ≡ true = taken_at s.plan.now.after s.order s.taken.items place item.0 c.requires.under_way.taken c.count-place-end.ensures.once item.1 ∙ sym read ∙ w.if-not-index.false in
          rw add-one (first_taken s.order s.plan.now.after place item.0 item.1 c.loop-place.invariant taken)
    ]
