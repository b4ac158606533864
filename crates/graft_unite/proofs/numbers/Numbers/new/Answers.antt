use Rattle.std.proofs.Common.{◌∙◌, ◌+◌, ◌++◌, ◌∷◌, [], add-one, ap, arith, sym, take}
use Rattle.std.specs.Prelude.{if◌then◌else◌}
use Rattle.event_arena.proofs.ListLemmas.{take_item}
use Rattle.graft_laws.specs.Joining.{is_pass}
use Rattle.graft_unite.specs.Numbering.{numbers_from}
use Rattle.graft_unite.proofs.NumberLemmas.{few_taken, next_push, next_number, numbers_push}
use Rattle.graft_unite.proofs.numbers.Numbers.new.Goals as goal

pub number_after-next-requires : goal.number_after-next-requires
number_after-next-requires c =
    let test = c.loop-place-test.true in
    let count = c.count-place-end.ensures.count in
    let few = few_taken c.args.first c.args.part.now.list c.loop-place.place (omega arith) in
    let is = c.loop-place.invariant.next in
    let fits = c.requires in
    omega arith

pub loop-place-preserved : goal.loop-place-preserved
loop-place-preserved c =
    let list = c.args.part.now.list in
    let v = c.loop-place.invariant in
    let item = take_item list c.loop-place.place c.nth.result.now c.nth.ensures.event in
    rw add-one (record {
      numbers = c.in_ok-push.ensures.items ∙ (λ i. v.numbers i ++ v.next i ∷ []) ∙ sym (ap (numbers_from c.args.first) item ∙ numbers_push c.args.first (take c.loop-place.place list) c.nth.result.now);
      next = c.number_after-next.ensures ∙ ap (λ n. if is_pass c.nth.result.now then n else n + 1) v.next ∙ sym (ap (next_number c.args.first) item ∙ next_push c.args.first (take c.loop-place.place list) c.nth.result.now);
    })
