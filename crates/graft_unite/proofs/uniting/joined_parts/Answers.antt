use Rattle.std.proofs.Common.{◌∙◌, ℕ, suc, List, ap, add-one, arith, drop, map, subst, sym, Err}
use Rattle.std.proofs.lemmas.List.{drop_all}
use Rattle.plain_model.specs.declared.event.PlainEvent.{PlainEvent}
use Rattle.event_arena.specs.Graphs.{Change}
use Rattle.graft_laws.specs.Unite.{Part, with_parts}
use Rattle.graft_unite.specs.Ages.{part_at}
use Rattle.graft_unite.specs.Uniting.{IsKnown, marked, marked_parts}
use Rattle.graft_unite.proofs.MarkedParts.{all_marked, known_begins, next_part, part_joined, part_refused}
use Rattle.graft_unite.proofs.UniteLemmas.{refuses}
use Rattle.graft_unite.proofs.uniting.joined_parts.Goals as goal

pub loop-place-init : goal.loop-place-init
loop-place-init c =
    let base = c.args.base.now.list in
    let after = c.in_ok-plan.ensures.after in
    let made = c.in_ok-plan.ensures.plan in
    let value = c.next_id.ensures.value in
    let mark = c.in-Some.ensures in
    let few = mark.0 in
    let is = mark.1 in
    let made_at = made.made_at in
    let next = made.next in
    record {
      left = ap (λ (l : List PlainEvent). marked_parts c.args.prune l (map (part_at c.args.parts.now) c.args.places.now)) (sym after);
      known = subst (λ (l : List PlainEvent). IsKnown l c.next_id.result c.in-Some.mark c.in_ok-used.used c.in_ok-dates.dates) (sym after)
          (known_begins base c.next_id.result c.in-Some.mark c.in_ok-used.used c.in_ok-dates.dates (value ∙ c.requires.next) is c.in_ok-used.ensures c.in_ok-dates.ensures);
      before = made.before;
      made_at = made_at;
      next = next ∙ sym value;
      later = omega arith;
      fits = omega arith;
    }

pub loop-place-preserved : goal.loop-place-preserved
loop-place-preserved c =
    let parts = c.args.parts.now in
    let places = c.args.places.now in
    let k = c.loop-place.place-index in
    let part : Part = c.index-parts-place.result in
    let before = c.loop-place.plan.after in
    let after = c.join.new.plan.after in
    let whole = ap (λ (p : Change). p.after) c.in-Ok.ensures.plan in
    let made_at = ap (λ (p : Change). p.made_at) c.in-Ok.ensures.plan in
    let next = ap (λ (p : Change). p.next) c.in-Ok.ensures.plan in
    let was_later = c.loop-place.invariant.later in
    let was_next = c.loop-place.invariant.next in
    rw add-one (record {
      left = c.loop-place.invariant.left
          ∙ ap (marked_parts c.args.prune before) (next_part parts places k part c.loop-place-test.true c.requires.within c.index-parts-place.is)
          ∙ part_joined c.args.prune before part (map (part_at parts) (drop (suc k) places)) after c.in-Ok.ensures.free whole;
      known = c.in-Ok.ensures.known;
      before = ap (λ (p : Change). p.before) c.in-Ok.ensures.plan ∙ c.loop-place.invariant.before;
      made_at = made_at ∙ c.loop-place.invariant.made_at;
      next = c.in-Ok.ensures.next;
      later = omega arith;
      fits = c.in-Ok.ensures.fits;
    })

pub returns-in-Err-clause-joined : goal.returns-in-Err-clause-joined
returns-in-Err-clause-joined c =
    let parts = c.args.parts.now in
    let places = c.args.places.now in
    let k = c.loop-place.place-index in
    let part : Part = c.index-parts-place.result in
    let before = c.loop-place.plan.after in
    refuses (λ (p : Change). p.after) c.in-Err.halt (marked (with_parts c.args.prune c.args.base.now.list (map (part_at parts) places))) (λ fault is.
    sym (all_marked c.args.prune c.args.base.now.list (map (part_at parts) places)) ∙ c.loop-place.invariant.left
    ∙ ap (marked_parts c.args.prune before) (next_part parts places k part c.loop-place-test.true c.requires.within c.index-parts-place.is)
    ∙ part_refused c.args.prune before part (map (part_at parts) (drop (suc k) places)) fault (c.in-Err.ensures.refused fault (ap Err is)))

pub returns-clause-joined : goal.returns-clause-joined
returns-clause-joined c =
    let parts = c.args.parts.now in
    let end = c.loop-place-test.false in
    sym (all_marked c.args.prune c.args.base.now.list (map (part_at parts) c.args.places.now)) ∙ c.loop-place.invariant.left
    ∙ ap (λ (ns : List ℕ). marked_parts c.args.prune c.loop-place.plan.after (map (part_at parts) ns)) (drop_all c.loop-place.place-index c.args.places.now (omega arith))
