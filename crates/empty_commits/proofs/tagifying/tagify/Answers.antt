use Rattle.std.proofs.Common.{Err, None, Ok, Some, [], ap, arith, eqb-true, length, subst, sym, ◌+◌, ◌∙◌, ◌≡◌}
use Rattle.std.proofs.lemmas.List.{nil_from_length}
use Rattle.plain_model.specs.declared.fault.Fault.TheVariants as fault
use Rattle.plain_model.specs.Soundness.{IsSound}
use Rattle.event_arena.specs.Graphs.{Change}
use Rattle.event_arena.specs.Plans.{leaving}
use Rattle.tagify_laws.specs.InPlace.{in_place}
use Rattle.tagify_laws.specs.Tagify.{or_as_it_was, tagged, tagify_of, taken_name}
use Rattle.empty_commits.proofs.tagifying.tagify.Goals as goal

pub returns-then-is_empty : goal.returns-then-is_empty
returns-then-is_empty c =
    let events = c.args.events.now in
    let list = events.list in
    let set = c.args.set.now in
    let empties = c.in_ok-empties.ensures in
    let none : tagged set list ≡ [] =
    sym (c.as_slice.ensures ∙ c.ids.ensures ∙ (λ i. tagged (empties.set i) (empties.events i)))
    ∙ nil_from_length c.as_slice.result.now (eqb-true (length c.as_slice.result.now) 0 (sym c.is_empty.ensures ∙ c.if-is_empty.true)) in
    let made = c.in_ok-new.ensures in
    let after = ap (λ (p : Change). p.after) made in
    let next = ap (λ (p : Change). p.next) made in
    let count = ap length none in (
      c.nothing_changes_where_no_commit_becomes_a_tag.ensures events.next_id set list c.count-count.ensures.sound none ∙ ap Ok (sym after),
      record {
        before = ap (λ (p : Change). p.before) made;
        made_at = ap (λ (p : Change). p.made_at) made;
        next = omega arith;
        sound = subst IsSound (sym after) c.count-count.ensures.sound;
      },
    )

pub returns : goal.returns
returns c =
    let events = c.args.events.now in
    let list = events.list in
    let set = c.args.set.now in
    let next = events.next_id in
    let now = in_place set list next list in
    let empties = c.in_ok-empties.ensures in
    let free : taken_name set list list ≡ None =
    sym (sym c.in_default.is ∙ c.in_ok-name.ensures ∙ (λ i. taken_name (empties.set i) (empties.events i) (empties.events i))) in
    let ends = c.tags_are_in_the_place_of_commits.ensures.ends set list next c.count-count.ensures.sound in
    let done : tagify_of next set list ≡ Ok now =
    λ i. elim (free i) [
      | Some name ↦ Err (fault.NameTaken name)
      | None ↦ or_as_it_was list (ends i)
    ] in
    let made : c.in_ok-plan.plan ≡ record (leaving events now) { next = next + length (tagged set list) } =
    c.in_ok-plan.ensures
    ∙ (λ i. record (leaving events (in_place (empties.set i) (empties.events i) next (empties.events i))) { next = next + length (tagged (empties.set i) (empties.events i)) }) in
    let after = ap (λ (p : Change). p.after) made in (
      done ∙ ap Ok (sym after),
      record {
        before = ap (λ (p : Change). p.before) made;
        made_at = ap (λ (p : Change). p.made_at) made;
        next = ap (λ (p : Change). p.next) made;
        sound = subst IsSound (sym after) (c.a_tagify_keeps_soundness.ensures next set list now c.count-count.ensures.sound c.next_id-next.ensures.spent done);
      },
    )
