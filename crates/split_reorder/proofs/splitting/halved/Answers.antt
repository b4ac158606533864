use Rattle.std.proofs.Common.{◌≡◌, ◌∙◌, ◌+◌, map, ap}
use Rattle.plain_model.specs.declared.id.AnyId.TheVariants as any
use Rattle.plain_model.specs.Lookups.{find_event}
use Rattle.event_arena.specs.Graphs.{Change}
use Rattle.event_arena.specs.Plans.{leaving}
use Rattle.split_laws.specs.Split.{split_list}
use Rattle.split_reorder.specs.Copies.{put_onto}
use Rattle.split_reorder.proofs.Halving.{never_given, onto_id}
use Rattle.plan_steps.proofs.Steps.{absent_mapped}
use Rattle.split_reorder.proofs.splitting.halved.Goals as goal

pub cut-requires-clause-unknown : goal.cut-requires-clause-unknown
cut-requires-clause-unknown c =
    let events = c.args.events.now.list in
    let is : c.new-copy.result ≡ c.args.events.now.next_id = c.new-copy.ensures ∙ c.unused.ensures.number ∙ ap (λ (p : Change). p.next) c.in_ok-plan.ensures in
    ap (λ (p : Change). find_event (any.Commit c.new-copy.result) p.after) c.in_ok-put_all_onto.ensures
    ∙ absent_mapped (put_onto c.args.commit c.new-copy.result) (onto_id c.args.commit c.new-copy.result) (any.Commit c.new-copy.result) events
    (ap (λ n. find_event (any.Commit n) events) is ∙ never_given c.args.events.now.next_id events c.next_id-next.ensures.spent)

pub returns : goal.returns
returns c =
    let events = c.args.events.now in
    let copy = c.new-copy.result in
    let is : copy ≡ events.next_id = c.new-copy.ensures ∙ c.unused.ensures.number ∙ ap (λ (p : Change). p.next) c.in_ok-plan.ensures in
    let onto = map (put_onto c.args.commit copy) events.list in
    let before : c.put_all_onto.new.plan ≡ record (leaving events onto) { next = events.next_id + 1 } =
    c.in_ok-put_all_onto.ensures ∙ ap (λ (p : Change). record p { after = onto }) (c.unused.ensures.plan ∙ ap (λ (p : Change). record p { next = p.next + 1 }) c.in_ok-plan.ensures) in
    c.in_ok-cut.ensures ∙ (λ i. record (before i) { after = split_list c.args.commit (is i) c.args.mark c.args.kept events.list })
