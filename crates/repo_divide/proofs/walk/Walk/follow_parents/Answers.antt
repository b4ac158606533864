use Rattle.history_laws.proofs.SoundOnce.{sound_once}
use Rattle.event_arena.proofs.ListLemmas.{take_all, take_more}
use Rattle.std.proofs.Common.{◌≡◌, ◌∙◌, ℕ, List, Bool, add-one, ap, subst, sym, take, true}
use Rattle.plain_model.specs.declared.event.PlainEvent.{PlainEvent}
use Rattle.ancestry_laws.specs.Ancestry.{is_one_of}
use Rattle.commit_laws.specs.Selected.{node_of}
use Rattle.divide_laws.specs.declared.link.Link.{Link}
use Rattle.divide_laws.specs.Links.{is_link, is_still_parent}
use Rattle.repo_divide.specs.Walks.{IsStep}
use Rattle.repo_divide.proofs.WalkLemmas.{AreFlagged, all_parents, flagged_more, grown, no_parent, one_of_take, parent_flagged, parent_reached}
use Rattle.repo_divide.proofs.walk.Walk.follow_parents.Goals as goal
use Rattle.repo_divide.proofs.walk.Walk.follow_parents.Goals.{then-not-is_link+in_ok-reach, else-not-is_link}

pub loop-parent-preserved : goal.loop-parent-preserved
loop-parent-preserved c =
    let events = c.args.self.now.events.now.list in
    let cut = c.args.self.now.cut in
    let sound = c.count-count.ensures.sound in
    let once = (sound_once events sound).ids in
    let v = c.loop-parent.invariant in
    let s = c.loop-parent.self in
    let p = c.parent-item.result in
    let parents = c.parents_of-parent-items.result.now in
    let so_far = take c.loop-parent.parent-index parents in
    let wanted : ℕ → Bool = λ q. is_still_parent events cut q c.args.commit in
    let more = take_more parents c.loop-parent.parent-index p c.loop-parent-test.true c.parent-item.is in
    let among : is_one_of (node_of events c.args.commit).parents p ≡ true =
    ap (λ (ps : List ℕ). is_one_of ps p) (sym c.parents_of-parent-items.ensures.node) ∙ one_of_take parents c.loop-parent.parent-index p more in
    let linked = c.is_link.ensures ∙ ap (λ (l : Link). is_link p c.args.commit l) v.cut in
    rw (add-one, more) (elim c.if-not-is_link.branch [
      | then-not-is_link+in_ok-reach w ↦
          let new = w.reach.new.self in
          let step : IsStep events p s.reached.items s.ahead.items new.reached.items new.ahead.items =
          subst (λ (es : List PlainEvent). IsStep es p s.reached.items s.ahead.items new.reached.items new.ahead.items) v.events w.in_ok-reach.ensures.step in
          let one = parent_reached events cut sound once c.args.commit s.reached.items s.ahead.items v.reached p among (sym linked ∙ w.if-not-is_link.true) new.reached.items new.ahead.items step in
          rw w.self-is (record {
            events = w.in_ok-reach.ensures.events ∙ v.events;
            cut = w.in_ok-reach.ensures.cut ∙ v.cut;
            reached = one.reached;
            grows = grown events cut c.args.self.now.reached.items c.args.self.now.ahead.items s.reached.items s.ahead.items new.reached.items new.ahead.items v.grows one.grows;
            parents = flagged_more events cut wanted so_far p s.reached.items new.reached.items v.parents one.grows.kept (parent_flagged events cut sound once c.args.commit p new.reached.items one.flagged);
          })
      | else-not-is_link w ↦
          rw w.self-is (record {
            events = v.events;
            cut = v.cut;
            reached = v.reached;
            grows = v.grows;
            parents = flagged_more events cut wanted so_far p s.reached.items s.reached.items v.parents (λ d k. k) (λ h. absurd (no_parent events cut sound once c.args.commit p (sym linked ∙ w.if-not-is_link.false) h));
          })
    ])

pub returns-clause-parents : goal.returns-clause-parents
returns-clause-parents c =
    let events = c.args.self.now.events.now.list in
    let cut = c.args.self.now.cut in
    let sound = c.count-count.ensures.sound in
    let once = (sound_once events sound).ids in
    let flags = c.loop-parent.self.reached.items in
    let all = take_all c.parents_of-parent-items.result.now c.loop-parent.parent-index c.loop-parent-test.false ∙ c.parents_of-parent-items.ensures.node in
    all_parents events cut sound once c.args.commit flags
    (subst (λ (ps : List ℕ). AreFlagged events cut (λ q. is_still_parent events cut q c.args.commit) ps flags) all c.loop-parent.invariant.parents)
