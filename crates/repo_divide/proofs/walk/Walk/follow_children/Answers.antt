use Rattle.history_laws.proofs.SoundOnce.{sound_once}
use Rattle.std.proofs.Common.{◌≡◌, ◌∙◌, ◌++◌, ◌∷◌, [], ℕ, List, append-nil, append_assoc, ap, subst, sym, true}
use Rattle.plain_model.specs.declared.event.PlainEvent.{PlainEvent}
use Rattle.plain_model.specs.Lookups.{children_of}
use Rattle.ancestry_laws.specs.Ancestry.{is_one_of}
use Rattle.divide_laws.specs.declared.link.Link.{Link}
use Rattle.divide_laws.specs.Links.{is_link, is_still_parent}
use Rattle.repo_divide.specs.Walks.{IsStep}
use Rattle.repo_divide.proofs.WalkLemmas.{AreFlagged, all_children, child_flagged, child_reached, flagged_more, grown, one_of_front, one_of_last}
use Rattle.repo_divide.proofs.walk.Walk.follow_children.Goals as goal

pub loop-child-preserved-in-Continue-1 : goal.loop-child-preserved-in-Continue-1
loop-child-preserved-in-Continue-1 c =
    let events = c.args.self.now.events.now.list in
    let cut = c.args.self.now.cut in
    let sound = c.count-count.ensures.sound in
    let once = (sound_once events sound).ids in
    let v = c.loop-child.invariant in
    let s = c.loop-child.self in
    let n = c.in-Some.child in
    let so_far = c.loop-child.yielded in
    let new = c.reach.new.self in
    let items : (so_far ++ n ∷ []) ++ c.next.new.self ≡ children_of c.args.commit events =
    append_assoc so_far (n ∷ []) c.next.new.self ∙ ap (λ (l : List ℕ). so_far ++ l) (sym c.in-Some.ensures.steps) ∙ v.items in
    let among : is_one_of (children_of c.args.commit events) n ≡ true =
    ap (λ (l : List ℕ). is_one_of l n) (sym items) ∙ one_of_front (so_far ++ n ∷ []) c.next.new.self n (one_of_last so_far n) in
    let linked = c.is_link.ensures ∙ ap (λ (l : Link). is_link c.args.commit n l) v.cut in
    let step : IsStep events n s.reached.items s.ahead.items new.reached.items new.ahead.items =
    subst (λ (es : List PlainEvent). IsStep es n s.reached.items s.ahead.items new.reached.items new.ahead.items) v.events c.in_ok-reach.ensures.step in
    let one = child_reached events cut sound once c.args.commit s.reached.items s.ahead.items v.reached n among (sym linked ∙ c.if-not-is_link.true) new.reached.items new.ahead.items step in
    record {
      items = items;
      events = c.in_ok-reach.ensures.events ∙ v.events;
      cut = c.in_ok-reach.ensures.cut ∙ v.cut;
      reached = one.reached;
      grows = grown events cut c.args.self.now.reached.items c.args.self.now.ahead.items s.reached.items s.ahead.items new.reached.items new.ahead.items v.grows one.grows;
      children = flagged_more events cut (λ m. is_still_parent events cut c.args.commit m) so_far n s.reached.items new.reached.items v.children one.grows.kept (child_flagged events cut sound once c.args.commit n new.reached.items one.flagged);
    }

pub returns-clause-children : goal.returns-clause-children
returns-clause-children c =
    let events = c.args.self.now.events.now.list in
    let cut = c.args.self.now.cut in
    let sound = c.count-count.ensures.sound in
    let once = (sound_once events sound).ids in
    let flags = c.loop-child.self.reached.items in
    let v = c.loop-child.invariant in
    let all : c.loop-child.yielded ≡ children_of c.args.commit events =
    sym (append-nil c.loop-child.yielded) ∙ ap (λ (l : List ℕ). c.loop-child.yielded ++ l) (sym c.in-None.ensures.steps.0) ∙ v.items in
    all_children events cut sound once c.args.commit flags
    (subst (λ (ns : List ℕ). AreFlagged events cut (λ m. is_still_parent events cut c.args.commit m) ns flags) all v.children)
