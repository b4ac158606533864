use Rattle.history_laws.proofs.SoundOnce.{sound_once}
use Rattle.std.proofs.Common.{◌≡◌, ◌∙◌, ◌∷◌, [], List, subst, sym, length}
use Rattle.plain_model.specs.declared.event.PlainEvent.{PlainEvent}
use Rattle.divide_laws.specs.declared.link.Link.{Link}
use Rattle.repo_divide.specs.Walks.{AreReached}
use Rattle.repo_divide.proofs.WalkLemmas.{all_followed, no_items, taken}
use Rattle.repo_divide.proofs.walk.Walk.run.Goals as goal

pub follow-requires : goal.follow-requires
follow-requires c =
    let v = c.loop-commit.invariant in
    let s = c.loop-commit.self in
    let one = taken c.args.self.now.events.now.list c.args.self.now.cut c.in-Some.commit s.reached.items s.ahead.items c.pop.new.self.items c.in-Some.ensures.items v.reached in
    subst (λ (x : List PlainEvent × Link). AreReached x.0 x.1 (c.in-Some.commit ∷ []) s.reached.items c.pop.new.self.items) (λ i. (sym v.events i, sym v.cut i)) one

pub returns : goal.returns
returns c =
    let events = c.args.self.now.events.now.list in
    let once = (sound_once events c.count-count.ensures.sound).ids in
    let s = c.loop-commit.self in
    let none : length s.ahead.items ≡ 0 = sym s.ahead.ok.0 ∙ c.in_default.ensures.cases.0 in
    all_followed events c.args.self.now.cut once s.reached.items s.ahead.items (no_items s.ahead.items none) c.loop-commit.invariant.reached
