use Rattle.std.proofs.Common.{◌≡◌, ◌∙◌, [], ◌≤◌, ◌<◌, ◌+◌, ◌-◌, ℕ, length, get_or, rules, sym, ap, inl, inr, subst, arith}
use Rattle.std.proofs.lemmas.Bool.{cases_lt}
use Rattle.std.proofs.lemmas.List.{get_or_read, length-set}
use Rattle.event_arena.specs.Relinked.{IsPut}
use Rattle.event_arena.proofs.RelinkLemmas.{apart_between, none_before, none_between, put_more, room_still, start_put}
use Rattle.event_arena.proofs.relinking.link_all.Goals as goal
use Rattle.event_arena.proofs.relinking.link_all.Goals.{then-at-next+else-not-link_child, else-at-next}

pub loop-done-init : goal.loop-done-init
loop-done-init c =
    let places = c.args.places.now.items in
    let all : c.len-count.result ≡ length places = search rules in
    record {
      room = record {
        places = ap length c.forget.ensures.lists ∙ length-set c.args.links.now.lists c.args.place [];
        place_room = c.forget.ensures.place_room;
        link_room = c.forget.ensures.link_room;
      };
      within = omega arith;
      later = λ m d low high. absurd (omega arith);
      linked = start_put c.args.parent c.args.place c.args.table.now c.args.links.now.lists c.forget.new.self.lists _ c.count-next.ensures.count c.requires.within c.forget.ensures.lists;
    }

pub loop-done-preserved : goal.loop-done-preserved
loop-done-preserved c =
    let places = c.args.places.now.items in
    let v = c.loop-done.invariant in
    let t = c.loop-done-test.true in
    let all : c.len-count.result ≡ length places = search rules in
    let m = c.len-count.result - 1 - c.loop-done.done in
    let within : m < length places = omega arith in
    let at = c.index-at.result.now in
    let is : (d : ℕ) → get_or places m d ≡ at = λ d. sym (get_or_read places m at within c.index-at.ensures d) in
    let behind : (k d : ℕ) → k < length places → m < k → c.loop-done.next ≤ get_or places k d = λ k d low high. v.later k d low (omega arith) in
    elim c.if-at-next.branch [
      | then-at-next+else-not-link_child w ↦
          let low = w.if-at-next.true in
          let e = w.link_child.ensures in
          let later : (k d : ℕ) → k < length places → length places ≤ k + (c.loop-done.done + 1) → at ≤ get_or places k d = λ k d here after. elim (cases_lt m k) [
            | inl far ↦ let f = behind k d here far in omega arith
            | inr near ↦ let same : m ≡ k = omega arith in subst (λ n. at ≤ get_or places n d) same (let own = is d in omega arith)
          ] in
          rw (w.links-is, w.next-is) (record {
            room = room_still v.room e.room;
            within = let far = v.within in omega arith;
            later = later;
            linked = put_more c.args.parent at c.loop-done.next c.args.place c.args.table.now w.nth.result.now c.args.links.now.lists c.loop-done.links.lists _ low w.nth.ensures.event
                (apart_between c.args.parent c.args.table.now places c.requires.all c.requires.rising m at c.loop-done.next within is behind) v.linked (e.linked w.if-not-link_child.false);
          })
      | else-at-next w ↦
          let high = w.if-at-next.false in
          rw (w.links-is, w.next-is) (record {
            room = v.room;
            within = v.within;
            later = λ k d here after. elim (cases_lt m k) [
              | inl far ↦ behind k d here far
              | inr near ↦ let same : m ≡ k = omega arith in subst (λ n. c.loop-done.next ≤ get_or places n d) same (let own = is d in omega arith)
            ];
            linked = v.linked;
          })
    ]

pub returns-clause-linked : goal.returns-clause-linked
returns-clause-linked c = λ it.
    let places = c.args.places.now.items in
    let v = c.loop-done.invariant in
    let t = c.loop-done-test.false in
    let all : c.len-count.result ≡ length places = search rules in
    let none = none_before c.args.parent c.args.table.now places c.requires.all c.loop-done.next (λ k d low. v.later k d low (omega arith)) in
    subst (λ ns. IsPut c.args.place ns c.args.links.now.lists c.loop-done.links.lists)
    (sym (none_between c.args.parent c.args.table.now 0 c.loop-done.next (omega arith) none)) v.linked
