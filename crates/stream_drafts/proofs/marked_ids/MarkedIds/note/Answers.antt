use Rattle.std.proofs.Common.{◌∙◌, ◌<◌, ap, subst, sym, arith, nat_eq}
use Rattle.std.specs.HashMap.{get}
use Rattle.stream_drafts.specs.Rising.{RiseFrom, found_by, last_from}
use Rattle.stream_drafts.proofs.Rising.{found_more, last_more, rise_more}
use Rattle.stream_drafts.proofs.marked_ids.MarkedIds.note.Goals as goal

pub returns-then-mark-last_of-clause-finds : goal.returns-then-mark-last_of-clause-finds
returns-then-mark-last_of-clause-finds c =
    let old = c.args.self.now in
    let others = get nat_eq old.others in
    let high : last_from 0 old.rising.items < c.args.mark = rw (c.last_of.ensures, c.as_slice.ensures.value) at c.if-mark-last_of.true in
    λ n. ap (λ es. found_by es others n) c.push_reserved.ensures.items
    ∙ found_more old.rising.items others c.requires.apart.rise c.requires.apart.no_other c.args.mark c.args.id high n

pub returns-then-mark-last_of-clause-apart : goal.returns-then-mark-last_of-clause-apart
returns-then-mark-last_of-clause-apart c =
    let old = c.args.self.now in
    let others = get nat_eq old.others in
    let high : last_from 0 old.rising.items < c.args.mark = rw (c.last_of.ensures, c.as_slice.ensures.value) at c.if-mark-last_of.true in
    record {
      rise = subst (RiseFrom 0) (sym c.push_reserved.ensures.items) (rise_more 0 old.rising.items c.requires.apart.rise c.args.mark c.args.id high);
      no_other = λ n above.
          let last = ap (last_from 0) c.push_reserved.ensures.items ∙ last_more 0 old.rising.items c.args.mark c.args.id in
          c.requires.apart.no_other n (omega arith);
    }
