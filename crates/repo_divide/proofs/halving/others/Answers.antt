use Rattle.event_arena.proofs.ListLemmas.{take_all}
use Rattle.std.proofs.Common.{◌≡◌, ◌∙◌, ◌+◌, ◌≤◌, ◌++◌, ◌∷◌, [], List, Bool, true, false, not, ◌&&◌, ap, arith, get_or, length, map, suc, sym, take}
use Rattle.std.proofs.lemmas.List.{length-append}
use Rattle.divide_laws.specs.Sides.{is_commit_among, is_early}
use Rattle.repo_divide.proofs.HalvingLemmas.{other_flag}
use Rattle.plan_steps.proofs.Tables.{map_at, map_push}
use Rattle.repo_divide.proofs.halving.others.Goals as goal

pub loop-place-preserved : goal.loop-place-preserved
loop-place-preserved c =
    let events = c.args.plan.now.after in
    let k = c.loop-place.place in
    let old = c.loop-place.early.items in
    let e = c.nth.result.now in
    let at = c.nth.ensures.event in
    let v = c.loop-place.invariant in
    let pushed = c.in_ok-push.ensures.items in
    record {
      count = ap length pushed ∙ length-append old (c.other_flag.result ∷ []) ∙ ap (λ n. n + 1) v.count;
      early = λ has is.
          let late : get_or c.args.late.now k false ≡ is_commit_among has e = ap (λ (fs : List Bool). get_or fs k false) is ∙ map_at (is_commit_among has) events k e at in
          let flag : c.other_flag.result ≡ is_commit_among (is_early has) e = c.other_flag.ensures ∙ ap (λ b. is_commit_among (λ c. true) e && not b) late ∙ other_flag has e in
          pushed ∙ (λ i. v.early has is i ++ flag i ∷ []) ∙ sym (map_push (is_commit_among (is_early has)) events k e at) ∙ ap (λ n. map (is_commit_among (is_early has)) (take n events)) (let next : suc k ≡ k + 1 = omega arith in next);
    }

pub returns-clause-early : goal.returns-clause-early
returns-clause-early c =
    let events = c.args.plan.now.after in
    let all : length events ≤ c.loop-place.place = let test = c.loop-place-test.false in let count = c.count-place-end.ensures.count in omega arith in
    λ has is. c.loop-place.invariant.early has is ∙ ap (map (is_commit_among (is_early has))) (take_all events c.loop-place.place all)
