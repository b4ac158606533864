use Rattle.std.proofs.Common.{◌∙◌, ◌-◌, length, ap, sym, arith, rules}
use Rattle.std.proofs.lemmas.List.Sorted.{answers_always}
use Rattle.std.specs.Map.{lookup}
use Rattle.std.specs.Prelude.{◌==◌}
use Rattle.stream_drafts.proofs.Rising.{found_at, halved}
use Rattle.stream_drafts.proofs.marked_ids.among.Goals as goal

pub returns-then-rising-count : goal.returns-then-rising-count
returns-then-rising-count c =
    let rising = c.args.rising.now in
    let last = length rising - 1 in
    let some = c.if-count-gt0.true in
    sym (found_at 0 rising c.requires last (0, 0) (omega arith)) ∙ ap (λ m. lookup (λ a. a == m) rising) c.if-rising-count.true

pub returns-in-Ok : goal.returns-in-Ok
returns-in-Ok c =
    let rising = c.args.rising.now in
    let halving = c.binary_search_by_key.ensures in
    let by_key = halving.position (λ e. e.0) (answers_always _ _ _ (λ f a r g called. search rules)) in
    let here = rw c.in-Ok.is at (halved rising c.args.mark c.requires c.binary_search_by_key.result halving.bound by_key) in
    here (0, 0)

pub returns-in-Err : goal.returns-in-Err
returns-in-Err c =
    let rising = c.args.rising.now in
    let halving = c.binary_search_by_key.ensures in
    let by_key = halving.position (λ e. e.0) (answers_always _ _ _ (λ f a r g called. search rules)) in
    rw c.in-Err.is at (halved rising c.args.mark c.requires c.binary_search_by_key.result halving.bound by_key)
