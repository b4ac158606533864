use Rattle.std.proofs.Common.{◌∙◌, ◌+◌, ◌<◌, ◌≤◌, ap, min, subst, sym}
use Rattle.plain_model.specs.Lookups.{AreIdsBelow}
use Rattle.plain_model.specs.Soundness.{IsSound}
use Rattle.sample_history.specs.Sample.{blob_of, commit_of, drawn, sample, sample_from}
use Rattle.plain_model.specs.declared.limit.TheConstants.{MAX_SAMPLE_COMMITS}
use Rattle.sample_history.proofs.Fronts.{sample_low, sample_sound}
use Rattle.sample_history.proofs.Making.{all_made, one_more}
use Rattle.sample_history.proofs.sample.sample_events.Goals as goal

pub loop-before-preserved : goal.loop-before-preserved
loop-before-preserved c =
    let k = c.loop-before.before in
    let drawn = c.drawn-drawn.ensures ∙ ap drawn c.stepped-state.ensures in
    let blob = c.in_ok-blob_of.ensures ∙ ap (blob_of (k + 1)) drawn in
    let commit = c.in_ok-commit_of.ensures ∙ ap (commit_of (k + 1)) drawn in
    rw c.stepped-state.ensures
    (one_more (min c.args.count MAX_SAMPLE_COMMITS) k c.loop-before.state c.loop-before.list
    (sample_from (min c.args.count MAX_SAMPLE_COMMITS) 1 c.args.start) c.loop-before.invariant
    c.in_ok-blob_of.field-0 c.in_ok-commit_of.field-0 c.push.new.self c.push-in-loop-before.new.self (subst (λ n. k < n) c.min-before-end.ensures c.loop-before-test.true)
    blob commit c.in_ok-push.ensures.ok c.in_ok-push-2.ensures.ok)

pub returns-clause-sound : goal.returns-clause-sound
unfolding sample
returns-clause-sound c =
    let whole = sample_from (min c.args.count MAX_SAMPLE_COMMITS) 1 c.args.start in
    let l = c.loop-before in
    let made = all_made (min c.args.count MAX_SAMPLE_COMMITS) l.before l.state l.list whole l.invariant (subst (λ n. n ≤ l.before) c.min-before-end.ensures c.loop-before-test.false) in
    subst IsSound (sym made) (sample_sound c.args.count c.args.start)

pub returns-clause-low : goal.returns-clause-low
unfolding sample
returns-clause-low c =
    let whole = sample_from (min c.args.count MAX_SAMPLE_COMMITS) 1 c.args.start in
    let l = c.loop-before in
    let made = all_made (min c.args.count MAX_SAMPLE_COMMITS) l.before l.state l.list whole l.invariant (subst (λ n. n ≤ l.before) c.min-before-end.ensures c.loop-before-test.false) in
    subst (AreIdsBelow 4611686018427387904) (sym made) (sample_low c.args.count c.args.start)
