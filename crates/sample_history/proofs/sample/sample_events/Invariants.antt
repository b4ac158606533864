use Rattle.std.proofs.Common.{◌≡◌, ◌+◌, ◌-◌, ◌++◌, min}
use Rattle.sample_history.specs.Sample.{sample_from}
use Rattle.plain_model.specs.declared.limit.TheConstants.{MAX_SAMPLE_COMMITS}
use Rattle.sample_history.proofs.sample.sample_events.Given as goal

abbrev pub invariant-loop-before : goal.invariant-loop-before
invariant-loop-before l =
    l.list ++ sample_from (min l.count MAX_SAMPLE_COMMITS - l.before) (l.before + 1) l.state ≡ sample_from (min l.count MAX_SAMPLE_COMMITS) 1 l.fn.start
