use Rattle.std.proofs.Common.{refl}
use Rattle.std.specs.Fmt.{digits}
use Rattle.plain_model.specs.Numbers.{decimal_of}
use Rattle.sample_history.specs.Sample.{sample}
use Rattle.sample_history.proofs.worked.worked_samples.Goals as goal

pub returns : goal.returns
unfolding decimal_of digits sample
returns c = record { one_commit = refl; three_commits = refl }
