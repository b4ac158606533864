-- The exit statuses of the program. (own)
use Rattle.std.specs.Prelude.{ℕ}
use Rattle.plain_model.specs.declared.status.Status.{Status}
use Rattle.plain_model.specs.declared.status.Status.TheVariants.{Done, Refused, Usage, NoScript, BadScript, SourceFault, SinkFault, Memory}

-- 0 to 7, in the order of the variants
abbrev pub exit_code : Status → ℕ
exit_code Done = 0
exit_code Refused = 1
exit_code Usage = 2
exit_code NoScript = 3
exit_code BadScript = 4
exit_code SourceFault = 5
exit_code SinkFault = 6
exit_code Memory = 7
