use Rattle.std.proofs.Common.{rules, ◌≡◌, ap, ap₂, ◌∙◌, map, string_bytes}
use Rattle.clap.specs.Words.{App, app_of, rule_of, with_rule}
use Rattle.clap.specs.Simple.{app_of_fields}
use Rattle.clap.specs.declared.builder.command.Command.{Command}
use Rattle.clap.specs.declared.builder.command.Command.TheOpen.{Command-F}
use Rattle.std.proofs.Common.{true}
use Rattle.command_line.proofs.Walked.{surgeon, flag_rule, script_rule, quiet, all_utf8}
use Rattle.command_line.proofs.Outcome.{outcome}
use Rattle.command_line.proofs.words.parsed.Goals as goal

abbrev quieter : Command-F Command → App
quieter f = app_of_fields (record f { disable_version_flag = true })

pub returns : goal.returns
returns c =
    let flag_is : rule_of c.action-flag.result ≡ flag_rule = search rules in
    let script_is : rule_of c.action-script.result ≡ script_rule = search rules in
    let base : app_of c.disable_version_flag.result ≡ quiet (app_of c.new-3.result) =
    ap app_of_fields c.disable_version_flag.ensures ∙ ap quieter c.disable_help_flag.ensures in
    let one : app_of c.in_ok-arg.field-0 ≡ with_rule (app_of c.disable_version_flag.result) (rule_of c.action-flag.result) = c.in_ok-arg.ensures.shape (search rules) in
    let two : app_of c.in_ok-command.command ≡ with_rule (app_of c.in_ok-arg.field-0) (rule_of c.action-script.result) = c.in_ok-command.ensures.shape (search rules) in
    let app : app_of c.in_ok-command.command ≡ surgeon = two ∙ ap₂ with_rule (one ∙ ap₂ with_rule (base ∙ ap quiet c.new-3.ensures.app) flag_is) script_is in
    outcome (app_of c.in_ok-command.command) app (map string_bytes c.args.words.now) (all_utf8 c.args.words.now) c.try_get_matches_from.result
    c.try_get_matches_from.ensures.kinds c.try_get_matches_from.ensures.matches
