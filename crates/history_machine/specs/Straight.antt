-- Scripts whose lines run no macro, and what a run of them carries out. (own)
use Rattle.std.specs.Prelude.{◌≡◌, List, ◌++◌, map, Result, Ok, Err}
use Rattle.plain_model.specs.declared.fault.Fault.{Fault}
use Rattle.script_lines.specs.declared.script.ScriptItem.{ScriptItem}
use Rattle.script_lines.specs.declared.script.ScriptLine.{ScriptLine}
use Rattle.script_lines.specs.declared.script.ScriptLine.TheVariants.{Define, Plain}
use Rattle.script_reader.specs.Commands.{order_of}
use Rattle.script_reader.specs.declared.command.Order.{Order}
use Rattle.script_reader.specs.declared.command.Order.TheVariants as order

-- what a line orders, if it orders anything, is a command of the session
abbrev pub IsNoCall : Result Order Fault → Type 0
IsNoCall (Ok (order.Step what)) = Unit {0}
IsNoCall (Ok (order.Do call)) = ⊥
IsNoCall (Err fault) = Unit {0}

abbrev pub RunsNoMacro : ScriptLine → Type 0
RunsNoMacro (Plain text) = IsNoCall (order_of text)
RunsNoMacro (Define name body) = Unit {0}

-- the lines of a script
abbrev pub lines_of : List ScriptItem → List ScriptLine
lines_of items = map (λ item. item.what) items

-- these lines are the first of others, in their order, each once
abbrev pub AreFirstOf : List ScriptLine → List ScriptLine → Type 0
AreFirstOf ran lines = (others : List ScriptLine) × (lines ≡ ran ++ others)
