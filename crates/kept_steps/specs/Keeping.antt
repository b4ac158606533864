-- Which commands keep trees: each commit that is left after one has its files. (own)
use Rattle.std.specs.Prelude.{Bool, true, false, not, Result, Ok, Err}
use Rattle.plain_model.specs.declared.fault.Fault.{Fault}
use Rattle.plain_model.specs.declared.policy.Push.{Push}
use Rattle.plain_model.specs.declared.policy.Push.TheVariants as push
use Rattle.script_lines.specs.declared.script.ScriptLine.{ScriptLine}
use Rattle.script_lines.specs.declared.script.ScriptLine.TheVariants.{Define, Plain}
use Rattle.script_reader.specs.Commands.{order_of}
use Rattle.script_reader.specs.declared.command.Command.{Command}
use Rattle.script_reader.specs.declared.command.Command.TheVariants as command
use Rattle.script_reader.specs.declared.command.Order.{Order}
use Rattle.script_reader.specs.declared.command.Order.TheVariants as order
use Rattle.script_reader.specs.declared.edit.Edit.{Edit}
use Rattle.script_reader.specs.declared.edit.Edit.TheVariants as edit

-- ---- edits

-- an edit that keeps every commit with its tree: a `reparent` without `--rebase`, a `merge`, an `unmerge`, a `simplify`, a `timeoffset`, a
-- `setfield`
abbrev pub edit_keeps_commits : Edit → Bool
edit_keeps_commits (edit.Reparent how) = not how.rebase
edit_keeps_commits edit.Merge = true
edit_keeps_commits edit.Unmerge = true
edit_keeps_commits edit.Simplify = true
edit_keeps_commits (edit.TimeOffset seconds place) = true
edit_keeps_commits (edit.SetField value) = true
edit_keeps_commits other = false

-- what removed commits had goes on to those after them
abbrev pub is_forward : Push → Bool
is_forward push.Forward = true
is_forward push.Back = false
is_forward push.Discard = false

-- an edit that keeps the tree of every commit that it leaves: such a one, a `squash` that pushes forward, a `coalesce`
abbrev pub edit_keeps_trees : Edit → Bool
edit_keeps_trees (edit.Squash how) = is_forward how.push
edit_keeps_trees (edit.Coalesce seconds) = true
edit_keeps_trees other = edit_keeps_commits other

-- ---- commands

-- a command that is such an edit, a `graft` or a `unite` with `--prune`, or else no `expunge` and no `divide`
abbrev pub by_its_edit : (Edit → Bool) → Command → Bool
by_its_edit keeps (command.Edit selection what) = keeps what
by_its_edit keeps (command.Expunge words) = false
by_its_edit keeps (command.Graft selection name prune) = prune
by_its_edit keeps (command.Unite names prune) = prune
by_its_edit keeps (command.Divide selection) = false
by_its_edit keeps other = true

-- a command that keeps the tree of every commit that it leaves
abbrev pub keeps_trees : Command → Bool
keeps_trees what = by_its_edit edit_keeps_trees what

-- a command that keeps every commit with its tree, as long as its repository is loaded
abbrev pub keeps_commits : Command → Bool
keeps_commits what = by_its_edit edit_keeps_commits what

-- ---- lines

-- an order whose command passes a test, and one that is no command: a macro's lines are run, or the line is refused
abbrev pub order_passes : (Command → Bool) → Result Order Fault → Bool
order_passes test (Ok (order.Step what)) = test what
order_passes test (Ok (order.Do call)) = true
order_passes test (Err why) = true

-- a line whose command passes, or that has none
abbrev pub line_passes : (Command → Bool) → ScriptLine → Bool
line_passes test (Plain text) = order_passes test (order_of text)
line_passes test (Define name body) = true
