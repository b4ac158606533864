-- What is wrong with a script is never that a file is missing.
use Rattle.std.proofs.Common.{◌≡◌, ℕ, ◌+◌, Bool, true, false, List, [], ◌∷◌, Result, Ok, Err}
use Rattle.std.specs.Prelude.{if◌then◌else◌}
use Rattle.std.specs.List.{list_any}
use Rattle.std.specs.Str.{is_utf8}
use Rattle.plain_model.specs.Paths.{Bytes}
use Rattle.plain_model.specs.declared.fault.Fault.{Fault}
use Rattle.plain_model.specs.declared.fault.Fault.TheVariants as fault
use Rattle.script_lines.specs.Scripts.{at_end, bad_at, before, closes, item_at, lines_of, place_after, script_from, script_of, trimmed}
use Rattle.script_lines.specs.declared.script.Place.{Place}
use Rattle.script_lines.specs.declared.script.Place.TheVariants.{Outside, Within}
use Rattle.script_lines.specs.declared.script.ScriptItem.{ScriptItem}

ends_so : (place : Place) (name : Bytes) → at_end place ≡ Err (fault.Absent name) → ⊥
ends_so Outside name h = absurd cc
ends_so (Within begun other body) name h = absurd cc

bad_so : (n : ℕ) (place : Place) (lines : List Bytes) (name : Bytes) → bad_at n place lines ≡ fault.Absent name → ⊥
bad_so n Outside lines name h = absurd cc
bad_so n (Within begun other body) lines name h = go (list_any (λ line. closes (trimmed line)) lines) h
  where
    go : (b : Bool) → (if b then fault.BadText n else fault.UnclosedDefine begun) ≡ fault.Absent name → ⊥
    go true h = absurd cc
    go false h = absurd cc

not_absent : (n : ℕ) (place : Place) (lines : List Bytes) (name : Bytes) → script_from n place lines ≡ Err (fault.Absent name) → ⊥
not_absent n place [] name h = ends_so place name h
not_absent n place (line ∷ lines) name h = go (is_utf8 line) h (not_absent (n + 1) (place_after n place (trimmed line)) lines name)
  where
    after : (items : List ScriptItem) (r : Result (List ScriptItem) Fault) → before items r ≡ Err (fault.Absent name) → r ≡ Err (fault.Absent name)
    after items (Ok more) h = absurd cc
    after items (Err why) h = h

    go : (b : Bool)
        → (if b then before (item_at n place (trimmed line)) (script_from (n + 1) (place_after n place (trimmed line)) lines) else Err (bad_at n place lines)) ≡ Err (fault.Absent name)
        → (script_from (n + 1) (place_after n place (trimmed line)) lines ≡ Err (fault.Absent name) → ⊥) → ⊥
    go true h rest = rest (after (item_at n place (trimmed line)) (script_from (n + 1) (place_after n place (trimmed line)) lines) h)
    go false h rest = bad_so n place lines name cc

pub script_there : (bytes name : Bytes) → script_of bytes ≡ Err (fault.Absent name) → ⊥
unfolding script_of
script_there bytes name h = not_absent 1 Outside (lines_of bytes) name h
