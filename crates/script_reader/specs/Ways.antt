-- Which way `paths` moves. (reposurgeon manual, `paths`)
use Rattle.std.specs.Prelude.{Option, Some, None, bytes_eq, codes, if◌then◌else◌}
use Rattle.plain_model.specs.Paths.{Bytes}
use Rattle.script_reader.specs.declared.way.Way.{Way}
use Rattle.script_reader.specs.declared.way.Way.TheVariants as way

-- the word after `paths` that bytes are
abbrev pub way_of : Bytes → Option Way
way_of word =
    if bytes_eq word (codes "sub") then Some way.Sub else
    if bytes_eq word (codes "sup") then Some way.Sup else None
