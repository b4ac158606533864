use Rattle.script_lines.proofs.Boundaries.{after_ascii}
use Rattle.script_lines.proofs.trimming.trim_front.Goals as goal

pub range_from-requires : goal.range_from-requires
range_from-requires c =
    let bytes = c.as_bytes.ensures in
    let ends = c.front_end.ensures in
    λ some. after_ascii c.as_bytes.result.now _ c.front_end.result bytes.value bytes.utf8 ends.within ends.ascii some
