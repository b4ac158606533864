-- Which paths are matched (reposurgeon manual, `expunge`).
use Rattle.std.specs.Prelude.{Bool, List, Ok, bytes_eq}
use Rattle.std.specs.List.{list_any}
use Rattle.byte_patterns.specs.Judging.{Judged, ◌>>>◌, pattern_of, plainly}
use Rattle.byte_patterns.specs.Searching.{found_in}
use Rattle.plain_model.specs.Paths.{Bytes}

-- what a matcher matches: one path alone, or each path in which the pattern of a text is found
pub data Matches : Type 0 where
  only : Bytes → Matches
  found : Bytes → Matches

abbrev pub matches : Matches → Bytes → Bool
matches (only path) p = bytes_eq path p
matches (found text) p = found_in text p

-- one of the matchers matches the path
abbrev pub matched_by : List Matches → Bytes → Bool
matched_by matchers p = list_any (λ m. matches m p) matchers

-- a text as a matcher
abbrev pub matcher_of : Bytes → Judged Matches
matcher_of text = pattern_of text >>> λ read. plainly (Ok (found read))
