use Rattle.std.proofs.Common.{refl}
use Rattle.std.specs.Fmt.{digits}
use Rattle.civil_dates.specs.Dates.{civil_day, date_text}
use Rattle.regex.proofs.OnLiterals.{regex_on_literals}
use Rattle.regex.specs.Patterns.{find}
use Rattle.regex_hir.specs.Find.{first_from}
use Rattle.regex_hir.specs.Re.{attempt, rounds}
use Rattle.regex_hir.specs.Text.{byte_before, has_bytes_at}
use Rattle.byte_patterns.specs.Judging.{pattern_of}
use Rattle.byte_patterns.specs.Searching.{found_in, is_pattern, reading}
use Rattle.event_sets.specs.Kinds.{is_of}
use Rattle.event_sets.specs.Sets.{called}
use Rattle.selection_eval.specs.Denoted.{denote}
use Rattle.selection_eval.specs.Examples.{exported, forked, marked}
use Rattle.selection_eval.specs.Fields.{has_found}
use Rattle.selection_eval.specs.Paths.{at_paths, in_trees}
use Rattle.selection_eval.specs.Spots.{named}
use Rattle.selection_eval.proofs.worked.worked_selections.Goals as goal

pub returns-clause-exported : goal.returns-clause-exported
unfolding regex_on_literals found_in is_pattern reading find first_from attempt rounds byte_before has_bytes_at civil_day date_text digits exported denote pattern_of has_found is_of at_paths in_trees called named
returns-clause-exported c = record {
  left_first = refl;
  near_a_commit = refl;
  near_a_blob = refl;
  a_day = refl;
  a_path = refl;
  heads = refl;
  reversed = refl;
  a_brace = refl;
  no_pattern = refl;
  a_tagger = refl;
  in_trees = refl;
  a_branch = refl;
  a_tag = refl;
  a_commit = refl;
  a_stamp = refl;
  no_day = refl;
  nobody = refl;
  no_name = refl;
}

pub returns-clause-forked : goal.returns-clause-forked
unfolding digits forked denote pattern_of has_found is_of at_paths in_trees called named
returns-clause-forked c = record {
  written_order = refl;
  ancestors = refl;
  sorted = refl;
  none_after = refl;
  three_lists = refl;
  all_of_three = refl;
  first_fault = refl;
}

pub returns-clause-marked : goal.returns-clause-marked
unfolding digits marked denote named
returns-clause-marked c = record { an_alias = refl; of_a_tag = refl; no_mark = refl }
