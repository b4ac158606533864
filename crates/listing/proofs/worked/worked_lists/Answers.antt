use Rattle.std.proofs.Common.{refl}
use Rattle.std.specs.Fmt.{digits}
use Rattle.civil_dates.specs.Dates.{civil_day, date_text}
use Rattle.listing.specs.Examples.{exported, rarer, shared}
use Rattle.listing.specs.Listings.{index_text, list_text, names_text}
use Rattle.listing.specs.Stamps.{stamp_text}
use Rattle.listing.specs.Summaries.{resolve_text, summary_text}
use Rattle.listing.specs.TreeListings.{manifest_text}
use Rattle.listing.proofs.worked.worked_lists.Goals as goal

pub returns-clause-exported : goal.returns-clause-exported
unfolding civil_day date_text digits exported index_text list_text manifest_text names_text resolve_text stamp_text summary_text
returns-clause-exported c = record {
  list = refl;
  index = refl;
  names = refl;
  stamp = refl;
  resolve = refl;
  nothing_resolved = refl;
  summary = refl;
  manifest = refl;
}

pub returns-clause-rarer : goal.returns-clause-rarer
unfolding civil_day date_text digits index_text list_text names_text rarer resolve_text summary_text
returns-clause-rarer c = record {
  list = refl;
  index = refl;
  names = refl;
  chosen_list = refl;
  chosen_index = refl;
  summary = refl;
  resolve = refl;
}

pub returns-clause-shared : goal.returns-clause-shared
unfolding civil_day date_text digits manifest_text shared stamp_text
returns-clause-shared c = record { stamp = refl; last_stamp = refl; manifest = refl }
