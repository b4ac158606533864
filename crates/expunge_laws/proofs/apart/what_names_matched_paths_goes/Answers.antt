use Rattle.expunge_laws.proofs.OpsOutside.{all_go, all_outside}
use Rattle.expunge_laws.proofs.apart.what_names_matched_paths_goes.Goals as goal

pub returns : goal.returns
returns c = record { commits = all_go; all = all_outside }
