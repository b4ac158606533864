use Rattle.expunge_laws.specs.Matching.{matched_by}
use Rattle.path_expunge.proofs.naming.named_apart.Goals as goal

pub note_all-requires : goal.note_all-requires
note_all-requires c = c.new-paths.ensures (matched_by c.args.matching.now)
