use Rattle.std.proofs.Common.{rules, sym}
use Rattle.surgeon_store.proofs.EntryLemmas.{files_grown_whole}
use Rattle.surgeon_store.proofs.sure.SureStoreStore.write.Goals.{in-Ok, in-Err}
use Rattle.surgeon_store.proofs.sure.SureStoreStore.write.Goals as goal

pub returns-clause-appends : goal.returns-clause-appends
returns-clause-appends c = elim c.match-grow_first.branch [
  | in-Ok w ↦
      rw w.result-is (rw (sym c.self.view_is) (rw w.in-Ok.ensures.ok
      (files_grown_whole c.self.inside.is_begun c.self.inside.made.items c.self.inside.given c.args.piece.now)))
  | in-Err w ↦ search rules
]
