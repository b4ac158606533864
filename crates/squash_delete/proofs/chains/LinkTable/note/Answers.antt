use Rattle.std.proofs.Common.{List, suc, add-one, subst, sym}
use Rattle.squash_delete.specs.Chains.{Noted, NotesNext}
use Rattle.squash_delete.specs.declared.chains.Entry.{Entry}
use Rattle.squash_delete.proofs.EntryLemmas.{notes_next}
use Rattle.squash_delete.proofs.chains.LinkTable.note.Goals as goal

pub returns : goal.returns
returns c =
    let count = c.self.inside.count in
    let old = c.self.inside.entries.items in
    rw add-one (subst (λ (n : Noted). NotesNext n c.args.link (record { count = suc count; entries = c.push.new.self.items })) c.self.view_is
    (subst (λ (xs : List Entry). NotesNext (record { count = count; entries = old }) c.args.link (record { count = suc count; entries = xs })) (sym c.in_ok-push.ensures.items)
    (notes_next count old c.self.invariant c.args.link)))
