use Rattle.people_edit.proofs.Tabled.{put_author}
use Rattle.people_edit.proofs.table.AuthorTable.put.Goals as goal

pub returns : goal.returns
returns c =
    rw (c.in_ok-insert.ensures.entries, ← c.self.view_is) (put_author c.args.key c.args.person c.self.inside.by_key.entries)
