use Rattle.mailbox_reader.proofs.FirstNames.{added}
use Rattle.mailbox_reader.proofs.tags.FirstTags.put.Goals as goal

pub returns : goal.returns
returns c =
    rw (c.in_ok-insert.ensures.entries, ← c.self.view_is, ← c.in_ok-key.ensures.items)
    (added c.in_ok-key.key c.args.place c.self.inside.by_name.entries (rw (c.in_ok-key.ensures.items, c.self.view_is) c.requires))
