use Rattle.std.proofs.Common.{sym}
use Rattle.load_list.proofs.Places.{chosen_entry}
use Rattle.load_list.proofs.list.LoadList.chosen.Goals as goal

pub returns : goal.returns
returns c =
    let entry = c.unwrap.result in
    rw (← c.self.view_is, c.as_slice.ensures.value)
    (chosen_entry c.self.inside.by_name.entries c.self.inside.choice c.in_ok-place.place (rw (← c.self.view_is) at c.in_ok-place.ensures) (entry.0.now, entry.1.now)
    (sym (rw c.unwrap.ensures at c.get_index.ensures.entry)))
