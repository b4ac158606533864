use Rattle.history_machine.proofs.Selections.{selection_of}
use Rattle.load_list.proofs.Dividing.{low_half}
use Rattle.load_list.proofs.repository.Repository.halves.Goals as goal

pub divide-requires-clause-selection : goal.divide-requires-clause-selection
divide-requires-clause-selection c = selection_of c.self.inside.events.list c.args.ids.now c.requires.once (rw (← c.self.view_is) at c.requires.live)

pub from_plain-requires-clause-low : goal.from_plain-requires-clause-low
from_plain-requires-clause-low c =
    let halves = c.in_ok-halves.halves in
    let nothing = c.nothing_is_added.ensures.early c.args.ids.now c.self.inside.events.list halves c.in_ok-halves.ensures.answer in
    low_half c.self.inside.events.list halves.early c.self.inside.events.next_id _ nothing (rw (← c.self.view_is) at c.has_numbers.ensures.spent) (rw (← c.self.view_is) at c.in_ok-has_numbers.ensures.numbers)

pub from_plain-requires-2-clause-low : goal.from_plain-requires-2-clause-low
from_plain-requires-2-clause-low c =
    let halves = c.in_ok-halves.halves in
    let nothing = c.nothing_is_added.ensures.late c.args.ids.now c.self.inside.events.list halves c.in_ok-halves.ensures.answer in
    low_half c.self.inside.events.list halves.late c.self.inside.events.next_id _ nothing (rw (← c.self.view_is) at c.has_numbers.ensures.spent) (rw (← c.self.view_is) at c.in_ok-has_numbers.ensures.numbers)
