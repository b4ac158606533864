use Rattle.std.proofs.Common.{sym, ◌∙◌}
use Rattle.load_list.proofs.Dividing.{divided}
use Rattle.load_list.proofs.list.LoadList.divide.Goals as goal

pub returns-clause-changes : goal.returns-clause-changes
returns-clause-changes c = λ macros.
    divided c.args.ids.now c.args.self.now c.in_ok-place.place c.in_ok-place.ensures macros (sym c.has_room.ensures ∙ c.if-not-has_room.false) c.divide_named.new.self c.in_ok-name.name c.in_ok-name.ensures.name
    c.divide_named.result (rw c.as_slice.ensures at c.divide_named.ensures.divides)
