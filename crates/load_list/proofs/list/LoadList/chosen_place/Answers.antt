use Rattle.load_list.proofs.Places.{not_there, there}
use Rattle.load_list.proofs.list.LoadList.chosen_place.Goals as goal

pub returns-in-Some-get_index_of : goal.returns-in-Some-get_index_of
returns-in-Some-get_index_of c =
    let at = c.in-Some-get_index_of.ensures in
    rw (← c.self.view_is)
    (there c.in-Some.name c.self.inside.by_name.entries c.self.inside.choice c.in-Some.is c.in-Some-get_index_of.place (rw c.as_slice.ensures at at.found) (rw c.as_slice.ensures at at.index))

pub returns-in-None : goal.returns-in-None
returns-in-None c =
    rw (← c.self.view_is) (not_there c.in-Some.name c.self.inside.by_name.entries c.self.inside.choice c.in-Some.is (rw c.as_slice.ensures at c.in-None.ensures.found))
