-- How a person was spelled.
use Rattle.std.specs.Prelude.{◌≡◌, ◌++◌, Some}
use Rattle.plain_model.specs.declared.person.Person.{Person}
use Rattle.plain_model.specs.Parts.{person_parts}
use Rattle.plain_model.specs.Paths.{Bytes}

-- each text that goes on after this front has this person's name and email
abbrev pub Spells : Bytes → Person → Type 0
Spells front person = (tail : Bytes) → person_parts (front ++ tail) ≡ Some (person.name, person.email, tail)
