-- The selections of the code, as plain ones.
use Rattle.std.specs.Prelude.{◌≡◌, ℕ, Option, Some, None}
use Rattle.selection_parser.specs.declared.place.Place.{Place}
use Rattle.selection_parser.specs.declared.inside.Progress.{Progress}
use Rattle.selection_parser.specs.declared.inside.Progress.TheVariants as progress
use Rattle.selection_parser.specs.declared.selection.Selection.{Selection}
use Rattle.selection_parser.specs.declared.selection.Selection.TheOpen.{Selection-F as Layer}
use Rattle.selection_parser.specs.declared.selection.Selection.TheFolds.{fold-Selection}
use Rattle.selection_parser.specs.Plain.{PlainSelection, in_order}
use Rattle.selection_parser.specs.Reading.{placed}

-- one variant, with a plain selection in the place of each that it holds
abbrev pub layer_of : Layer PlainSelection → PlainSelection
layer_of (Layer.Union all) = PlainSelection.Union (in_order all.items)
layer_of (Layer.Both all) = PlainSelection.Both (in_order all.items)
layer_of (Layer.Not x) = PlainSelection.Not x.value
layer_of (Layer.Near times x) = PlainSelection.Near times x.value
layer_of (Layer.Call f x) = PlainSelection.Call f x.value
layer_of (Layer.Kinds set) = PlainSelection.Kinds set
layer_of (Layer.Search pattern fields) = PlainSelection.Search pattern fields
layer_of (Layer.AtPath path) = PlainSelection.AtPath path
layer_of (Layer.AtPattern pattern whole) = PlainSelection.AtPattern pattern whole
layer_of (Layer.Items list) = PlainSelection.Listed list

-- a selection without its boxes
unfoldable pub plain_of : Selection → PlainSelection
plain_of = fold-Selection PlainSelection layer_of

-- the same with its length
abbrev pub read_of : Selection × ℕ → PlainSelection × ℕ
read_of read = (plain_of read.0, read.1)

-- where a byte leads inside a primary, or else the primary, if it may end before that byte
abbrev pub Leads : Option Place → Option PlainSelection → Progress → Type 0
Leads next primary (progress.Within place) = next ≡ Some place
Leads next primary (progress.After selection) = (next ≡ None) × (primary ≡ placed plain_of selection)
