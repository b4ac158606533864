-- The texts in a selection: names, patterns and paths. (own)
use Rattle.std.specs.Prelude.{◌&&◌, Bool, true}
use Rattle.std.specs.List.{list_all}
use Rattle.std.specs.Str.{is_utf8}
use Rattle.selection_parser.specs.declared.item.Item.{Item}
use Rattle.selection_parser.specs.declared.item.Item.TheVariants.{One, Span}
use Rattle.selection_parser.specs.declared.item.Spot.{Spot}
use Rattle.selection_parser.specs.declared.item.Spot.TheVariants.{Number, Marked, Last, Named}
use Rattle.selection_parser.specs.Plain.{PlainSelection, PlainSelections}
use Rattle.selection_parser.specs.Plain.PlainSelection.{Union, Both, Not, Near, Call, Kinds, Search, AtPath, AtPattern, Listed}
use Rattle.selection_parser.specs.Plain.PlainSelections.{none, more}

-- a text in angle brackets is UTF-8
abbrev pub is_text_spot : Spot → Bool
is_text_spot (Named text) = is_utf8 text
is_text_spot (Number n) = true
is_text_spot (Marked n) = true
is_text_spot Last = true

abbrev pub is_text_item : Item → Bool
is_text_item (One spot) = is_text_spot spot
is_text_item (Span start end) = is_text_spot start && is_text_spot end

-- each text in the selection is UTF-8
abbrev mutual
  pub has_utf8_texts : PlainSelection → Bool
  has_utf8_texts (Union all) = have_utf8_texts all
  has_utf8_texts (Both all) = have_utf8_texts all
  has_utf8_texts (Not x) = has_utf8_texts x
  has_utf8_texts (Near times x) = has_utf8_texts x
  has_utf8_texts (Call f x) = has_utf8_texts x
  has_utf8_texts (Kinds set) = true
  has_utf8_texts (Search pattern fields) = is_utf8 pattern
  has_utf8_texts (AtPath path) = is_utf8 path
  has_utf8_texts (AtPattern pattern whole) = is_utf8 pattern
  has_utf8_texts (Listed items) = list_all is_text_item items

  pub have_utf8_texts : PlainSelections → Bool
  have_utf8_texts none = true
  have_utf8_texts (more x rest) = has_utf8_texts x && have_utf8_texts rest
