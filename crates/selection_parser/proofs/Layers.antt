-- Each variant of a selection as a plain one: what a proof by cases on a selection goes by.
use Rattle.std.proofs.Common.{◌≡◌, ℕ, List, Bool, map, sym, ◌∙◌, ap, Global}
use Rattle.std.specs.Prelude.{Vec, Box}
use Rattle.plain_model.specs.Paths.{Bytes}
use Rattle.selection_parser.specs.declared.field.FieldSet.{FieldSet}
use Rattle.selection_parser.specs.declared.function.Function.{Function}
use Rattle.selection_parser.specs.declared.item.Item.{Item}
use Rattle.selection_parser.specs.declared.kind.KindSet.{KindSet}
use Rattle.selection_parser.specs.declared.selection.Selection.{Selection}
use Rattle.selection_parser.specs.declared.selection.Selection.TheVariants as selection
use Rattle.selection_parser.specs.declared.selection.Selection.TheOpen.{Selection-F as Layer}
use Rattle.selection_parser.specs.declared.selection.Selection.TheFolds.{fold-roll-Selection}
use Rattle.selection_parser.specs.Plain.{PlainSelection, in_order}
use Rattle.selection_parser.specs.Views.{layer_of, plain_of}

pub plain_Union : (all : Vec Selection Global) → plain_of (selection.Union all) ≡ PlainSelection.Union (in_order (map plain_of all.items))
unfolding plain_of
plain_Union all = ap plain_of (sym (selection.rolls-Union all)) ∙ fold-roll-Selection PlainSelection layer_of (Layer.Union all)

pub plain_Both : (all : Vec Selection Global) → plain_of (selection.Both all) ≡ PlainSelection.Both (in_order (map plain_of all.items))
unfolding plain_of
plain_Both all = ap plain_of (sym (selection.rolls-Both all)) ∙ fold-roll-Selection PlainSelection layer_of (Layer.Both all)

pub plain_Not : (x : Box Selection Global) → plain_of (selection.Not x) ≡ PlainSelection.Not (plain_of x.value)
unfolding plain_of
plain_Not x = ap plain_of (sym (selection.rolls-Not x)) ∙ fold-roll-Selection PlainSelection layer_of (Layer.Not x)

pub plain_Near : (times : ℕ) (x : Box Selection Global) → plain_of (selection.Near times x) ≡ PlainSelection.Near times (plain_of x.value)
unfolding plain_of
plain_Near times x = ap plain_of (sym (selection.rolls-Near times x)) ∙ fold-roll-Selection PlainSelection layer_of (Layer.Near times x)

pub plain_Call : (f : Function) (x : Box Selection Global) → plain_of (selection.Call f x) ≡ PlainSelection.Call f (plain_of x.value)
unfolding plain_of
plain_Call f x = ap plain_of (sym (selection.rolls-Call f x)) ∙ fold-roll-Selection PlainSelection layer_of (Layer.Call f x)

pub plain_Kinds : (set : KindSet) → plain_of (selection.Kinds set) ≡ PlainSelection.Kinds set
unfolding plain_of
plain_Kinds set = ap plain_of (sym (selection.rolls-Kinds set)) ∙ fold-roll-Selection PlainSelection layer_of (Layer.Kinds set)

pub plain_Search : (pattern : Bytes) (fields : FieldSet) → plain_of (selection.Search pattern fields) ≡ PlainSelection.Search pattern fields
unfolding plain_of
plain_Search pattern fields = ap plain_of (sym (selection.rolls-Search pattern fields))
    ∙ fold-roll-Selection PlainSelection layer_of (Layer.Search pattern fields)

pub plain_AtPath : (path : Bytes) → plain_of (selection.AtPath path) ≡ PlainSelection.AtPath path
unfolding plain_of
plain_AtPath path = ap plain_of (sym (selection.rolls-AtPath path)) ∙ fold-roll-Selection PlainSelection layer_of (Layer.AtPath path)

pub plain_AtPattern : (pattern : Bytes) (whole : Bool) → plain_of (selection.AtPattern pattern whole) ≡ PlainSelection.AtPattern pattern whole
unfolding plain_of
plain_AtPattern pattern whole = ap plain_of (sym (selection.rolls-AtPattern pattern whole))
    ∙ fold-roll-Selection PlainSelection layer_of (Layer.AtPattern pattern whole)

pub plain_Items : (list : List Item) → plain_of (selection.Items list) ≡ PlainSelection.Listed list
unfolding plain_of
plain_Items list = ap plain_of (sym (selection.rolls-Items list)) ∙ fold-roll-Selection PlainSelection layer_of (Layer.Items list)

pub ruleset layers =
    (plain_Union, plain_Both, plain_Not, plain_Near, plain_Call, plain_Kinds, plain_Search, plain_AtPath, plain_AtPattern, plain_Items)
