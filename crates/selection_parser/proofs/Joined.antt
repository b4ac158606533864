-- Selections that are joined, one after others.
use Rattle.std.proofs.Common.{◌≡◌, ◌<◌, List, [], ◌∷◌, ◌++◌, map, length, refl, sym, ◌∙◌, ap, arith, Global}
use Rattle.std.specs.Prelude.{Vec}
use Rattle.std.proofs.lemmas.List.{map-append}
use Rattle.selection_parser.specs.declared.selection.Selection.{Selection}
use Rattle.selection_parser.specs.declared.selection.Selection.TheVariants as selection
use Rattle.selection_parser.specs.Plain.{PlainSelection, in_order, union_of, both_of}
use Rattle.selection_parser.specs.Views.{plain_of}
use Rattle.selection_parser.proofs.Layers.{plain_Union, plain_Both}

union_several : (xs : List PlainSelection) (y : PlainSelection) → 0 < length xs → union_of (xs ++ y ∷ []) ≡ PlainSelection.Union (in_order (xs ++ y ∷ []))
union_several [] y h = absurd (omega arith)
union_several (x ∷ []) y h = refl
union_several (x ∷ z ∷ xs) y h = refl

both_several : (xs : List PlainSelection) (y : PlainSelection) → 0 < length xs → both_of (xs ++ y ∷ []) ≡ PlainSelection.Both (in_order (xs ++ y ∷ []))
both_several [] y h = absurd (omega arith)
both_several (x ∷ []) y h = refl
both_several (x ∷ z ∷ xs) y h = refl

length-map : (xs : List Selection) → 0 < length xs → 0 < length (map plain_of xs)
length-map [] h = h
length-map (x ∷ xs) h = omega arith

pub union_pushed : (all : Vec Selection Global) (before : List Selection) (last : Selection) → all.items ≡ before ++ last ∷ [] → 0 < length before
    → plain_of (selection.Union all) ≡ union_of (map plain_of before ++ plain_of last ∷ [])
union_pushed all before last is some =
    plain_Union all
    ∙ ap (λ xs. PlainSelection.Union (in_order (map plain_of xs))) is
    ∙ ap (λ xs. PlainSelection.Union (in_order xs)) (map-append plain_of before (last ∷ []))
    ∙ sym (union_several (map plain_of before) (plain_of last) (length-map before some))

pub both_pushed : (all : Vec Selection Global) (before : List Selection) (last : Selection) → all.items ≡ before ++ last ∷ [] → 0 < length before
    → plain_of (selection.Both all) ≡ both_of (map plain_of before ++ plain_of last ∷ [])
both_pushed all before last is some =
    plain_Both all
    ∙ ap (λ xs. PlainSelection.Both (in_order (map plain_of xs))) is
    ∙ ap (λ xs. PlainSelection.Both (in_order xs)) (map-append plain_of before (last ∷ []))
    ∙ sym (both_several (map plain_of before) (plain_of last) (length-map before some))
