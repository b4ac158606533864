-- What a selection is, as the plain value that contracts speak of. (reposurgeon manual, "Selection syntax")
use Rattle.std.specs.Prelude.{ℕ, zero, suc, Bool, List, [], ◌∷◌}
use Rattle.plain_model.specs.Paths.{Bytes}
use Rattle.selection_parser.specs.declared.kind.KindSet.{KindSet}
use Rattle.selection_parser.specs.declared.field.FieldSet.{FieldSet}
use Rattle.selection_parser.specs.declared.function.Function.{Function}
use Rattle.selection_parser.specs.declared.item.Item.{Item}

-- a selection without its boxes
mutual
  pub data PlainSelection : Type 0 where
    -- the events of the first one, then what each further one has besides: two or more
    Union : PlainSelections → PlainSelection
    -- the events of the first one that each further one has too: two or more
    Both : PlainSelections → PlainSelection
    -- all other events
    Not : PlainSelection → PlainSelection
    -- it with its neighbours, so many times over: once or more
    Near : ℕ → PlainSelection → PlainSelection
    -- a function of it
    Call : Function → PlainSelection → PlainSelection
    -- events of these kinds
    Kinds : KindSet → PlainSelection
    -- events that have the pattern in one of these fields; in those that are searched by default, if none is set
    Search : Bytes → FieldSet → PlainSelection
    -- commits and blobs at a path
    AtPath : Bytes → PlainSelection
    -- commits and blobs at a path that has the pattern; the flag is set where whole trees are looked at
    AtPattern : Bytes → Bool → PlainSelection
    -- these events, in the written order
    Listed : List Item → PlainSelection

  pub data PlainSelections : Type 0 where
    none : PlainSelections
    more : PlainSelection → PlainSelections → PlainSelections

-- selections, in their order
abbrev pub in_order : List PlainSelection → PlainSelections
in_order [] = none
in_order (x ∷ xs) = more x (in_order xs)

-- one selection is itself, and several are joined
abbrev pub union_of : List PlainSelection → PlainSelection
union_of [] = Union none
union_of (x ∷ []) = x
union_of (x ∷ y ∷ xs) = Union (in_order (x ∷ y ∷ xs))

abbrev pub both_of : List PlainSelection → PlainSelection
both_of [] = Both none
both_of (x ∷ []) = x
both_of (x ∷ y ∷ xs) = Both (in_order (x ∷ y ∷ xs))

-- with so many question marks after it
abbrev pub near : ℕ → PlainSelection → PlainSelection
near zero x = x
near (suc times) x = Near (suc times) x
