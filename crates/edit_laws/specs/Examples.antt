-- Small lists of events, and what settling and sweeping make of them, written out.
use Rattle.std.specs.Prelude.{List, [], ◌∷◌, codes}
use Rattle.plain_model.specs.declared.operation.Mode.TheVariants.{Plain}
use Rattle.plain_model.specs.declared.operation.Content.TheVariants.{Blob as OfBlob}
use Rattle.plain_model.specs.declared.operation.FileOp.TheVariants.{Modify}
use Rattle.plain_model.specs.declared.event.PlainEvent.{PlainEvent}
use Rattle.plain_model.specs.declared.event.PlainEvent.TheVariants.{Blob}
use Rattle.ancestry_laws.specs.Examples.{commit}

-- ---- settling

-- two merges of the same commits, the last events first
abbrev pub turned : List PlainEvent
turned =
    commit 5 (3 ∷ 2 ∷ []) []
    ∷ commit 4 (2 ∷ 3 ∷ []) []
    ∷ commit 3 (1 ∷ []) []
    ∷ commit 2 (1 ∷ []) []
    ∷ commit 1 [] []
    ∷ []

-- the first that can be taken comes first, each time
abbrev pub turned_back : List PlainEvent
turned_back =
    commit 1 [] []
    ∷ commit 3 (1 ∷ []) []
    ∷ commit 2 (1 ∷ []) []
    ∷ commit 5 (3 ∷ 2 ∷ []) []
    ∷ commit 4 (2 ∷ 3 ∷ []) []
    ∷ []

-- two commits in a circle, and one beside it
abbrev pub circle : List PlainEvent
circle =
    commit 1 (3 ∷ []) []
    ∷ commit 2 [] []
    ∷ commit 3 (1 ∷ 2 ∷ []) []
    ∷ []

abbrev pub never_taken : List PlainEvent
never_taken =
    commit 1 (3 ∷ []) []
    ∷ commit 3 (1 ∷ 2 ∷ []) []
    ∷ []

-- ---- sweeping

-- two blobs: nothing names the second one, and the first one is named here, and then no more
abbrev pub named : List PlainEvent
named = Blob 1 1 [] ∷ Blob 2 2 [] ∷ commit 3 [] (Modify Plain (OfBlob 1) (codes "f") ∷ []) ∷ []

abbrev pub unnamed : List PlainEvent
unnamed = Blob 1 1 [] ∷ Blob 2 2 [] ∷ commit 3 [] [] ∷ []

abbrev pub unnamed_swept : List PlainEvent
unnamed_swept = Blob 2 2 [] ∷ commit 3 [] [] ∷ []
