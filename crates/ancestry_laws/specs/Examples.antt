-- A small history with merges, written out.
use Rattle.std.specs.Prelude.{ℕ, false, List, [], ◌∷◌, codes, None, map}
use Rattle.plain_model.specs.declared.id.AnyId.{AnyId}
use Rattle.plain_model.specs.declared.id.AnyId.TheVariants as any
use Rattle.plain_model.specs.declared.operation.FileOp.{FileOp}
use Rattle.plain_model.specs.declared.person.Signed.{Signed}
use Rattle.plain_model.specs.declared.event.PlainEvent.{PlainEvent}
use Rattle.plain_model.specs.declared.event.PlainEvent.TheVariants.{Commit}

abbrev pub someone : Signed
someone = record {
  person = record { name = codes "A"; email = codes "a@x" };
  when = record { seconds = 0; minus = false; offset = 0 };
}

-- a commit whose mark is its id
abbrev pub commit : ℕ → List ℕ → List FileOp → PlainEvent
commit id parents ops = Commit id id (codes "refs/heads/master") someone someone None (codes "c") parents ops []

-- the commits with these ids
abbrev pub ids : List ℕ → List AnyId
ids cs = map any.Commit cs

-- two merges of the same commits, and a merge of those
abbrev pub merges : List PlainEvent
merges =
    commit 1 [] []
    ∷ commit 2 (1 ∷ []) []
    ∷ commit 3 (1 ∷ []) []
    ∷ commit 4 (2 ∷ 3 ∷ []) []
    ∷ commit 5 (3 ∷ 2 ∷ []) []
    ∷ commit 6 (4 ∷ 5 ∷ []) []
    ∷ commit 7 (6 ∷ []) []
    ∷ []
