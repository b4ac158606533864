-- Operations are counted alike, by what is read and by what is left.
use Rattle.std.proofs.Common.{◌≡◌, List, [], ◌∷◌, length, refl, arith}
use Rattle.std.proofs.lemmas.List.{length-append}
use Rattle.plain_model.specs.declared.event.PlainEvent.{PlainEvent}
use Rattle.plain_model.specs.declared.event.PlainEvent.TheVariants.{Blob, Commit, Tag, Reset, Pass}
use Rattle.plain_model.specs.Histories.{nodes}
use Rattle.history_laws.specs.Counts.{ops_in}
use Rattle.history_laws.specs.FirstParents.{ops_along}

pub ops_alike : (events : List PlainEvent) → ops_in events ≡ length (ops_along (nodes events))
ops_alike [] = refl
ops_alike (Blob id mark bytes ∷ events) = let rest = ops_alike events in omega arith
ops_alike (Commit id mark branch author committer encoding comment parents ops aliases ∷ events) =
    let rest = ops_alike events in
    let whole = length-append ops (ops_along (nodes events)) in
    omega arith
ops_alike (Tag id name target tagger comment mark ∷ events) = let rest = ops_alike events in omega arith
ops_alike (Reset id branch target ∷ events) = let rest = ops_alike events in omega arith
ops_alike (Pass id line ∷ events) = let rest = ops_alike events in omega arith
