-- What is printed of a commit that is found.
use Rattle.std.proofs.Common.{◌≡◌, ℕ, ◌+◌, List, ◌++◌, Option, Some, None, refl, sym, subst, codes}
use Rattle.std.proofs.lemmas.Bool.{true≢false}
use Rattle.std.specs.Prelude.{IsSome, flat_map}
use Rattle.plain_model.specs.declared.id.AnyId.{AnyId}
use Rattle.plain_model.specs.declared.id.AnyId.TheVariants as any
use Rattle.plain_model.specs.declared.operation.FileOp.{FileOp}
use Rattle.plain_model.specs.declared.person.Signed.{Signed}
use Rattle.plain_model.specs.declared.event.PlainEvent.{PlainEvent}
use Rattle.plain_model.specs.declared.event.PlainEvent.TheVariants.{Commit}
use Rattle.plain_model.specs.Histories.{tree}
use Rattle.plain_model.specs.Lookups.{find_event, number_of, place_of}
use Rattle.plain_model.specs.Paths.{Bytes}
use Rattle.plain_model.specs.Text.{line, marked}
use Rattle.plain_model.specs.Trees.{Tree}
use Rattle.history_laws.proofs.Ids.{find_id, found_place}
use Rattle.listing.specs.Listings.{line_of}
use Rattle.listing.specs.TreeListings.{entry_line, manifest_lines}

-- an event that is found has a number
found_line : (text : ℕ → PlainEvent → Bytes) (events : List PlainEvent) (id : AnyId) (e : PlainEvent) (lines : Bytes)
    → find_event id events ≡ Some e → ((n : ℕ) → text n e ≡ lines)
    → line_of text (number_of id events) (find_event id events) ≡ lines
found_line text events id e lines found is = by (place_of id events) refl (found_place id events (rw found refl))
  where
    by : (place : Option ℕ) → place_of id events ≡ place → IsSome place
        → line_of text (number_of id events) (find_event id events) ≡ lines
    by (Some k) at there = rw (at, found) (is (k + 1))
    by None at there = absurd (true≢false (sym there))

module _ (all : List PlainEvent) (id : AnyId) (c mark : ℕ) (branch : Bytes) (author committer : Signed)
    (encoding : Option Bytes) (comment : Bytes) (parents : List ℕ) (ops : List FileOp) (aliases : List ℕ)
    (found : find_event id all ≡ Some (Commit c mark branch author committer encoding comment parents ops aliases)) where
  abbrev commit : PlainEvent
  commit = Commit c mark branch author committer encoding comment parents ops aliases

  -- the commit is found by its own id
  pub found_itself : IsSome (find_event (any.Commit c) all)
  found_itself =
      let same = find_id id all commit found in
      subst (λ i. IsSome (find_event i all)) same (rw found refl)

  -- its lines are those of its tree
  pub shown_tree : (paths : Tree) → tree all c ≡ Some paths
      → line (codes "commit " ++ marked mark) ++ flat_map (entry_line all) paths
      ≡ line_of (manifest_lines all) (number_of id all) (find_event id all)
  shown_tree paths is =
      let lines = line (codes "commit " ++ marked mark) ++ flat_map (entry_line all) paths in
      sym (found_line (manifest_lines all) all id commit lines found (λ n. rw is refl))
