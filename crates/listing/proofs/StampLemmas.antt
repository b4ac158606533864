-- Stamps counted along a history.
use Rattle.std.proofs.Common.{◌≡◌, ◌∙◌, ℕ, zero, suc, ◌+◌, false, cond, inl, inr, List, [], ◌∷◌, ◌++◌, Option, Some, refl, sym, ap, take, drop, arith, add-one, append_assoc, bytes_eq}
use Rattle.std.proofs.lemmas.Bool.{cases_Bool}
use Rattle.std.proofs.lemmas.List.Sums.{sum_by-append}
use Rattle.std.proofs.lemmas.Option.{same_Some}
use Rattle.std.proofs.lemmas.Slice.Eq.{bytes_eq-Decides}
use Rattle.std.specs.Cmp.Lexicographic.{texts_ties}
use Rattle.std.specs.Prelude.{slice_get, unwrap_or}
use Rattle.plain_model.specs.declared.id.AnyId.{AnyId}
use Rattle.plain_model.specs.declared.operation.FileOp.{FileOp}
use Rattle.plain_model.specs.declared.person.Signed.{Signed}
use Rattle.plain_model.specs.declared.event.PlainEvent.{PlainEvent}
use Rattle.plain_model.specs.declared.event.PlainEvent.TheVariants.{Blob, Commit, Tag, Reset, Pass}
use Rattle.plain_model.specs.Lookups.{find_event, number_of, place_of}
use Rattle.plain_model.specs.Paths.{Bytes}
use Rattle.plain_model.specs.Text.{line}
use Rattle.plain_model.specs.Trees.{TreeOf, at, put}
use Rattle.history_laws.proofs.Ids.{place_at}
use Rattle.history_laws.proofs.TreeLaws.{at_put}
use Rattle.event_arena.proofs.ListLemmas.{drop_item, take_item}
use Rattle.listing.specs.Listings.{line_of}
use Rattle.listing.specs.Stamping.{AreCounts, counted, ranks, sharing_event}
use Rattle.listing.specs.Stamps.{is_stamped, sharing, stamp_line, stamp_of, which_text}

-- ---- counts

-- one commit more has the stamp
pub counted_put : (stamp other : Bytes) (n : ℕ) (counts : TreeOf ℕ) → n ≡ counted counts stamp + 1
    → counted (put stamp n counts) other ≡ counted counts other + cond (bytes_eq other stamp) 1 0
counted_put stamp other n counts is =
    let ties = ap (λ t. cond t (Some n) (at counts other)) (texts_ties other stamp) in
    let there = ap (λ o. unwrap_or o 0) (at_put stamp other n counts ∙ sym ties) in
    elim (cases_Bool (bytes_eq other stamp)) [
      | inl it ↦
          let same : other ≡ stamp = (bytes_eq-Decides other stamp).0 it in
          there ∙ rw it (is ∙ ap (λ s. counted counts s + 1) (sym same))
      | inr no_it ↦ there ∙ rw no_it (omega arith)
    ]

-- an event more, at the end
pub sharing_more : (stamp : Bytes) (events : List PlainEvent) (e : PlainEvent)
    → sharing stamp (events ++ e ∷ []) ≡ sharing stamp events + cond (is_stamped stamp e) 1 0
sharing_more stamp events e =
    sum_by-append (λ x. cond (is_stamped stamp x) 1 0) events (e ∷ []) ∙ omega arith

pub counts_more : (counts new : TreeOf ℕ) (events : List PlainEvent) (e : PlainEvent) → AreCounts counts events
    → ((stamp : Bytes) → counted new stamp ≡ counted counts stamp + cond (is_stamped stamp e) 1 0)
    → AreCounts new (events ++ e ∷ [])
counts_more counts new events e before step =
    λ stamp. step stamp ∙ ap (λ n. n + cond (is_stamped stamp e) 1 0) (before stamp) ∙ sym (sharing_more stamp events e)

pub rank_at : (earlier events : List PlainEvent) (k : ℕ) (e : PlainEvent) → slice_get events k ≡ Some e
    → slice_get (ranks earlier events) k ≡ Some (sharing_event (earlier ++ take (suc k) events) e)
rank_at earlier [] k e at = cc
rank_at earlier (x ∷ events) zero e at = ap (λ y. Some (sharing_event (earlier ++ x ∷ []) y)) (same_Some x e at)
rank_at earlier (x ∷ events) (suc k) e at =
    rank_at (earlier ++ x ∷ []) events k e at
    ∙ ap (λ front. Some (sharing_event front e)) (append_assoc earlier (x ∷ []) (take (suc k) events))

module _ (id mark : ℕ) (branch : Bytes) (author committer : Signed) (encoding : Option Bytes) (comment : Bytes)
    (parents : List ℕ) (ops : List FileOp) (aliases : List ℕ) where
  abbrev commit : PlainEvent
  commit = Commit id mark branch author committer encoding comment parents ops aliases

  -- a commit is one of those with its stamp
  pub own_rank : (counts : TreeOf ℕ) (events : List PlainEvent) → AreCounts counts events
      → counted counts (stamp_of committer) + 1 ≡ sharing (stamp_of committer) (events ++ commit ∷ [])
  own_rank counts events before =
      let stamp = stamp_of committer in
      let own = ap (λ t. sharing stamp events + cond t 1 0) ((bytes_eq-Decides stamp stamp).1 refl) in
      ap (λ n. n + 1) (before stamp) ∙ sym (sharing_more stamp events commit ∙ own)

  -- what is printed of a commit
  pub stamped_line : (all : List PlainEvent) (any : AnyId) (k which : ℕ) (counts : TreeOf ℕ) (numbers : List ℕ)
      → place_of any all ≡ Some k → find_event any all ≡ Some commit → AreCounts counts all → numbers ≡ ranks [] all
      → which ≡ unwrap_or (slice_get numbers k) 0
      → line (stamp_of committer ++ which_text (counted counts (stamp_of committer)) which)
      ≡ line_of (stamp_line all) (number_of any all) (find_event any all)
  stamped_line all any k which counts numbers place found are is number =
      let stamp = stamp_of committer in
      let item = place_at any all k place in
      let same : item.0 ≡ commit = same_Some item.0 commit (sym item.2 ∙ found) in
      let rank =
      ap (λ numbers. unwrap_or (slice_get numbers k) 0) is
      ∙ ap (λ o. unwrap_or o 0) (rank_at [] all k item.0 item.1)
      in
      let which_is : which ≡ sharing stamp (take (suc k) all) =
      number ∙ rank ∙ ap (sharing_event (take (suc k) all)) same
      in
      rw (place, found, add-one, are stamp, which_is) refl

-- an event that isn't a commit
module _ (e : PlainEvent)
    (other : (id mark : ℕ) (branch : Bytes) (author committer : Signed) (encoding : Option Bytes) (comment : Bytes)
    (parents : List ℕ) (ops : List FileOp) (aliases : List ℕ)
    → e ≡ Commit id mark branch author committer encoding comment parents ops aliases → ⊥) where
  pub no_stamp : (stamp : Bytes) → is_stamped stamp e ≡ false
  no_stamp stamp = by e refl
    where
      by : (x : PlainEvent) → e ≡ x → is_stamped stamp x ≡ false
      by (Blob id mark bytes) is = refl
      by (Tag id name target tagger comment mark) is = refl
      by (Reset id branch target) is = refl
      by (Pass id bytes) is = refl
      by (Commit id mark branch author committer encoding comment parents ops aliases) is =
          absurd (other id mark branch author committer encoding comment parents ops aliases is)

  pub no_rank : (events : List PlainEvent) → 0 ≡ sharing_event events e
  no_rank events = by e refl
    where
      by : (x : PlainEvent) → e ≡ x → 0 ≡ sharing_event events x
      by (Blob id mark bytes) is = refl
      by (Tag id name target tagger comment mark) is = refl
      by (Reset id branch target) is = refl
      by (Pass id bytes) is = refl
      by (Commit id mark branch author committer encoding comment parents ops aliases) is =
          absurd (other id mark branch author committer encoding comment parents ops aliases is)

-- ---- ranks

-- one rank more
pub ranked_by_one : (events : List PlainEvent) (k : ℕ) (e : PlainEvent) (out new : List ℕ)
    → slice_get events k ≡ Some e → new ≡ out ++ sharing_event (take k events ++ e ∷ []) e ∷ []
    → out ++ ranks (take k events) (drop k events) ≡ ranks [] events
    → new ++ ranks (take (k + 1) events) (drop (k + 1) events) ≡ ranks [] events
ranked_by_one events k e out new at is before =
    let rest = ranks (take k events ++ e ∷ []) (drop (suc k) events) in
    rw (add-one, is, take_item events k e at) (
    append_assoc out (sharing_event (take k events ++ e ∷ []) e ∷ []) rest
    ∙ ap (λ later. out ++ ranks (take k events) later) (sym (drop_item events k e at))
    ∙ before
    )
