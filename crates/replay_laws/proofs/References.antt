-- References name the same commits, and a commit begins with the same files.
use Rattle.std.proofs.Common.{◌≡◌, ℕ, ◌+◌, ◌<◌, Bool, true, false, cond, List, [], ◌∷◌, length, refl, sym, ap, ◌∙◌, Option, Some, None, Result, Ok, Err, arith, option_to_list}
use Rattle.std.specs.Prelude.{◌==◌, codes}
use Rattle.std.specs.List.{AllByRecursion}
use Rattle.std.specs.Map.{lookup}
use Rattle.plain_model.specs.declared.fault.Why.{Why}
use Rattle.plain_model.specs.declared.fault.Why.TheVariants.{BadMark, UnknownMark, UnknownRef, LeftOut}
use Rattle.plain_model.specs.declared.event.PlainEvent.{PlainEvent}
use Rattle.plain_model.specs.Fields.{◌>>=◌, or_defect as or_defect_of, mark_in}
use Rattle.plain_model.specs.Parts.{begins}
use Rattle.plain_model.specs.Paths.{Bytes, is_empty}
use Rattle.plain_model.specs.Trees.{TreeOf, at}
use Rattle.plain_model.specs.Snapshots.{Shown, shown_tree, refs}
use Rattle.plain_model.specs.Streams.{commit_marked}
use Rattle.stream_grammar.specs.Known.{commit_with, is_left_out_ref, ref_in}
use Rattle.history_laws.proofs.Commits.{all_at}
use Rattle.field_laws.proofs.FieldSteps.{bind_ok, or_defect_is}
use Rattle.replay_laws.specs.Replay.{first_files, further_marked, number_with, commit_named}
use Rattle.history_laws.proofs.TreeMapping.{changed_from}
use Rattle.replay_laws.proofs.Placed.{seen_of, seen_with, commit_place, files_alike, number_alike}
use Rattle.replay_laws.proofs.SoFar.{AllBelow, IsRead, IsSoFar, files_now}

-- ---- references

module _ (events : List PlainEvent) (aliases : List (ℕ × ℕ)) (r : IsRead events aliases) where
  abbrev s : IsSoFar events
  s = r.so_far

  further_alike : (further : List (ℕ × ℕ)) (mark : ℕ) → further_marked further mark ≡ lookup (λ a. a == mark) further
  further_alike [] mark = refl
  further_alike (a ∷ further) mark = ap (λ (o : Option ℕ). cond (a.0 == mark) (Some a.1) o) (further_alike further mark)

  -- a mark names the same commit
  mark_names_alike : (mark : ℕ) → number_with (seen_with events aliases) mark ≡ commit_with events aliases mark
  mark_names_alike mark =
      ap (λ (o : Option ℕ). elim o [ Some commit ↦ Some commit | None ↦ further_marked aliases mark ]) (number_alike events events s.bare mark)
      ∙ ap (λ (o : Option ℕ). elim (commit_marked events mark) [ Some commit ↦ Some commit | None ↦ o ]) (further_alike aliases mark)

  further_below : (further : List (ℕ × ℕ)) → AllByRecursion (λ (a : ℕ × ℕ). a.1 < length events + 1) further → (mark c : ℕ) → lookup (λ a. a == mark) further ≡ Some c → c < length events + 1
  further_below [] b mark c h = absurd cc
  further_below (a ∷ further) b mark c h = go (a.0 == mark) h (further_below further b.1 mark c)
    where
      go : (t : Bool) → cond t (Some a.1) (lookup (λ x. x == mark) further) ≡ Some c → (lookup (λ x. x == mark) further ≡ Some c → c < length events + 1) → c < length events + 1
      go true x f = let is : a.1 ≡ c = cc in let low = b.0 in omega arith
      go false x f = f x

  mark_names_below : (mark c : ℕ) → commit_with events aliases mark ≡ Some c → c < length events + 1
  mark_names_below mark c h = go (commit_marked events mark) refl h
    where
      go : (o : Option ℕ) → commit_marked events mark ≡ o → elim o [ Some commit ↦ Some commit | None ↦ lookup (λ a. a == mark) aliases ] ≡ Some c → c < length events + 1
      go (Some x) e h = let place = commit_place 1 events s.placed mark c (e ∙ h) in omega arith
      go None e h = further_below aliases r.named mark c h

  -- a reference names the same commit
  abbrev pub NamesAlike : Bytes → ℕ → Type 0
  NamesAlike text commit = (commit_named (seen_with events aliases) text ≡ Some commit) × (commit < length events + 1)

  marked_alike : (text : Bytes) (commit : ℕ) → (mark_in text >>= λ mark. or_defect_of UnknownMark (commit_with events aliases mark)) ≡ Ok commit
      → (elim (mark_in text) [ Ok mark ↦ number_with (seen_with events aliases) mark | Err why ↦ None ] ≡ Some commit) × (commit < length events + 1)
  marked_alike text commit h =
      let a = bind_ok (mark_in text) _ commit h in
      let found = or_defect_is UnknownMark (commit_with events aliases a.0) commit a.2 in (
        ap (λ (r : Result ℕ Why). elim r [ Ok mark ↦ number_with (seen_with events aliases) mark | Err why ↦ None ]) a.1 ∙ mark_names_alike a.0 ∙ found,
        mark_names_below a.0 commit found,
      )

  pub named_alike : (text : Bytes) (commit : ℕ) → ref_in events aliases text ≡ Ok commit → NamesAlike text commit
  named_alike text commit h = go (is_empty text) (is_left_out_ref text) (begins (codes ":") text) h
    where
      go : (a b c : Bool) → cond a (Err BadMark) (cond b (Err LeftOut) (cond c (mark_in text >>= λ mark. or_defect_of UnknownMark (commit_with events aliases mark)) (or_defect_of UnknownRef (at (refs events) text)))) ≡ Ok commit
          → (cond c (elim (mark_in text) [ Ok mark ↦ number_with (seen_with events aliases) mark | Err why ↦ None ]) (at (refs events) text) ≡ Some commit) × (commit < length events + 1)
      go true b c x = absurd cc
      go false true c x = absurd cc
      go false false true x = marked_alike text commit x
      go false false false x = let found = or_defect_is UnknownRef (at (refs events) text) commit x in (found, all_at (λ v. v < length events + 1) (refs events) text commit s.tips found)

-- ---- the beginning of an event

-- no operations
pub no_ops : (o : Option (TreeOf Shown)) → changed_from [] o ≡ o
no_ops None = refl
no_ops (Some t) = refl

-- a commit begins with the same files
pub begins_alike : (events : List PlainEvent) (parents : List ℕ) → first_files (seen_of events) parents ≡ files_now events [] parents
begins_alike events [] = refl
begins_alike events (p ∷ parents) = files_alike events p ∙ sym (no_ops (shown_tree events p))

-- a branch's tip is an earlier commit
pub tip_below : (events : List PlainEvent) → IsSoFar events → (branch : Bytes) → AllBelow (length events + 1) (option_to_list (at (refs events) branch))
tip_below events s branch = go (at (refs events) branch) refl
  where
    go : (o : Option ℕ) → at (refs events) branch ≡ o → AllBelow (length events + 1) (option_to_list o)
    go None h = tt
    go (Some c) h = (all_at (λ v. v < length events + 1) (refs events) branch c s.tips h, tt)
