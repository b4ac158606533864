-- What is kept beside the drafts, after one more draft.
use Rattle.std.specs.Prelude.{Bool, ◌||◌}
use Rattle.std.proofs.Common.{◌≡◌, ℕ, ◌+◌, ◌≤◌, max, List, length, [], ◌∷◌, ◌++◌, sym, ◌∙◌, ap, subst, arith, Option}
use Rattle.std.proofs.lemmas.List.{map-append}
use Rattle.plain_model.specs.declared.event.PlainEvent.{PlainEvent}
use Rattle.plain_model.specs.declared.limit.TheConstants.{MAX_MARK}
use Rattle.plain_model.specs.Lookups.{top_mark}
use Rattle.plain_model.specs.Snapshots.{refs_after}
use Rattle.plain_model.specs.Trees.{TreeOf}
use Rattle.plain_model.specs.Streams.{blob_marked, commit_marked}
use Rattle.stream_drafts.specs.declared.draft.Draft.{Draft}
use Rattle.stream_drafts.specs.Events.{event_of, events_of}
use Rattle.history_laws.specs.Placed.{ArePlaced}
use Rattle.stream_drafts.proofs.Places.{placed_more}
use Rattle.stream_drafts.specs.Indexed.{IsIndexed, first_of, tag_marked}
use Rattle.stream_drafts.proofs.After.{blob_marked_append, commit_marked_append, tag_marked_append, greatest_mark_append, refs_append}

pub events_of_append : (ds all : List Draft) (d : Draft) → all ≡ ds ++ d ∷ [] → events_of all ≡ events_of ds ++ event_of d ∷ []
events_of_append ds all d is = ap events_of is ∙ map-append event_of ds (d ∷ [])

module _ (es : List PlainEvent) (e : PlainEvent) where
  after : (blob commit new_blob new_commit : ℕ → Option ℕ) (tag new_tag : ℕ → Bool) (tips new_tips : TreeOf ℕ) (n new_n : ℕ) → IsIndexed es blob commit tag tips n
      → ((m : ℕ) → 1 ≤ m → new_blob m ≡ first_of (blob m) (blob_marked (e ∷ []) m))
      → ((m : ℕ) → 1 ≤ m → new_commit m ≡ first_of (commit m) (commit_marked (e ∷ []) m))
      → ((m : ℕ) → new_tag m ≡ (tag m || tag_marked (e ∷ []) m))
      → new_tips ≡ refs_after tips (e ∷ [])
      → new_n ≡ max n (top_mark e) → top_mark e ≤ MAX_MARK → ArePlaced (length es + 1) (e ∷ [])
      → IsIndexed (es ++ e ∷ []) new_blob new_commit new_tag new_tips new_n
  after blob commit new_blob new_commit tag new_tag tips new_tips n new_n i blobs commits tags tips_after greatest fits next = record {
    blobs = λ m is. blobs m is ∙ ap (λ o. first_of o (blob_marked (e ∷ []) m)) (i.blobs m is) ∙ sym (blob_marked_append es e m);
    commits = λ m is. commits m is ∙ ap (λ o. first_of o (commit_marked (e ∷ []) m)) (i.commits m is) ∙ sym (commit_marked_append es e m);
    tags = λ m. tags m ∙ ap (λ b. b || tag_marked (e ∷ []) m) (i.tags m) ∙ sym (tag_marked_append es e m);
    are_tips = tips_after ∙ ap (λ (t : TreeOf ℕ). refs_after t (e ∷ [])) i.are_tips ∙ sym (refs_append es e);
    placed = placed_more 1 es e i.placed next;
    is_greatest = greatest ∙ ap (λ k. max k (top_mark e)) i.is_greatest ∙ sym (greatest_mark_append es e);
    in_range = let low = i.in_range in omega arith;
  }

-- the draft is at the end, and its mark and its branch are noted
pub IsIndexed_push : (ds all : List Draft) (d : Draft) (blob commit mid_blob mid_commit new_blob new_commit : ℕ → Option ℕ) (tag mid_tag new_tag : ℕ → Bool) (tips new_tips : TreeOf ℕ) (n mark new_n : ℕ)
    → all ≡ ds ++ d ∷ [] → IsIndexed (events_of ds) blob commit tag tips n
    → ((m : ℕ) → mid_blob m ≡ blob m) → ((m : ℕ) → 1 ≤ m → new_blob m ≡ first_of (mid_blob m) (blob_marked (event_of d ∷ []) m))
    → ((m : ℕ) → mid_commit m ≡ commit m) → ((m : ℕ) → 1 ≤ m → new_commit m ≡ first_of (mid_commit m) (commit_marked (event_of d ∷ []) m))
    → ((m : ℕ) → mid_tag m ≡ tag m) → ((m : ℕ) → new_tag m ≡ (mid_tag m || tag_marked (event_of d ∷ []) m))
    → new_tips ≡ refs_after tips (event_of d ∷ [])
    → mark ≡ top_mark (event_of d) → mark ≤ MAX_MARK → new_n ≡ max n mark → ArePlaced (length (events_of ds) + 1) (event_of d ∷ [])
    → IsIndexed (events_of all) new_blob new_commit new_tag new_tips new_n
IsIndexed_push ds all d blob commit mid_blob mid_commit new_blob new_commit tag mid_tag new_tag tips new_tips n mark new_n is i same_blobs blobs same_commits commits same_tags tags tips_after own fits greatest next =
    subst (λ (es : List PlainEvent). IsIndexed es new_blob new_commit new_tag new_tips new_n) (sym (events_of_append ds all d is))
    (after (events_of ds) (event_of d) blob commit new_blob new_commit tag new_tag tips new_tips n new_n i
    (λ m one. blobs m one ∙ ap (λ o. first_of o (blob_marked (event_of d ∷ []) m)) (same_blobs m))
    (λ m one. commits m one ∙ ap (λ o. first_of o (commit_marked (event_of d ∷ []) m)) (same_commits m))
    (λ m. tags m ∙ ap (λ b. b || tag_marked (event_of d ∷ []) m) (same_tags m))
    tips_after (greatest ∙ ap (λ k. max n k) own) (subst (λ k. k ≤ MAX_MARK) own fits) next)
