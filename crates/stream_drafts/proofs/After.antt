-- What is found in a list of events, after one more event.
use Rattle.std.proofs.Common.{◌≡◌, ℕ, Bool, true, false, cond, max, List, [], ◌∷◌, ◌++◌, refl, sym, ◌∙◌, ap, Option, Some, None, is_some}
use Rattle.std.specs.Prelude.{option_to_list}
use Rattle.std.specs.Prelude.{◌==◌, ◌||◌}
use Rattle.std.proofs.lemmas.List.Sums.{fold-append}
use Rattle.plain_model.specs.declared.event.PlainEvent.{PlainEvent}
use Rattle.plain_model.specs.declared.event.PlainEvent.TheVariants.{Blob, Commit, Tag, Reset, Pass}
use Rattle.plain_model.specs.Lookups.{greatest_mark, top_mark}
use Rattle.plain_model.specs.Trees.{TreeOf, put}
use Rattle.plain_model.specs.Snapshots.{refs, refs_after}
use Rattle.plain_model.specs.Streams.{is_among, is_marked, blob_marked, commit_marked}
use Rattle.stream_drafts.specs.Indexed.{first_of, tag_marked}

-- ---- marks

first_if : (b : Bool) (x : ℕ) (o p : Option ℕ) → first_of (cond b (Some x) o) p ≡ cond b (Some x) (first_of o p)
first_if true x o p = refl
first_if false x o p = refl

pub blob_marked_append : (es : List PlainEvent) (e : PlainEvent) (m : ℕ) → blob_marked (es ++ e ∷ []) m ≡ first_of (blob_marked es m) (blob_marked (e ∷ []) m)
blob_marked_append [] e m = refl
blob_marked_append (Blob id mark bytes ∷ es) e m =
    ap (cond (mark == m) (Some id)) (blob_marked_append es e m) ∙ sym (first_if (mark == m) id (blob_marked es m) (blob_marked (e ∷ []) m))
blob_marked_append (_ ∷ es) e m = blob_marked_append es e m

pub commit_marked_append : (es : List PlainEvent) (e : PlainEvent) (m : ℕ) → commit_marked (es ++ e ∷ []) m ≡ first_of (commit_marked es m) (commit_marked (e ∷ []) m)
commit_marked_append [] e m = refl
commit_marked_append (Commit id mark branch author committer encoding comment parents ops aliases ∷ es) e m =
    ap (λ o. cond (mark == m) (Some id) (cond (is_among aliases m) (Some id) o)) (commit_marked_append es e m)
    ∙ sym (first_if (mark == m) id (cond (is_among aliases m) (Some id) (commit_marked es m)) (commit_marked (e ∷ []) m)
    ∙ ap (cond (mark == m) (Some id)) (first_if (is_among aliases m) id (commit_marked es m) (commit_marked (e ∷ []) m)))
commit_marked_append (_ ∷ es) e m = commit_marked_append es e m

pub tag_marked_append : (es : List PlainEvent) (e : PlainEvent) (m : ℕ) → tag_marked (es ++ e ∷ []) m ≡ (tag_marked es m || tag_marked (e ∷ []) m)
tag_marked_append [] e m = refl
tag_marked_append (Tag id name target tagger comment mark ∷ es) e m =
    ap (λ b. is_among (option_to_list mark) m || b) (tag_marked_append es e m) ∙ or_assoc (is_among (option_to_list mark) m) (tag_marked es m) (tag_marked (e ∷ []) m)
  where
    or_assoc : (a b c : Bool) → (a || (b || c)) ≡ ((a || b) || c)
    or_assoc true b c = refl
    or_assoc false b c = refl
tag_marked_append (Blob id mark bytes ∷ es) e m = tag_marked_append es e m
tag_marked_append (Commit id mark branch author committer encoding comment parents ops aliases ∷ es) e m = tag_marked_append es e m
tag_marked_append (Reset id branch target ∷ es) e m = tag_marked_append es e m
tag_marked_append (Pass id line ∷ es) e m = tag_marked_append es e m

-- which of a blob, a commit and a tag has a mark
abbrev by_kind : Option ℕ → Option ℕ → Bool → Bool
by_kind blob commit tag = is_some blob || (is_some commit || tag)

or_blob : (b : Bool) (x : ℕ) (blob commit : Option ℕ) (tag : Bool) → (b || by_kind blob commit tag) ≡ by_kind (cond b (Some x) blob) commit tag
or_blob true x blob commit tag = refl
or_blob false x blob commit tag = refl

or_commit : (a b : Bool) (x : ℕ) (blob commit : Option ℕ) (tag : Bool)
    → (a || (b || by_kind blob commit tag)) ≡ by_kind blob (cond a (Some x) (cond b (Some x) commit)) tag
or_commit true b x None commit tag = refl
or_commit true b x (Some y) commit tag = refl
or_commit false true x None commit tag = refl
or_commit false true x (Some y) commit tag = refl
or_commit false false x blob commit tag = refl

or_tag : (b : Bool) (blob commit : Option ℕ) (tag : Bool) → (b || by_kind blob commit tag) ≡ by_kind blob commit (b || tag)
or_tag false blob commit tag = refl
or_tag true (Some x) commit tag = refl
or_tag true None (Some x) tag = refl
or_tag true None None tag = refl

-- a mark is that of a blob, of a commit or of a tag
pub marked_by_kind : (es : List PlainEvent) (m : ℕ) → is_marked es m ≡ (is_some (blob_marked es m) || (is_some (commit_marked es m) || tag_marked es m))
marked_by_kind [] m = refl
marked_by_kind (Blob id mark bytes ∷ es) m =
    ap (λ b. (mark == m) || b) (marked_by_kind es m) ∙ or_blob (mark == m) id (blob_marked es m) (commit_marked es m) (tag_marked es m)
marked_by_kind (Commit id mark branch author committer encoding comment parents ops aliases ∷ es) m =
    ap (λ b. (mark == m) || (is_among aliases m || b)) (marked_by_kind es m) ∙ or_commit (mark == m) (is_among aliases m) id (blob_marked es m) (commit_marked es m) (tag_marked es m)
marked_by_kind (Tag id name target tagger comment mark ∷ es) m =
    ap (λ b. is_among (option_to_list mark) m || b) (marked_by_kind es m) ∙ or_tag (is_among (option_to_list mark) m) (blob_marked es m) (commit_marked es m) (tag_marked es m)
marked_by_kind (Reset id branch target ∷ es) m = marked_by_kind es m
marked_by_kind (Pass id line ∷ es) m = marked_by_kind es m

pub greatest_mark_append : (es : List PlainEvent) (e : PlainEvent) → greatest_mark (es ++ e ∷ []) ≡ max (greatest_mark es) (top_mark e)
greatest_mark_append es e = fold-append (λ n x. max n (top_mark x)) 0 es (e ∷ [])

-- ---- tips

refs_after_append : (t : TreeOf ℕ) (es : List PlainEvent) (e : PlainEvent) → refs_after t (es ++ e ∷ []) ≡ refs_after (refs_after t es) (e ∷ [])
refs_after_append t [] e = refl
refs_after_append t (Blob id mark bytes ∷ es) e = refs_after_append t es e
refs_after_append t (Commit id mark branch author committer encoding comment parents ops aliases ∷ es) e = refs_after_append (put branch id t) es e
refs_after_append t (Tag id name target tagger comment mark ∷ es) e = refs_after_append t es e
refs_after_append t (Reset id branch None ∷ es) e = refs_after_append _ es e
refs_after_append t (Reset id branch (Some c) ∷ es) e = refs_after_append (put branch c t) es e
refs_after_append t (Pass id line ∷ es) e = refs_after_append t es e

pub refs_append : (es : List PlainEvent) (e : PlainEvent) → refs (es ++ e ∷ []) ≡ refs_after (refs es) (e ∷ [])
refs_append es e = refs_after_append [] es e
