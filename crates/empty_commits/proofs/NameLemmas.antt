-- Names of tags along a list.
use Rattle.std.proofs.Common.{◌≡◌, ◌∙◌, ℕ, suc, Bool, true, false, cond, List, [], ◌∷◌, Option, Some, None, refl, sym, ap, drop, take}
use Rattle.std.specs.Prelude.{◌&&◌, ◌||◌, slice_get}
use Rattle.std.proofs.lemmas.List.Folds.{list_any-append}
use Rattle.plain_model.specs.declared.id.AnyId.{AnyId}
use Rattle.plain_model.specs.declared.person.Signed.{Signed}
use Rattle.plain_model.specs.declared.event.PlainEvent.{PlainEvent}
use Rattle.plain_model.specs.declared.event.PlainEvent.TheVariants.{Blob, Commit, Tag, Reset, Pass}
use Rattle.plain_model.specs.Paths.{Bytes}
use Rattle.event_arena.proofs.ListLemmas.{drop_item, take_item}
use Rattle.empty_commits.specs.Names.{taken_for}
use Rattle.tagify_laws.specs.Tagify.{becomes_tag, has_tag_named, is_tag_named, name_for, taken_name}

-- one event more
pub named_more : (events : List PlainEvent) (k : ℕ) (e : PlainEvent) (name : Bytes) → slice_get events k ≡ Some e
    → has_tag_named (take (suc k) events) name ≡ is_tag_named name e || has_tag_named (take k events) name
named_more events k e name at =
    ap (λ (l : List PlainEvent). has_tag_named l name) (take_item events k e at)
    ∙ list_any-append (is_tag_named name) (take k events) (e ∷ [])
    ∙ turned (has_tag_named (take k events) name) (is_tag_named name e)
  where
    turned : (a b : Bool) → a || (b || false) ≡ b || a
    turned true true = refl
    turned true false = refl
    turned false true = refl
    turned false false = refl

-- what is no tag has no name
pub no_tag_named : (e : PlainEvent) (name : Bytes)
    → ((id : ℕ) (own : List ℕ) (target : ℕ) (tagger : Option Signed) (comment : List ℕ) (mark : Option ℕ) → e ≡ Tag id own target tagger comment mark → ⊥)
    → is_tag_named name e ≡ false
no_tag_named (Tag id own target tagger comment mark) name other = absurd (other id own target tagger comment mark refl)
no_tag_named (Blob id mark bytes) name other = refl
no_tag_named (Commit id mark branch author committer encoding comment parents ops aliases) name other = refl
no_tag_named (Reset id branch target) name other = refl
no_tag_named (Pass id line) name other = refl

module _ (selected : List AnyId) (events : List PlainEvent) where
  -- a name that is taken is the first one, where none was before
  pub taken_here : (k : ℕ) (e : PlainEvent) (name : Bytes) → slice_get events k ≡ Some e → Some name ≡ taken_for selected events e → Some name ≡ taken_name selected events (drop k events)
  taken_here k e name at is = go (becomes_tag selected e && has_tag_named events (name_for e)) is ∙ ap (taken_name selected events) (sym (drop_item events k e at))
    where
      go : (b : Bool) → Some name ≡ cond b (Some (name_for e)) None → Some name ≡ cond b (Some (name_for e)) (taken_name selected events (drop (suc k) events))
      go true is = is
      go false is = absurd cc

  -- and one that isn't is passed by
  pub taken_later : (k : ℕ) (e : PlainEvent) → slice_get events k ≡ Some e → None ≡ taken_for selected events e → taken_name selected events (drop k events) ≡ taken_name selected events (drop (suc k) events)
  taken_later k e at is = ap (taken_name selected events) (drop_item events k e at) ∙ go (becomes_tag selected e && has_tag_named events (name_for e)) is
    where
      go : (b : Bool) → ◌≡◌ {A = Option Bytes} None (cond b (Some (name_for e)) None) → cond b (Some (name_for e)) (taken_name selected events (drop (suc k) events)) ≡ taken_name selected events (drop (suc k) events)
      go true is = absurd cc
      go false is = refl
