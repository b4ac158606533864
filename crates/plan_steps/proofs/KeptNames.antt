-- What commits that stay name they name still, whatever operations they take over.
use Rattle.std.proofs.Common.{◌≡◌, ◌∙◌, ℕ, zero, suc, Bool, true, cond, not, inl, inr, List, [], ◌∷◌, ◌++◌, Some, sym, ap, filter, flat_map, map, true≢false}
use Rattle.std.specs.List.{list_any}
use Rattle.std.specs.Prelude.{slice_get}
use Rattle.std.proofs.lemmas.Bool.{cases_Bool, or_left, or_right}
use Rattle.std.proofs.lemmas.Grind.{flat_map-append}
use Rattle.std.proofs.lemmas.List.Folds.{list_any-append}
use Rattle.std.proofs.lemmas.Option.{none-some, same_Some}
use Rattle.plain_model.specs.declared.id.AnyId.{AnyId}
use Rattle.plain_model.specs.declared.operation.FileOp.{FileOp}
use Rattle.plain_model.specs.declared.event.PlainEvent.{PlainEvent}
use Rattle.plain_model.specs.declared.event.PlainEvent.TheVariants.{Blob, Commit, Tag, Reset, Pass}
use Rattle.plain_model.specs.declared.policy.Push.{Push}
use Rattle.plain_model.specs.declared.policy.Push.TheVariants as push
use Rattle.plain_model.specs.Histories.{past}
use Rattle.plain_model.specs.Lookups.{is_listed, op_blobs, same_id}
use Rattle.edit_laws.specs.Removal.{expand_all}
use Rattle.history_laws.specs.FirstParents.{ops_along}
use Rattle.squash_laws.specs.Removed.{Takings, is_removed}
use Rattle.squash_laws.specs.Takings.{anew, hanging, links, ops_after}
use Rattle.plan_steps.specs.Flags.{KeepNames, event_blobs}
use Rattle.plan_steps.specs.Leaving.{event_after, goes, staying}

any_kept : (test keep : PlainEvent → Bool) (f : PlainEvent → PlainEvent) (es : List PlainEvent) (k : ℕ) (e : PlainEvent) → slice_get es k ≡ Some e → keep e ≡ true → test (f e) ≡ true →
    list_any test (map f (filter keep es)) ≡ true
any_kept test keep f [] k e at stays it = absurd (none-some e at)
any_kept test keep f (x ∷ es) zero e at stays it =
    let is : x ≡ e = same_Some x e at in
    ap (λ b. list_any test (map f (cond b (x ∷ filter keep es) (filter keep es)))) (ap keep is ∙ stays)
    ∙ or_left (test (f x)) (list_any test (map f (filter keep es))) (ap (λ y. test (f y)) is ∙ it)
any_kept test keep f (x ∷ es) (suc k) e at stays it = elim (cases_Bool (keep x)) [
  | inl yes_it ↦ ap (λ b. list_any test (map f (cond b (x ∷ filter keep es) (filter keep es)))) yes_it ∙ or_right (test (f x)) (list_any test (map f (filter keep es))) (any_kept test keep f es k e at stays it)
  | inr no_it ↦ ap (λ b. list_any test (map f (cond b (x ∷ filter keep es) (filter keep es)))) no_it ∙ any_kept test keep f es k e at stays it
]

listed_front : (id : AnyId) (xs ys : List FileOp) → is_listed id (flat_map op_blobs xs) ≡ true → is_listed id (flat_map op_blobs (xs ++ ys)) ≡ true
listed_front id xs ys h =
    ap (is_listed id) (flat_map-append op_blobs xs ys) ∙ list_any-append (same_id id) (flat_map op_blobs xs) (flat_map op_blobs ys)
    ∙ or_left (is_listed id (flat_map op_blobs xs)) (is_listed id (flat_map op_blobs ys)) h

listed_back : (id : AnyId) (xs ys : List FileOp) → is_listed id (flat_map op_blobs ys) ≡ true → is_listed id (flat_map op_blobs (xs ++ ys)) ≡ true
listed_back id xs ys h =
    ap (is_listed id) (flat_map-append op_blobs xs ys) ∙ list_any-append (same_id id) (flat_map op_blobs xs) (flat_map op_blobs ys)
    ∙ or_right (is_listed id (flat_map op_blobs xs)) (is_listed id (flat_map op_blobs ys)) h

-- what a commit takes over names at least what its own operations name
abbrev pub TakesNames : Takings → Type 0
TakesNames takes = (c : ℕ) (parents : List ℕ) (ops : List FileOp) (id : AnyId) → is_listed id (flat_map op_blobs ops) ≡ true →
    is_listed id (flat_map op_blobs (takes.ops c parents ops)) ≡ true

-- as in each push of a squash
pub ops_named : (set : List AnyId) (events : List PlainEvent) (to : Push) (c : ℕ) (parents : List ℕ) (ops : List FileOp) (id : AnyId) →
    is_listed id (flat_map op_blobs ops) ≡ true → is_listed id (flat_map op_blobs (ops_after set events to c parents ops)) ≡ true
ops_named set events push.Forward c parents ops id listed =
    listed_back id (anew (links set events parents) (expand_all (is_removed set) (past events) parents)) (ops_along (links set events parents) ++ ops)
    (listed_back id (ops_along (links set events parents)) ops listed)
ops_named set events push.Back c parents ops id listed = listed_front id ops (ops_along (hanging set events c)) listed
ops_named set events push.Discard c parents ops id listed = listed

-- then commits that stay keep what they name
pub keep_names : (set : List AnyId) (events : List PlainEvent) (par : List ℕ → List ℕ) (takes : Takings) → TakesNames takes →
    KeepNames set events (map (event_after par takes) (staying set takes events))
keep_names set events par takes named k (Commit c mark branch author committer encoding comment parents ops aliases) id at out listed =
    any_kept (λ e. is_listed id (event_blobs e)) (λ e. not (goes set takes e)) (event_after par takes) events k
    (Commit c mark branch author committer encoding comment parents ops aliases) at (ap not out) (named c parents ops id listed)
keep_names set events par takes named k (Blob n mark bytes) id at out listed = absurd (true≢false (sym listed))
keep_names set events par takes named k (Tag n name target tagger comment mark) id at out listed = absurd (true≢false (sym listed))
keep_names set events par takes named k (Reset n branch target) id at out listed = absurd (true≢false (sym listed))
keep_names set events par takes named k (Pass n line) id at out listed = absurd (true≢false (sym listed))
