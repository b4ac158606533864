-- Which events are there after a squash.
use Rattle.std.proofs.Common.{◌≡◌, ℕ, Bool, true, false, cond, not, List, [], ◌∷◌, refl, ap, ◌∙◌, Option, Some, None, Ok}
use Rattle.std.specs.Prelude.{◌||◌, ◌&&◌, flat_map, is_some, option_map, option_to_list}
use Rattle.std.specs.List.{list_any}
use Rattle.plain_model.specs.declared.id.AnyId.{AnyId}
use Rattle.plain_model.specs.declared.id.AnyId.TheVariants as any
use Rattle.plain_model.specs.declared.event.PlainEvent.{PlainEvent}
use Rattle.plain_model.specs.declared.event.PlainEvent.TheVariants.{Blob, Commit, Tag, Reset, Pass}
use Rattle.plain_model.specs.declared.policy.Policy.{Policy}
use Rattle.plain_model.specs.Lookups.{id_of, is_listed, same_id}
use Rattle.plain_model.specs.Soundness.{IsSound, has_id}
use Rattle.history_laws.proofs.Ids.{has_id_append}
use Rattle.edit_laws.specs.Keeping.{IsNoBlob}
use Rattle.edit_laws.specs.Settling.{settle}
use Rattle.edit_laws.specs.Sweeping.{is_named, swept}
use Rattle.edit_laws.proofs.Lists.{own_id}
use Rattle.edit_laws.proofs.Naming.{blobs_after}
use Rattle.edit_laws.proofs.Settles.{settled_ids}
use Rattle.edit_laws.proofs.Swept.{swept_others}
use Rattle.squash_laws.specs.Squash.{squash_of}
use Rattle.squash_laws.specs.Remaining.{is_staying, stays}
use Rattle.squash_laws.specs.Removed.{Takings, all_left, is_removed, left_of, parents_after}
use Rattle.squash_laws.specs.Takings.{takes, target_after}
use Rattle.squash_laws.proofs.Done.{done_parts}
use Rattle.squash_laws.proofs.Left.{blobs_left}

-- ---- one event

-- an event that may go, and one that has to find a commit besides
one_there : (gone : Bool) (x : PlainEvent) (id : AnyId) → has_id (cond gone [] (x ∷ [])) id ≡ same_id id (id_of x) && not gone
one_there gone x id = go (same_id id (id_of x)) (own_id x id) gone
  where
    go : (same : Bool) → has_id (x ∷ []) id ≡ same → (b : Bool) → has_id (cond b [] (x ∷ [])) id ≡ same && not b
    go true is true = refl
    go true is false = is
    go false is true = refl
    go false is false = is

moved_there : (gone : Bool) (f : ℕ → PlainEvent) (o : Option ℕ) (own id : AnyId) → ((t : ℕ) → id_of (f t) ≡ own)
    → has_id (cond gone [] (option_to_list (option_map f o))) id ≡ same_id id own && (not gone && is_some o)
moved_there gone f o own id is = go (same_id id own) refl gone o
  where
    go : (same : Bool) → same_id id own ≡ same → (b : Bool) (o : Option ℕ) → has_id (cond b [] (option_to_list (option_map f o))) id ≡ same && (not b && is_some o)
    go true e true o = refl
    go true e false None = refl
    go true e false (Some t) = own_id (f t) id ∙ ap (same_id id) (is t) ∙ e
    go false e true o = refl
    go false e false None = refl
    go false e false (Some t) = own_id (f t) id ∙ ap (same_id id) (is t) ∙ e

-- what is taken over doesn't matter, but where tags and resets go
module _ (how : Policy) (set : List AnyId) (events : List PlainEvent) (taking : Takings)
    (goes : (c : ℕ) → taking.target c ≡ target_after set events how.push how.tags c)
  where
    left_there : (e : PlainEvent) (id : AnyId) → has_id (left_of set events taking e) id ≡ same_id id (id_of e) && stays how set events e
    left_there (Commit i mark branch author committer encoding comment parents ops aliases) id =
        one_there (is_removed set i)
        (Commit i mark branch author committer encoding (taking.comment i parents comment) (parents_after set events taking parents) (taking.ops i parents ops) aliases) id
    left_there (Tag i name target tagger comment mark) id =
        moved_there (is_listed (any.Tag i) set) (λ t. Tag i name t tagger comment mark) (taking.target target) (any.Tag i) id (λ t. refl)
        ∙ ap (λ (o : Option ℕ). same_id id (any.Tag i) && (not (is_listed (any.Tag i) set) && is_some o)) (goes target)
    left_there (Reset i branch (Some target)) id =
        moved_there (is_listed (any.Reset i) set) (λ t. Reset i branch (Some t)) (taking.target target) (any.Reset i) id (λ t. refl)
        ∙ ap (λ (o : Option ℕ). same_id id (any.Reset i) && (not (is_listed (any.Reset i) set) && is_some o)) (goes target)
    left_there (Reset i branch None) id = one_there (is_listed (any.Reset i) set) (Reset i branch None) id
    left_there (Pass i line) id = one_there (is_listed (any.Pass i) set) (Pass i line) id
    left_there (Blob i mark bytes) id = one_there false (Blob i mark bytes) id

    in_each : (es : List PlainEvent) (id : AnyId) → has_id (flat_map (left_of set events taking) es) id ≡ list_any (λ e. same_id id (id_of e) && stays how set events e) es
    in_each [] id = refl
    in_each (e ∷ es) id =
        has_id_append (left_of set events taking e) (flat_map (left_of set events taking) es) id
        ∙ (λ i. left_there e id i || in_each es id i)

    -- after it is swept and settled
    pub staying_there : (before new : List PlainEvent) → settle (swept before (all_left set events taking)) ≡ Ok new → (id : AnyId) → IsNoBlob id
        → has_id new id ≡ is_staying how set events id
    staying_there before new is id other =
        settled_ids (swept before (all_left set events taking)) new is id
        ∙ swept_others before (all_left set events taking) id other
        ∙ in_each events id

-- ---- a squash

pub others_there : (how : Policy) (set : List AnyId) (events new : List PlainEvent) → IsSound events → squash_of how set events ≡ Ok new
    → (id : AnyId) → IsNoBlob id → has_id new id ≡ is_staying how set events id
others_there how set events new h d = staying_there how set events (takes set events how) (λ c. refl) events new (done_parts how set events new h d).is

pub blobs_there : (how : Policy) (set : List AnyId) (events new : List PlainEvent) → IsSound events → squash_of how set events ≡ Ok new
    → (b : ℕ) → has_id new (any.Blob b) ≡ has_id events (any.Blob b) && not (is_named events b && not (is_named new b))
blobs_there how set events new h d b =
    let its = takes set events how in
    blobs_after events (all_left set events its) new (done_parts how set events new h d).is b
    ∙ ap (λ x. x && not (is_named events b && not (is_named new b))) (blobs_left set events its b)
