-- The event that a message is for is there, and has a comment.
use Rattle.std.proofs.Common.{◌≡◌, ℕ, ◌≤◌, length, Bool, true, false, cond, List, [], ◌∷◌, Option, Some, None, Result, Ok, Err, refl, ap, subst, true≢false}
use Rattle.std.proofs.lemmas.Option.{none-some, same_Some}
use Rattle.std.specs.Borrow.{Bor}
use Rattle.std.specs.Prelude.{IsSome, IsTrue, bytes_eq, if◌then◌else◌, is_some, option_map}
use Rattle.std.specs.Result.{is_err, is_ok}
use Rattle.plain_model.specs.declared.fault.Why.{Why}
use Rattle.plain_model.specs.declared.id.AnyId.{AnyId}
use Rattle.plain_model.specs.declared.id.AnyId.TheVariants as any
use Rattle.plain_model.specs.declared.event.PlainEvent.{PlainEvent}
use Rattle.plain_model.specs.declared.event.PlainEvent.TheVariants.{Blob, Commit, Tag, Reset, Pass}
use Rattle.plain_model.specs.Fields.{mark_in}
use Rattle.plain_model.specs.Lookups.{find_event, find_mark, id_of, same_id}
use Rattle.plain_model.specs.Parts.{◌>>=◌}
use Rattle.plain_model.specs.Paths.{Bytes}
use Rattle.history_laws.proofs.Ids.{find_id, same_id_refl}
use Rattle.event_arena.specs.Changes.{has_comment}
use Rattle.mailbox_laws.specs.Boxes.{lines_in}
use Rattle.mailbox_reader.specs.Reading.{value_of}
use Rattle.mailbox_reader.specs.declared.reading.Said.{Said}
use Rattle.mailbox_edit.specs.Landings.{IsLandable, id_meant}
use Rattle.mailbox_edit.specs.declared.landing.Landing.{Landing}
use Rattle.mailbox_laws.specs.Landing.{commit_alone, commit_marked, meant_by, tag_meant}

abbrev IsCommented : List PlainEvent → AnyId → Type 0
IsCommented events id = IsSome (find_event id events) × IsTrue (has_comment id)

-- an event is found where it is, or before
first_found : (e x : PlainEvent) (events : List PlainEvent) → IsSome (find_event (id_of x) events) → IsSome (find_event (id_of x) (e ∷ events))
first_found e x events there = go (same_id (id_of x) (id_of e))
  where
    go : (t : Bool) → is_some (cond t (Some e) (find_event (id_of x) events)) ≡ true
    go true = refl
    go false = there

tag_there : (events : List PlainEvent) (name : Bytes) (e : PlainEvent) → tag_meant events name ≡ Some e → IsCommented events (id_of e)
tag_there [] name e is = absurd (none-some {A = PlainEvent} e is)
tag_there (Blob id mark bytes ∷ events) name e is =
    let rest = tag_there events name e is in (first_found (Blob id mark bytes) e events rest.0, rest.1)
tag_there (Commit id mark branch author committer encoding comment parents ops aliases ∷ events) name e is =
    let rest = tag_there events name e is in
    (first_found (Commit id mark branch author committer encoding comment parents ops aliases) e events rest.0, rest.1)
tag_there (Reset id branch target ∷ events) name e is =
    let rest = tag_there events name e is in (first_found (Reset id branch target) e events rest.0, rest.1)
tag_there (Pass id line ∷ events) name e is =
    let rest = tag_there events name e is in (first_found (Pass id line) e events rest.0, rest.1)
tag_there (Tag id own target tagger comment mark ∷ events) name e is = go (bytes_eq own name) is (λ later. tag_there events name e later)
  where
    here : PlainEvent
    here = Tag id own target tagger comment mark

    go : (t : Bool) → cond t (Some here) (tag_meant events name) ≡ Some e → (tag_meant events name ≡ Some e → IsCommented events (id_of e)) → IsCommented (here ∷ events) (id_of e)
    go true is rest =
        subst (λ (x : PlainEvent). IsCommented (here ∷ events) (id_of x)) (same_Some {A = PlainEvent} here e is)
        (ap (λ t. is_some (cond t (Some here) (find_event (any.Tag id) events))) (same_id_refl (any.Tag id)), refl)
    go false is rest = let found = rest is in (first_found here e events found.0, found.1)

commit_there : (events : List PlainEvent) (r : Result ℕ Why) (e : PlainEvent) → commit_marked events r ≡ Some e → IsCommented events (id_of e)
commit_there events (Err why) e is = absurd (none-some {A = PlainEvent} e is)
commit_there events (Ok mark) e is = go (find_mark mark events) is
  where
    go : (o : Option AnyId) → (o >>= commit_alone >>= λ id. find_event id events) ≡ Some e → IsCommented events (id_of e)
    go None is = absurd (none-some {A = PlainEvent} e is)
    go (Some (any.Commit c)) is =
        subst (IsCommented events) (find_id (any.Commit c) events e is) (ap is_some is, refl)
    go (Some (any.Blob b)) is = absurd (none-some {A = PlainEvent} e is)
    go (Some (any.Tag t)) is = absurd (none-some {A = PlainEvent} e is)
    go (Some (any.Reset r)) is = absurd (none-some {A = PlainEvent} e is)
    go (Some (any.Pass p)) is = absurd (none-some {A = PlainEvent} e is)

pub meant_there : (events : List PlainEvent) (mark name : Option (ℕ × Bytes)) (e : PlainEvent) → meant_by events mark name ≡ Some e
    → IsSome (find_event (id_of e) events) × IsTrue (has_comment (id_of e))
meant_there events (Some mark) None e is = commit_there events (mark_in mark.1) e is
meant_there events None (Some name) e is = tag_there events name.1 e is
meant_there events (Some mark) (Some name) e is = absurd (none-some {A = PlainEvent} e is)
meant_there events None None e is = absurd (none-some {A = PlainEvent} e is)

-- a message for an event that is there can land on it
pub noted_landable : (events : List PlainEvent) (s : Said) (id : AnyId) (body : Bor Bytes) (count : ℕ) → id_meant events s ≡ Some id → count ≤ length (lines_in body.now)
    → IsLandable events (record { id = id; said = s; body = body; count = count })
noted_landable events s id body count is fits = go (meant_by events (value_of s.mark) (value_of s.name)) refl is
  where
    go : (o : Option PlainEvent) → meant_by events (value_of s.mark) (value_of s.name) ≡ o → option_map id_of o ≡ Some id
        → IsLandable events (record { id = id; said = s; body = body; count = count })
    go None found is = absurd (none-some {A = AnyId} id is)
    go (Some e) found is =
        let there = subst (IsCommented events) (same_Some {A = AnyId} (id_of e) id is) (meant_there events (value_of s.mark) (value_of s.name) e found) in
        record { there = there.0; field = there.1; fits = fits }

-- what is in a list after a push that gave no error
pub pushed : {E : Type 0} (r : Result (Unit {0}) E) (more old : List Landing) → is_err r ≡ false → (if is_ok r then more else old) ≡ more
pushed (Ok x) more old none = refl
pushed (Err why) more old none = absurd (true≢false none)
