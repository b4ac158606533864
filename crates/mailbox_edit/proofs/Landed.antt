-- Messages that land one after another.
use Rattle.std.proofs.Common.{◌≡◌, ◌∙◌, ℕ, zero, suc, ◌+◌, ◌<◌, List, [], ◌∷◌, ◌++◌, length, get_or, take, drop, Result, Ok, refl, sym, ap, subst, arith, add-one}
use Rattle.std.specs.Prelude.{IsSome}
use Rattle.std.specs.List.{AllByRecursion}
use Rattle.plain_model.specs.declared.fault.Fault.{Fault}
use Rattle.plain_model.specs.declared.id.AnyId.{AnyId}
use Rattle.plain_model.specs.Soundness.{IsSound}
use Rattle.plain_model.specs.declared.event.PlainEvent.{PlainEvent}
use Rattle.plain_model.specs.Lookups.{find_event, id_of}
use Rattle.event_arena.specs.Changes.{changed, with_comment}
use Rattle.event_arena.specs.Graphs.{Change, Graph}
use Rattle.event_arena.specs.Plans.{IsPlanOf, leaving}
use Rattle.event_arena.specs.declared.field.Role.TheVariants.{Author, Committer, Tagger}
use Rattle.plan_steps.proofs.Steps.{changed_there, changed_twice, still_there}
use Rattle.mailbox_laws.specs.Boxes.{comment_in, lines_in}
use Rattle.mailbox_edit.specs.Landings.{IsLandable, landed_all, landed_as, with_given}
use Rattle.mailbox_edit.specs.declared.landing.Landing.{Landing}
use Rattle.mailbox_edit.proofs.Given.{comment_id, given_id}

-- ---- one message

-- a plan whose list goes on by the four changes of one event
pub land_put : (l : Landing) (plan one two three four : Change)
    → one ≡ record plan { after = changed l.id (with_given Author l.said.author l.said.author_date) plan.after }
    → two ≡ record one { after = changed l.id (with_given Committer l.said.committer l.said.committer_date) one.after }
    → three ≡ record two { after = changed l.id (with_given Tagger l.said.tagger l.said.tagger_date) two.after }
    → four ≡ record three { after = changed l.id (with_comment (comment_in (take l.count (lines_in l.body.now)))) three.after }
    → four ≡ record plan { after = changed l.id (landed_as l) plan.after }
land_put l plan one two three four first second third fourth =
    fourth
    ∙ rw (third, second, first) refl
    ∙ ap (λ (es : List PlainEvent). record plan { after = es }) (
    ap (λ (es : List PlainEvent). changed l.id by_comment (changed l.id by_tagger es)) (changed_twice l.id by_committer by_author author_id plan.after)
    ∙ ap (changed l.id by_comment) (changed_twice l.id by_tagger (λ e. by_committer (by_author e)) (λ e. committer_id (by_author e) ∙ author_id e) plan.after)
    ∙ changed_twice l.id by_comment (λ e. by_tagger (by_committer (by_author e)))
    (λ e. tagger_id (by_committer (by_author e)) ∙ committer_id (by_author e) ∙ author_id e) plan.after
    )
  where
    by_author : PlainEvent → PlainEvent
    by_author = with_given Author l.said.author l.said.author_date

    by_committer : PlainEvent → PlainEvent
    by_committer = with_given Committer l.said.committer l.said.committer_date

    by_tagger : PlainEvent → PlainEvent
    by_tagger = with_given Tagger l.said.tagger l.said.tagger_date

    by_comment : PlainEvent → PlainEvent
    by_comment = with_comment (comment_in (take l.count (lines_in l.body.now)))

    author_id : (e : PlainEvent) → id_of (by_author e) ≡ id_of e
    author_id = given_id Author l.said.author l.said.author_date

    committer_id : (e : PlainEvent) → id_of (by_committer e) ≡ id_of e
    committer_id = given_id Committer l.said.committer l.said.committer_date

    tagger_id : (e : PlainEvent) → id_of (by_tagger e) ≡ id_of e
    tagger_id = given_id Tagger l.said.tagger l.said.tagger_date

-- an event that is there is there in the plan that changes it
pub there_still : (plan new : Change) (id : AnyId) (f : PlainEvent → PlainEvent) → ((e : PlainEvent) → id_of (f e) ≡ id_of e) → new ≡ record plan { after = changed id f plan.after }
    → IsSome (find_event id plan.after) → IsSome (find_event id new.after)
there_still plan new id f same is there = subst (λ (p : Change). IsSome (find_event id p.after)) (sym is) (changed_there id f same plan.after there)

pub landed_id : (l : Landing) (e : PlainEvent) → id_of (landed_as l e) ≡ id_of e
landed_id l e =
    let one = with_given Author l.said.author l.said.author_date e in
    let two = with_given Committer l.said.committer l.said.committer_date one in
    let three = with_given Tagger l.said.tagger l.said.tagger_date two in
    comment_id (comment_in (take l.count (lines_in l.body.now))) three
    ∙ given_id Tagger l.said.tagger l.said.tagger_date two
    ∙ given_id Committer l.said.committer l.said.committer_date one
    ∙ given_id Author l.said.author l.said.author_date e

-- ---- all

pub landed_append : (ls ks : List Landing) (now : List PlainEvent) → landed_all (ls ++ ks) now ≡ landed_all ks (landed_all ls now)
landed_append [] ks now = refl
landed_append (l ∷ ls) ks now = landed_append ls ks (changed l.id (landed_as l) now)

-- what could land can land still
pub still_landable : (x : AnyId) (l : Landing) (es : List PlainEvent) (ls : List Landing) → AllByRecursion (IsLandable es) ls
    → AllByRecursion (IsLandable (changed x (landed_as l) es)) ls
still_landable x l es [] h = tt
still_landable x l es (k ∷ ls) h = (
  record { there = still_there x (landed_as l) (landed_id l) es k.id ∙ h.0.there; field = h.0.field; fits = h.0.fits },
  still_landable x l es ls h.1,
)

pub landable_append : (es : List PlainEvent) (ls : List Landing) (l : Landing) → AllByRecursion (IsLandable es) ls → IsLandable es l
    → AllByRecursion (IsLandable es) (ls ++ l ∷ [])
landable_append es [] l h one = (one, tt)
landable_append es (k ∷ ls) l h one = (h.0, landable_append es ls l h.1 one)

-- one message more
pub landed_next : (plan start new : Change) (k : ℕ) (l : Landing) (ls all : List Landing) → drop k all ≡ l ∷ ls → new ≡ record plan { after = changed l.id (landed_as l) plan.after }
    → record plan { after = landed_all (drop k all) plan.after } ≡ start → record new { after = landed_all ls new.after } ≡ start
landed_next plan start new k l ls all is made before = rw made (sym (ap (λ (ks : List Landing). record plan { after = landed_all ks plan.after }) is) ∙ before)

pub landable_next : (plan new : Change) (k : ℕ) (l : Landing) (ls all : List Landing) → drop k all ≡ l ∷ ls → new ≡ record plan { after = changed l.id (landed_as l) plan.after }
    → AllByRecursion (IsLandable plan.after) (drop k all) → AllByRecursion (IsLandable new.after) ls
landable_next plan new k l ls all is made before =
    subst (λ (p : Change). AllByRecursion (IsLandable p.after) ls) (sym made)
    (still_landable l.id l plan.after ls (subst (AllByRecursion (IsLandable plan.after)) is before).1)

-- the next one begins what is left
left_of : (ls : List Landing) (k : ℕ) (l : Landing) → k < length ls → l ≡ get_or ls k l → drop k ls ≡ l ∷ drop (suc k) ls
left_of [] k l within is = absurd (omega arith)
left_of (x ∷ ls) zero l within is = ap (λ (y : Landing). y ∷ ls) (sym is)
left_of (x ∷ ls) (suc k) l within is = left_of ls k l (omega arith) is

pub next_left : (ls : List Landing) (k : ℕ) (l : Landing) → k < length ls → l ≡ get_or ls k l → drop k ls ≡ l ∷ drop (k + 1) ls
next_left ls k l within is = rw add-one (left_of ls k l within is)

-- ---- the plan

-- a plan that begins as the history, in which all have landed
pub planned : (events : Graph) (plan new : Change) (all ls : List Landing) (specified : Result (List PlainEvent) Fault) → plan ≡ leaving events events.list → all ≡ ls
    → new ≡ record plan { after = landed_all all plan.after } → specified ≡ Ok (landed_all ls events.list) → ((left : List PlainEvent) → specified ≡ Ok left → IsSound left)
    → (specified ≡ Ok new.after) × IsPlanOf events events.next_id new
planned events plan new all ls specified begun same made lands sound =
    let is : new ≡ leaving events (landed_all ls events.list) = made ∙ (λ i. record (begun i) { after = landed_all (same i) (begun i).after }) in
    let left : specified ≡ Ok new.after = lands ∙ ap (λ (p : Change). Ok p.after) (sym is) in (
      left,
      record {
        before = ap (λ (p : Change). p.before) is;
        made_at = ap (λ (p : Change). p.made_at) is;
        next = ap (λ (p : Change). p.next) is;
        sound = sound new.after left;
      },
    )
