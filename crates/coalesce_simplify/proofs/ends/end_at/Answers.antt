use Rattle.std.proofs.Common.{◌≡◌, ◌∙◌, Some, None, true, false, get_or, ap, sym}
use Rattle.std.specs.Prelude.{slice_get}
use Rattle.std.proofs.lemmas.Option.{none-some, same_Some}
use Rattle.plain_model.specs.declared.id.AnyId.TheVariants as any
use Rattle.plain_model.specs.Lookups.{children_of, commit_id, is_listed, place_of}
use Rattle.squash_laws.specs.Removed.{is_removed}
use Rattle.coalesce_simplify.proofs.Leading.{end_here, end_on, next}
use Rattle.coalesce_simplify.proofs.ends.end_at.Goals as goal

pub returns-in_err-child : goal.returns-in_err-child
returns-in_err-child c event at own is gone =
    let events = c.args.going.now.events in
    let same : event ≡ c.nth-event.result.now = same_Some event c.nth-event.result.now (sym at ∙ c.nth-event.ensures.event) in
    let id : c.in-Commit.id ≡ own = same_Some c.in-Commit.id own (sym (ap commit_id (same ∙ c.in-Commit.is)) ∙ is) in
    let x = next c.args.going.now.set events c.count-count.ensures.sound c.requires.joined own c.args.place event at is gone in
    absurd (none-some x.child (c.in_err-child.ensures ∙ (λ i. slice_get (children_of (id i) (c.events.ensures i)) 0) ∙ ap (λ ps. slice_get ps 0) x.only))

pub returns-in_err-at : goal.returns-in_err-at
returns-in_err-at c event at own is gone =
    let events = c.args.going.now.events in
    let same : event ≡ c.nth-event.result.now = same_Some event c.nth-event.result.now (sym at ∙ c.nth-event.ensures.event) in
    let id : c.in-Commit.id ≡ own = same_Some c.in-Commit.id own (sym (ap commit_id (same ∙ c.in-Commit.is)) ∙ is) in
    let x = next c.args.going.now.set events c.count-count.ensures.sound c.requires.joined own c.args.place event at is gone in
    let child : c.in_ok-child.child ≡ x.child = same_Some c.in_ok-child.child x.child (c.in_ok-child.ensures ∙ (λ i. slice_get (children_of (id i) (c.events.ensures i)) 0) ∙ ap (λ ps. slice_get ps 0) x.only) in
    absurd (none-some x.place (c.in_err-at.ensures.place ∙ (λ i. place_of (any.Commit (child i)) (c.events-2.ensures i)) ∙ x.placed))

pub returns-then-has_at : goal.returns-then-has_at
returns-then-has_at c event at own is gone =
    let events = c.args.going.now.events in
    let set = c.args.going.now.set in
    let same : event ≡ c.nth-event.result.now = same_Some event c.nth-event.result.now (sym at ∙ c.nth-event.ensures.event) in
    let id : c.in-Commit.id ≡ own = same_Some c.in-Commit.id own (sym (ap commit_id (same ∙ c.in-Commit.is)) ∙ is) in
    let x = next set events c.count-count.ensures.sound c.requires.joined own c.args.place event at is gone in
    let child : c.in_ok-child.child ≡ x.child = same_Some c.in_ok-child.child x.child (c.in_ok-child.ensures ∙ (λ i. slice_get (children_of (id i) (c.events.ensures i)) 0) ∙ ap (λ ps. slice_get ps 0) x.only) in
    let place : c.in_ok-at.at ≡ x.place = same_Some c.in_ok-at.at x.place (c.in_ok-at.ensures.place ∙ (λ i. place_of (any.Commit (child i)) (c.events-2.ensures i)) ∙ x.placed) in
    let too : is_removed set x.child ≡ true = ap (λ i. is_listed i set) x.own ∙ sym (c.has_at-2.ensures x.event (ap (slice_get events) place ∙ x.at)) ∙ c.if-has_at.true in
    c.end_in.ensures ∙ ap (λ k. get_or c.args.ends.now k None) place ∙ end_on set events c.count-count.ensures.sound c.requires.joined own c.args.place x c.args.ends.now c.requires.ends too

pub returns-else-has_at : goal.returns-else-has_at
returns-else-has_at c event at own is gone =
    let events = c.args.going.now.events in
    let set = c.args.going.now.set in
    let same : event ≡ c.nth-event.result.now = same_Some event c.nth-event.result.now (sym at ∙ c.nth-event.ensures.event) in
    let id : c.in-Commit.id ≡ own = same_Some c.in-Commit.id own (sym (ap commit_id (same ∙ c.in-Commit.is)) ∙ is) in
    let x = next set events c.count-count.ensures.sound c.requires.joined own c.args.place event at is gone in
    let child : c.in_ok-child.child ≡ x.child = same_Some c.in_ok-child.child x.child (c.in_ok-child.ensures ∙ (λ i. slice_get (children_of (id i) (c.events.ensures i)) 0) ∙ ap (λ ps. slice_get ps 0) x.only) in
    let place : c.in_ok-at.at ≡ x.place = same_Some c.in_ok-at.at x.place (c.in_ok-at.ensures.place ∙ (λ i. place_of (any.Commit (child i)) (c.events-2.ensures i)) ∙ x.placed) in
    let stays : is_removed set x.child ≡ false = ap (λ i. is_listed i set) x.own ∙ sym (c.has_at-2.ensures x.event (ap (slice_get events) place ∙ x.at)) ∙ c.if-has_at.false in
    ap (λ d. Some d) child ∙ end_here set events c.count-count.ensures.sound c.requires.joined own c.args.place x stays
