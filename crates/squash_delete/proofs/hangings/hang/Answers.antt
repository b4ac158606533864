use Rattle.std.proofs.Common.{◌≡◌, ◌∙◌, ◌++◌, ◌∷◌, ◌&&◌, ℕ, suc, [], List, Some, Bool, false, true, arith, ap, refl, subst, sym}
use Rattle.std.proofs.Math.ListN.{set}
use Rattle.std.proofs.lemmas.Option.{none-some}
use Rattle.std.specs.Prelude.{option_and_then}
use Rattle.plain_model.specs.declared.event.PlainEvent.{PlainEvent}
use Rattle.plain_model.specs.declared.id.AnyId.TheVariants as any
use Rattle.plain_model.specs.Lookups.{commit_id, find_event, id_of}
use Rattle.squash_laws.specs.Removed.{is_removed}
use Rattle.squash_laws.specs.Takings.{back_of, is_it}
use Rattle.squash_delete.specs.Hangings.{AreHungTo}
use Rattle.squash_delete.proofs.HangLemmas.{back_there, hung_more, hung_same}
use Rattle.plan_steps.proofs.Tables.{any_default}
use Rattle.plan_steps.proofs.WayLemmas.{no_id, removed_at}
use Rattle.squash_delete.proofs.hangings.hang.Goals as goal

no_and : (b : Bool) → b && false ≡ false
no_and true = refl
no_and false = refl

pub place-requires : goal.place-requires
place-requires c =
    let events = c.args.removal.now.events in
    let set = c.args.removal.now.set in
    let e = c.nth.result.now in
    let own = ap commit_id c.in-Commit.is in
    let found : find_event (any.Commit c.in-Commit.id) events ≡ Some e = ap (λ (x : PlainEvent). find_event (id_of x) events) (sym c.in-Commit.is) ∙ c.nth.ensures.found in
    let gone = sym (removed_at set c.in-Commit.id e c.has_at.result own (c.has_at.ensures e c.nth.ensures.event)) ∙ c.if-has_at.true in
    let to : back_of set events c.in-Commit.id ≡ Some c.in-Some.commit = sym (c.way_at.ensures ∙ c.requires.back.entry c.args.place e c.nth.ensures.event ∙ ap (option_and_then (back_of set events)) own) ∙ c.in-Some.is in
    back_there set events c.count-count.ensures.sound c.in-Commit.id c.in-Some.commit e found gone to

pub returns-in_ok-push-clause-rows : goal.returns-in_ok-push-clause-rows
returns-in_ok-push-clause-rows c =
    let events = c.args.removal.now.events in
    let set' = c.args.removal.now.set in
    let rows = c.args.rows.now in
    let e = c.nth.result.now in
    let own = ap commit_id c.in-Commit.is in
    let gone = sym (removed_at set' c.in-Commit.id e c.has_at.result own (c.has_at.ensures e c.nth.ensures.event)) ∙ c.if-has_at.true in
    let to : back_of set' events c.in-Commit.id ≡ Some c.in-Some.commit = sym (c.way_at.ensures ∙ c.requires.back.entry c.args.place e c.nth.ensures.event ∙ ap (option_and_then (back_of set' events)) own) ∙ c.in-Some.is in
    subst (λ (xs : List ℕ). AreHungTo set' events (suc c.args.place) (set rows c.place.result xs))
    (ap (λ (xs : List ℕ). xs ++ c.in-Commit.id ∷ []) (any_default rows c.place.result [] c.index-rows-place.result (let within = c.place.ensures.within in let count = c.requires.rows.count in omega arith)) ∙ sym c.in_ok-push.ensures.ok)
    (hung_more set' events c.count-count.ensures.sound c.args.place c.in-Commit.id c.in-Some.commit c.place.result e rows c.nth.ensures.event own gone to c.place.ensures.place c.place.ensures.within c.requires.rows)

pub returns-in_default-way_at-clause-rows : goal.returns-in_default-way_at-clause-rows
returns-in_default-way_at-clause-rows c =
    let events = c.args.removal.now.events in
    let set' = c.args.removal.now.set in
    let e = c.nth.result.now in
    hung_same set' events c.count-count.ensures.sound c.args.place e c.args.rows.now c.nth.ensures.event
    (λ d own is. ap (λ b. is_removed set' own && b) (ap (is_it d) (sym (ap (option_and_then (back_of set' events)) is) ∙ sym (c.way_at.ensures ∙ c.requires.back.entry c.args.place e c.nth.ensures.event) ∙ c.in_default-way_at.is)) ∙ no_and (is_removed set' own)) c.requires.rows

pub returns-else-has_at-clause-rows : goal.returns-else-has_at-clause-rows
returns-else-has_at-clause-rows c =
    let events = c.args.removal.now.events in
    let set' = c.args.removal.now.set in
    let e = c.nth.result.now in
    hung_same set' events c.count-count.ensures.sound c.args.place e c.args.rows.now c.nth.ensures.event
    (λ d own is. ap (λ b. b && is_it d (back_of set' events own)) (sym (removed_at set' own e c.has_at.result is (c.has_at.ensures e c.nth.ensures.event)) ∙ c.if-has_at.false)) c.requires.rows

pub returns-in_default : goal.returns-in_default
returns-in_default c =
    let events = c.args.removal.now.events in
    let set' = c.args.removal.now.set in
    let e = c.nth.result.now in
    record {
      count = refl;
      rows = hung_same set' events c.count-count.ensures.sound c.args.place e c.args.rows.now c.nth.ensures.event
          (λ d own is. absurd (none-some own (sym (no_id e c.in_default.not-Commit) ∙ is))) c.requires.rows;
    }
