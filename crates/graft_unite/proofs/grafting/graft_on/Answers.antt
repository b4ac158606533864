use Rattle.std.proofs.Common.{◌≡◌, ◌∙◌, ◌+◌, List, [], ◌∷◌, Option, Result, Ok, Err, arith, length, sym, ap, subst}
use Rattle.std.specs.List.{list_any}
use Rattle.std.specs.Prelude.{bytes_eq}
use Rattle.plain_model.specs.declared.fault.Fault.{Fault}
use Rattle.plain_model.specs.declared.event.PlainEvent.{PlainEvent}
use Rattle.plain_model.specs.Histories.{IsLinkedPast, past}
use Rattle.plain_model.specs.Lookups.{marks_of}
use Rattle.plain_model.specs.Soundness.{IsSound}
use Rattle.plain_model.specs.declared.id.AnyId.TheVariants as any
use Rattle.plain_model.specs.Faults.{Returns}
use Rattle.edit_laws.specs.Checking.{unless}
use Rattle.event_arena.specs.Graphs.{Change}
use Rattle.event_arena.specs.Plans.{Plans}
use Rattle.graft_laws.specs.Faults.{fault_after, long_name_fault, name_fault}
use Rattle.graft_laws.specs.Graft.{grafted, grafting}
use Rattle.graft_laws.specs.Joining.{new_names, without_passes}
use Rattle.graft_laws.proofs.GraftDone.{parents_first}
use Rattle.graft_unite.specs.Grafting.{Grafting}
use Rattle.graft_unite.proofs.GraftLemmas.{clashing, left, refused, selected, spent, unrefused}
use Rattle.graft_unite.proofs.grafting.graft_on.Goals as goal

-- the fault of a new name, by how a part is joined and its events
abbrev fault_by : Grafting → List PlainEvent → Option Fault
fault_by how events = name_fault (λ n. list_any (bytes_eq n) how.used) (new_names (grafting how.prune how.prefix how.commit) events)

pub returns-in-Some-clause-plans : goal.returns-in-Some-clause-plans
returns-in-Some-clause-plans c =
    let part = c.args.part.now in
    let how : c.grafting_on-how.result ≡ record { prune = c.args.prune; prefix = part.name; used = c.in_ok-used.used; commit = c.args.commit } =
    c.grafting_on-how.ensures ∙ (λ i. record { prune = c.args.prune; prefix = c.name.ensures i; used = c.in_ok-used.used; commit = c.args.commit }) in
    clashing c.args.prune c.args.base.now.next_id part.name part.events c.args.commit c.args.base.now.list c.in_ok-used.used c.in-Some.fault c.in_ok-used.ensures
    (sym c.in-Some.is ∙ c.in_ok-fault.ensures ∙ (λ i. fault_by (how i) (c.events-2.ensures i)))

pub returns-in_default-mark_behind-clause-plans : goal.returns-in_default-mark_behind-clause-plans
returns-in_default-mark_behind-clause-plans c =
    let part = c.args.part.now in
    let how : c.grafting_on-how.result ≡ record { prune = c.args.prune; prefix = part.name; used = c.in_ok-used.used; commit = c.args.commit } =
    c.grafting_on-how.ensures ∙ (λ i. record { prune = c.args.prune; prefix = c.name.ensures i; used = c.in_ok-used.used; commit = c.args.commit }) in
    spent c.args.prune c.args.base.now.next_id part.name part.events c.args.commit c.args.base.now.list c.in_ok-used.used c.in_ok-used.ensures
    (sym c.in_default.is ∙ c.in_ok-fault.ensures ∙ (λ i. fault_by (how i) (c.events-2.ensures i)))
    (λ few. let marks = ap (λ (l : List PlainEvent). length (marks_of l)) c.events-3.ensures in let is = c.mark_above-mark.ensures.mark in c.in_default-mark_behind.ensures (omega arith))

pub judge-requires-clause-earlier : goal.judge-requires-clause-earlier
judge-requires-clause-earlier c short =
    let part = c.args.part.now in
    let base = c.args.base.now in
    let how : c.grafting_on-how.result ≡ record { prune = c.args.prune; prefix = part.name; used = c.in_ok-used.used; commit = c.args.commit } =
    c.grafting_on-how.ensures ∙ (λ i. record { prune = c.args.prune; prefix = c.name.ensures i; used = c.in_ok-used.used; commit = c.args.commit }) in
    let after : c.in_ok-plan.plan.after ≡ grafted c.args.prune base.next_id part.name part.events c.args.commit base.list =
    ap (λ (p : Change). p.after) c.in_ok-plan.ensures ∙ (λ i. grafted (how i).prune base.next_id part.name part.events (how i).commit base.list) in
    subst (λ (l : List PlainEvent). IsLinkedPast (past l)) (sym after)
    (parents_first c.args.prune base.next_id part.name part.events base.list c.args.commit c.count-count.ensures.sound (subst IsSound c.events.ensures c.count-part.ensures.sound) c.next_id-next.ensures.spent c.requires.there c.requires.name
    (ap long_name_fault (sym after) ∙ short))

pub returns-in-Ok-clause-plans : goal.returns-in-Ok-clause-plans
returns-in-Ok-clause-plans c =
    let part = c.args.part.now in
    let base = c.args.base.now in
    let how : c.grafting_on-how.result ≡ record { prune = c.args.prune; prefix = part.name; used = c.in_ok-used.used; commit = c.args.commit } =
    c.grafting_on-how.ensures ∙ (λ i. record { prune = c.args.prune; prefix = c.name.ensures i; used = c.in_ok-used.used; commit = c.args.commit }) in
    let made = grafted c.args.prune base.next_id part.name part.events c.args.commit base.list in
    let after : c.in_ok-plan.plan.after ≡ made =
    ap (λ (p : Change). p.after) c.in_ok-plan.ensures ∙ (λ i. grafted (how i).prune base.next_id part.name part.events (how i).commit base.list) in
    let marks = ap (λ (l : List PlainEvent). length (marks_of l)) c.events-3.ensures in
    let is = c.mark_above-mark.ensures.mark in
    let few = c.in-Some-mark_behind.ensures.0 in
    let answer = left c.args.prune base.next_id part.name part.events c.args.commit base.list c.in_ok-used.used c.in_ok-used.ensures
    (sym c.in_default.is ∙ c.in_ok-fault.ensures ∙ (λ i. fault_by (how i) (c.events-2.ensures i))) (omega arith) in
    let whole = answer ∙ unrefused (fault_after c.args.prune made) made (ap (λ (l : List PlainEvent). unless (fault_after c.args.prune l)) (sym after) ∙ c.in-Ok.ensures.judged) ∙ ap Ok (sym after) in (
      whole,
      record {
        before = ap (λ (p : Change). p.before) c.in_ok-plan.ensures;
        made_at = ap (λ (p : Change). p.made_at) c.in_ok-plan.ensures;
        next = ap (λ (p : Change). p.next) c.in_ok-plan.ensures;
        sound = c.a_graft_keeps_soundness.ensures c.args.prune base.next_id part.name part.events (any.Commit c.args.commit ∷ []) base.list c.in_ok-plan.plan.after c.count-count.ensures.sound
            (subst IsSound c.events.ensures c.count-part.ensures.sound) c.requires.name c.next_id-next.ensures.spent (selected base.list c.args.commit c.requires.there) whole;
      },
    )

pub returns-clause-plans : goal.returns-clause-plans
returns-clause-plans c =
    let part = c.args.part.now in
    let base = c.args.base.now in
    let how : c.grafting_on-how.result ≡ record { prune = c.args.prune; prefix = part.name; used = c.in_ok-used.used; commit = c.args.commit } =
    c.grafting_on-how.ensures ∙ (λ i. record { prune = c.args.prune; prefix = c.name.ensures i; used = c.in_ok-used.used; commit = c.args.commit }) in
    let made = grafted c.args.prune base.next_id part.name part.events c.args.commit base.list in
    let after : c.in_ok-plan.plan.after ≡ made =
    ap (λ (p : Change). p.after) c.in_ok-plan.ensures ∙ (λ i. grafted (how i).prune base.next_id part.name part.events (how i).commit base.list) in
    let marks = ap (λ (l : List PlainEvent). length (marks_of l)) c.events-3.ensures in
    let is = c.mark_above-mark.ensures.mark in
    let few = c.in-Some-mark_behind.ensures.0 in
    let answer = left c.args.prune base.next_id part.name part.events c.args.commit base.list c.in_ok-used.used c.in_ok-used.ensures
    (sym c.in_default.is ∙ c.in_ok-fault.ensures ∙ (λ i. fault_by (how i) (c.events-2.ensures i))) (omega arith) in
    let number = base.next_id + length (without_passes part.events) in
    subst (λ (r : Result (List PlainEvent) Fault). Plans base number (Err c.in-Err.halt) r) (sym answer)
    (refused base number c.in-Err.halt (fault_after c.args.prune made) made
    (subst (λ (l : List PlainEvent). Returns {X = Unit {0}} {Y = Unit {0}} (λ done. done) (Err c.in-Err.halt) (unless (fault_after c.args.prune l))) after c.in-Err.ensures.judged))
