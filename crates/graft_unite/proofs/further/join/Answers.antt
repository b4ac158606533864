use Rattle.std.proofs.Common.{◌≡◌, ◌∙◌, ◌+◌, ◌++◌, List, ap, length, subst, sym, take}
use Rattle.plain_model.specs.declared.event.PlainEvent.{PlainEvent}
use Rattle.plain_model.specs.Lookups.{AreIdsBelow, marks_of, next_number}
use Rattle.history_laws.proofs.Ids.{below_next}
use Rattle.event_arena.specs.Graphs.{Change}
use Rattle.renumbering.specs.Renumbered.{renumbered_from}
use Rattle.graft_laws.specs.Faults.{name_fault}
use Rattle.graft_laws.specs.Joining.{added, new_names, without_passes}
use Rattle.graft_laws.specs.Unite.{part_fault, uniting}
use Rattle.graft_unite.specs.Dates.{AreDatesOf}
use Rattle.graft_unite.specs.Uniting.{clashing, joining, marked_part}
use Rattle.graft_unite.specs.Used.{AreNamesOf}
use Rattle.graft_unite.proofs.UnitingLemmas.{clashing_is, front_of, joining_is, part_mark, part_next}
use Rattle.graft_unite.proofs.further.join.Goals as goal

pub append_united-requires-clause-low : goal.append_united-requires-clause-low
append_united-requires-clause-low c =
    subst (λ k. AreIdsBelow k c.args.plan.now.after) (sym (c.requires.next ∙ c.requires.known.next_is)) (below_next c.args.plan.now.after)

pub returns-in-Ok-clause-free : goal.returns-in-Ok-clause-free
returns-in-Ok-clause-free c =
    let part = c.args.part.now in
    let events = c.args.plan.now.after in
    let how : c.united_under-how.result ≡ record { prune = c.args.prune; prefix = part.name; used = c.args.used.now; own = c.in_ok-own.own; dates = c.args.dates.now } =
    c.united_under-how.ensures ∙ (λ i. record { prune = c.args.prune; prefix = c.name.ensures i; used = c.args.used.now; own = c.in_ok-own.own; dates = c.args.dates.now }) in
    let joining_as : joining c.united_under-how.result ≡ uniting c.args.prune events part.name =
    ap joining how ∙ joining_is events part.events c.args.used.now c.in_ok-own.own c.args.dates.now c.args.prune part.name c.requires.known.names c.requires.known.commits in
    let own = subst (λ (l : List PlainEvent). AreNamesOf l c.in_ok-own.own) c.events.ensures c.in_ok-own.ensures in
    let clashing_as = ap clashing how ∙ clashing_is events part.events c.args.used.now c.in_ok-own.own c.args.dates.now c.args.prune part.name c.requires.known.names c.requires.known.commits own in
    let fault_is : name_fault (clashing c.united_under-how.result) (new_names (joining c.united_under-how.result) c.events-2.result.now.list) ≡ part_fault c.args.prune events part =
    (λ i. name_fault (clashing_as i) (new_names (joining_as i) (c.events-2.ensures i))) in
    sym fault_is ∙ c.in-Ok.ensures.free

pub returns-in-Ok-clause-plan : goal.returns-in-Ok-clause-plan
returns-in-Ok-clause-plan c =
    let part = c.args.part.now in
    let events = c.args.plan.now.after in
    let how : c.united_under-how.result ≡ record { prune = c.args.prune; prefix = part.name; used = c.args.used.now; own = c.in_ok-own.own; dates = c.args.dates.now } =
    c.united_under-how.ensures ∙ (λ i. record { prune = c.args.prune; prefix = c.name.ensures i; used = c.args.used.now; own = c.in_ok-own.own; dates = c.args.dates.now }) in
    let joining_as : joining c.united_under-how.result ≡ uniting c.args.prune events part.name =
    ap joining how ∙ joining_is events part.events c.args.used.now c.in_ok-own.own c.args.dates.now c.args.prune part.name c.requires.known.names c.requires.known.commits in
    let plan_is : c.append_united.new.plan ≡ record c.args.plan.now { after = events ++ marked_part c.args.prune events part; next = c.args.come.0 + length (without_passes part.events) } =
    c.in-Ok.ensures.plan ∙ (λ i. record c.args.plan.now {
      after = events ++ renumbered_from (c.requires.known.mark_is i) (added (joining_as i) (c.requires.known.next_is i) (c.events-2.ensures i));
      next = c.args.come.0 + length (without_passes (c.events-2.ensures i));
    }) in
    plan_is

pub returns-in-Ok-clause-known : goal.returns-in-Ok-clause-known
returns-in-Ok-clause-known c =
    let part = c.args.part.now in
    let events = c.args.plan.now.after in
    let how : c.united_under-how.result ≡ record { prune = c.args.prune; prefix = part.name; used = c.args.used.now; own = c.in_ok-own.own; dates = c.args.dates.now } =
    c.united_under-how.ensures ∙ (λ i. record { prune = c.args.prune; prefix = c.name.ensures i; used = c.args.used.now; own = c.in_ok-own.own; dates = c.args.dates.now }) in
    let joining_as : joining c.united_under-how.result ≡ uniting c.args.prune events part.name =
    ap joining how ∙ joining_is events part.events c.args.used.now c.in_ok-own.own c.args.dates.now c.args.prune part.name c.requires.known.names c.requires.known.commits in
    let plan_is : c.append_united.new.plan ≡ record c.args.plan.now { after = events ++ marked_part c.args.prune events part; next = c.args.come.0 + length (without_passes part.events) } =
    c.in-Ok.ensures.plan ∙ (λ i. record c.args.plan.now {
      after = events ++ renumbered_from (c.requires.known.mark_is i) (added (joining_as i) (c.requires.known.next_is i) (c.events-2.ensures i));
      next = c.args.come.0 + length (without_passes (c.events-2.ensures i));
    }) in
    let whole = ap (λ (p : Change). p.after) plan_is in
    let front : take c.count-from.result c.append_united.new.plan.after ≡ events =
    (λ i. take (c.count-from.ensures.count i) (whole i)) ∙ front_of events (marked_part c.args.prune events part) in
    let next = c.in-Ok.ensures.next ∙ (λ i. c.requires.known.next_is i + length (without_passes (c.events-2.ensures i))) ∙ sym (part_next c.args.prune events part) ∙ ap next_number (sym whole) in
    let mark = c.in-Ok.ensures.mark ∙ (λ i. c.requires.known.mark_is i + length (marks_of (c.events-2.ensures i))) ∙ sym (part_mark c.args.prune events part) ∙ ap (λ (l : List PlainEvent). 1 + length (marks_of l)) (sym whole) in
    record {
      next_is = next;
      mark_is = mark;
      names = c.in_ok-note_from-in-Ok.ensures.names (subst (λ (l : List PlainEvent). AreNamesOf l c.args.used.now) (sym front) c.requires.known.names);
      commits = c.in_ok-note_from-in-Ok.ensures.dates (subst (λ (l : List PlainEvent). AreDatesOf l c.args.dates.now) (sym front) c.requires.known.commits);
    }

pub returns-clause-refused : goal.returns-clause-refused
returns-clause-refused c fault is =
    let part = c.args.part.now in
    let events = c.args.plan.now.after in
    let how : c.united_under-how.result ≡ record { prune = c.args.prune; prefix = part.name; used = c.args.used.now; own = c.in_ok-own.own; dates = c.args.dates.now } =
    c.united_under-how.ensures ∙ (λ i. record { prune = c.args.prune; prefix = c.name.ensures i; used = c.args.used.now; own = c.in_ok-own.own; dates = c.args.dates.now }) in
    let joining_as : joining c.united_under-how.result ≡ uniting c.args.prune events part.name =
    ap joining how ∙ joining_is events part.events c.args.used.now c.in_ok-own.own c.args.dates.now c.args.prune part.name c.requires.known.names c.requires.known.commits in
    let own = subst (λ (l : List PlainEvent). AreNamesOf l c.in_ok-own.own) c.events.ensures c.in_ok-own.ensures in
    let clashing_as = ap clashing how ∙ clashing_is events part.events c.args.used.now c.in_ok-own.own c.args.dates.now c.args.prune part.name c.requires.known.names c.requires.known.commits own in
    let fault_is : name_fault (clashing c.united_under-how.result) (new_names (joining c.united_under-how.result) c.events-2.result.now.list) ≡ part_fault c.args.prune events part =
    (λ i. name_fault (clashing_as i) (new_names (joining_as i) (c.events-2.ensures i))) in
    sym fault_is ∙ c.in-Err.ensures.refused fault is
