use Rattle.std.proofs.Common.{◌≡◌, ◌∙◌, ◌++◌, ◌∷◌, [], List, Bool, Option, subst, add-one, ap, arith, flat_map, length, map, suc, sym, take}
use Rattle.std.proofs.lemmas.List.{length-map}
use Rattle.std.specs.List.{AllByRecursion, list_any}
use Rattle.std.specs.Prelude.{IfSome, slice_get}
use Rattle.plain_model.specs.declared.id.AnyId.{AnyId}
use Rattle.plain_model.specs.declared.event.PlainEvent.{PlainEvent}
use Rattle.plain_model.specs.Lookups.{event_ops, op_blobs}
use Rattle.plain_model.specs.declared.operation.FileOp.{FileOp}
use Rattle.event_arena.proofs.ListLemmas.{take_all}
use Rattle.expunge_laws.specs.Apart.{AllOps, event_without}
use Rattle.expunge_laws.specs.Matching.{Matches, matched_by}
use Rattle.expunge_laws.specs.Untouched.{may_be_touched, may_touch}
use Rattle.graph_walk.proofs.FlagLemmas.{refilled}
use Rattle.plan_steps.specs.Flags.{FlagsAdd, FlagsNamed, event_blobs}
use Rattle.plan_steps.proofs.Steps.{item_map}
use Rattle.plan_steps.proofs.SweepLemmas.{names_more}
use Rattle.plan_steps.proofs.Tables.{map_push}
use Rattle.path_expunge.proofs.LeavingLemmas.{rest_ops}
use Rattle.path_expunge.specs.Apart.{AreSides, IsNoted}
use Rattle.path_expunge.proofs.NamingLemmas.{blobs_left, event_named, events_noted, ops_touch, whole_noted}
use Rattle.path_expunge.proofs.naming.Named.note_all.Goals as goal

pub loop-place-preserved : goal.loop-place-preserved
loop-place-preserved c =
    let events = c.args.events.now.list in
    let place = c.loop-place.place in
    let m = matched_by c.args.matching.now in
    let new = c.note_ops.new.self in
    let at = c.ops_at.ensures in
    let here = ap (λ (es : List PlainEvent). slice_get es place) (sym c.table-table.ensures.table) ∙ at.1 in
    let ops = c.ops_at.result.now in
    let all : AllByRecursion (IsNoted new) ops = subst (λ (o : Option Bool). IfSome o (λ taken. AllByRecursion (IsNoted new) ops)) c.in-Some.is c.in_ok-taken.ensures.noted in
    let noted = event_named (IsNoted new) at.0 (subst (λ (ops : List FileOp). AllByRecursion (IsNoted new) ops) at.2 all) in
    let taken : c.in-Some.taken ≡ may_be_touched m at.0 =
    subst (λ (o : Option Bool). IfSome o (λ taken. taken ≡ list_any (may_touch (matched_by c.loop-place.matching)) ops)) c.in-Some.is c.in_ok-taken.ensures.taken
    ∙ ap (λ (ms : List Matches). list_any (may_touch (matched_by ms)) ops) c.loop-place.invariant.same
    ∙ ap (list_any (may_touch m)) at.2 ∙ ops_touch m at.0 in
    let g = event_without (may_touch m) in
    let old = c.loop-place.named.items in
    let flags = c.note_ops.new.named in
    let own : event_blobs (g at.0) ≡ blobs_left m (event_ops at.0) = ap (flat_map op_blobs) (rest_ops (may_touch m) at.0) in
    let adds : FlagsAdd events (event_blobs (g at.0)) old flags =
    subst (λ (ids : List AnyId). FlagsAdd events ids old flags) (ap (blobs_left m) at.2 ∙ sym own)
    (subst (λ (ms : List Matches). FlagsAdd events (blobs_left (matched_by ms) ops) old flags) c.loop-place.invariant.same
    (subst (λ (es : List PlainEvent). FlagsAdd es (blobs_left (matched_by c.loop-place.matching) ops) old flags) c.table-table.ensures.table
    (subst (λ (fs : List Bool). FlagsAdd c.table-table.result.now (blobs_left (matched_by c.loop-place.matching) ops) fs flags) c.deref_mut.ensures.value
    (subst (λ (o : Option Bool). IfSome o (λ taken. FlagsAdd c.table-table.result.now (blobs_left (matched_by c.loop-place.matching) ops) c.deref_mut.result.now flags)) c.in-Some.is c.in_ok-taken.ensures.named)))) in
    let old_count : length old ≡ c.loop-place.named.len = ap length (sym c.deref_mut.ensures.value) ∙ c.deref_mut.ensures.len in
    record {
      same = c.in_ok-taken.ensures.same ∙ c.loop-place.invariant.same;
      sides = subst (λ (ms : List Matches). AreSides (matched_by ms) new) c.loop-place.invariant.same c.in_ok-taken.ensures.sides;
      noted = rw add-one (events_noted c.loop-place.self new c.in_ok-taken.ensures.more events place at.0 here c.loop-place.invariant.noted noted);
      named = rw add-one (subst (FlagsNamed events (take (suc place) (map g events))) (sym (refilled c.loop-place.named.len flags old (adds.count ∙ old_count) old_count))
          (names_more events (map g events) place (g at.0) old flags (item_map g events place at.0 here) c.loop-place.invariant.named adds));
      touched = rw add-one (c.in_ok-push.ensures.items ∙ (λ i. c.loop-place.invariant.touched i ++ taken i ∷ []) ∙ sym (map_push (may_be_touched m) events place at.0 here));
    }

pub returns-clause-noted : goal.returns-clause-noted
returns-clause-noted c =
    whole_noted c.loop-place.self c.args.events.now.list
    (subst (AllByRecursion (λ e. AllOps (IsNoted c.loop-place.self) (e ∷ []))) (take_all c.args.events.now.list c.loop-place.place (let all = c.loop-place-test.false in let count = c.count-place-end.ensures.count in omega arith)) c.loop-place.invariant.noted)

pub returns-clause-touched : goal.returns-clause-touched
returns-clause-touched c =
    let events = c.args.events.now.list in
    c.loop-place.invariant.touched
    ∙ ap (map (may_be_touched (matched_by c.args.matching.now))) (take_all events c.loop-place.place (let all = c.loop-place-test.false in let count = c.count-place-end.ensures.count in omega arith))

pub returns-clause-named : goal.returns-clause-named
returns-clause-named c =
    let events = c.args.events.now.list in
    let g = event_without (may_touch (matched_by c.args.matching.now)) in
    subst (λ (es : List PlainEvent). FlagsNamed events es c.loop-place.named.items)
    (take_all (map g events) c.loop-place.place
    (let all = c.loop-place-test.false in let count = c.count-place-end.ensures.count in let same = length-map events g in omega arith)) c.loop-place.invariant.named
