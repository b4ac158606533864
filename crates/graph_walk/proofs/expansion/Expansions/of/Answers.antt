use Rattle.std.proofs.Common.{◌≡◌, ◌∙◌, ◌<◌, ◌∷◌, ◌++◌, [], List, ap, length, arith, add-one, false}
use Rattle.std.proofs.lemmas.List.{get_or_read}
use Rattle.history_laws.proofs.SoundOnce.{sound_once}
use Rattle.std.specs.Prelude.{slice_get}
use Rattle.graph_walk.specs.Flags.{FlagsOf}
use Rattle.graph_walk.specs.Joined.{next_entry}
use Rattle.plain_model.specs.Lookups.{id_of, is_listed}
use Rattle.plain_model.specs.declared.id.AnyId.{AnyId}
use Rattle.plain_model.specs.declared.event.PlainEvent.{PlainEvent}
use Rattle.std.proofs.Common.{subst}
use Rattle.history_laws.proofs.Lists.{item_at}
use Rattle.graph_walk.proofs.ExpandingLemmas.{expanded_all, expanded_more}
use Rattle.graph_walk.proofs.expansion.Expansions.of.Goals as goal

pub loop-place-preserved : goal.loop-place-preserved
loop-place-preserved c =
    let events = c.args.events.now.list in
    let sound = c.count-place-end.ensures.sound in
    let once = (sound_once events sound).ids in
    let place = c.loop-place.place in
    let within : place < length events = let test = c.loop-place-test.true in let count = c.count-place-end.ensures.count in omega arith in
    let item = item_at events place within in
    let flags : FlagsOf events c.args.removed.now c.in_ok-flags.flags.items = subst (λ (ids : List AnyId). FlagsOf events ids c.in_ok-flags.flags.items) c.as_slice.ensures (subst (λ (es : List PlainEvent). FlagsOf es c.as_slice.result.now c.in_ok-flags.flags.items) c.table.ensures.table c.in_ok-flags.ensures) in
    let low : place < length c.in_ok-flags.flags.items = let n = flags.count in omega arith in
    let flag : c.index.result.now ≡ is_listed (id_of item.0) c.args.removed.now = get_or_read c.in_ok-flags.flags.items place c.index.result.now low c.index.ensures false ∙ flags.flag place item.0 item.1 in
    let same = c.loop-place.invariant.events in
    let entries = subst (λ es. c.push_event.new.self.entries ≡ c.loop-place.made.entries ++ next_entry c.loop-place.made.bounded es c.loop-place.made.entries c.index.result.now item.0 ∷ []) same
    (c.in_ok-push_event.ensures.entries item.0 (ap (λ es. slice_get es place) same ∙ item.1)) in
    record {
      events = c.in_ok-push_event.ensures.events ∙ same;
      bounded = c.in_ok-push_event.ensures.bounded ∙ c.loop-place.invariant.bounded;
      so_far = rw add-one (expanded_more events sound once c.args.removed.now place item.0 c.loop-place.made c.push_event.new.self c.index.result.now item.1 flag c.loop-place.invariant.so_far c.in_ok-push_event.ensures.bounded entries);
    }

pub returns-clause-expansions : goal.returns-clause-expansions
returns-clause-expansions c =
    let events = c.args.events.now.list in
    let sound = c.count-place-end.ensures.sound in
    let once = (sound_once events sound).ids in
    let all : c.loop-place.place ≡ length events = let test = c.loop-place-test.false in let count = c.count-place-end.ensures.count in let end = c.loop-place.auto.place-end in omega arith in
    expanded_all events sound once c.args.removed.now c.loop-place.place c.loop-place.made all c.loop-place.invariant.so_far
