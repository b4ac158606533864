use Rattle.std.proofs.Common.{◌≡◌, ◌∙◌, Option, ap, length, subst, sym}
use Rattle.event_sets.specs.Bits.{bits_of, both, picks, value_of}
use Rattle.event_sets.specs.Once.{AreLive}
use Rattle.plain_model.specs.Lookups.{is_listed}
use Rattle.event_sets.specs.Sets.{Ids, common}
use Rattle.event_sets.specs.Subsets.{Subset}
use Rattle.event_sets.proofs.BitLemmas.{bits_count, both_count}
use Rattle.event_sets.proofs.SetLemmas.{live_part, picks_common}
use Rattle.event_sets.proofs.set.EventSet.common.Goals as goal

pub of_bits-requires : goal.of_bits-requires
of_bits-requires c =
    let es = c.self.inside.events.now.list in
    let same : c.args.right.now.events ≡ es = c.requires ∙ sym (ap (λ (s : Subset). s.events) c.self.view_is) in
    let left : length c.as_slice.result.now ≡ length es =
    ap length (c.as_slice.ensures.value ∙ c.self.invariant.tied)
    ∙ bits_count es (value_of es c.self.inside.bits.items c.self.inside.order) in
    let right = c.bits.ensures.count ∙ ap length same in
    ap length c.in_ok-bits-in-None.ensures ∙ both_count c.as_slice.result.now c.bits.result.now (left ∙ sym right)
    ∙ right

pub of_order-requires : goal.of_order-requires
of_order-requires c =
    let es = c.self.inside.events.now.list in
    let right = c.args.right.now.ids in
    let live : AreLive es c.in-Some.order =
    subst (λ (o : Option Ids). AreLive es (value_of es c.self.inside.bits.items o)) c.in-Some.is
    c.self.invariant.live in
    subst (AreLive es) (sym (c.in_ok-kept-in-Some.ensures
    ∙ ap (λ ids. common ids right) c.as_slice-in-Some.ensures))
    (live_part es (λ id. is_listed id right) c.in-Some.order live)

pub returns-in_ok-bits-in-None-clause-ids : goal.returns-in_ok-bits-in-None-clause-ids
returns-in_ok-bits-in-None-clause-ids c =
    let es = c.self.inside.events.now.list in
    let left = c.self.inside.bits.items in
    let right = c.args.right.now.ids in
    let same : c.args.right.now.events ≡ es = c.requires ∙ sym (ap (λ (s : Subset). s.events) c.self.view_is) in
    let own : picks left es ≡ c.args.self.now.ids =
    ap (value_of es left) (sym c.in-None.is) ∙ ap (λ (s : Subset). s.ids) c.self.view_is in
    c.of_bits.ensures.ids
    ∙ ap (λ bits. picks bits es) (c.in_ok-bits-in-None.ensures
    ∙ (λ i. both (c.as_slice.ensures.value i) ((c.bits.ensures.tied ∙ ap (λ es. bits_of es right) same) i)))
    ∙ picks_common left es right ∙ ap (λ ids. common ids right) own
