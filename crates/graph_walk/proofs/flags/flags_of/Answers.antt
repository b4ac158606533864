use Rattle.std.proofs.Common.{◌≡◌, ◌∙◌, false, length, ap, subst, sym}
use Rattle.graph_walk.specs.Flags.{FlagsOf}
use Rattle.std.proofs.lemmas.List.{length-replicate}
use Rattle.graph_walk.proofs.FlagLemmas.{refilled}
use Rattle.graph_walk.proofs.flags.flags_of.Goals as goal

pub flag_ids-requires : goal.flag_ids-requires
flag_ids-requires c = c.deref_mut.ensures.value ∙ c.in_ok-flags.ensures

pub returns : goal.returns
returns c =
    let old = c.in_ok-flags.flags.items in
    let old_count : length old ≡ c.in_ok-flags.flags.len = ap length (sym c.deref_mut.ensures.value) ∙ c.deref_mut.ensures.len in
    let new_count : length c.flag_ids.new.flags ≡ c.in_ok-flags.flags.len = c.flag_ids.ensures.count ∙ sym (length-replicate (length c.args.events.now) false) ∙ ap length (sym c.in_ok-flags.ensures) ∙ old_count in
    subst (FlagsOf c.args.events.now c.args.ids.now) (sym (refilled c.in_ok-flags.flags.len c.flag_ids.new.flags old new_count old_count)) c.flag_ids.ensures
