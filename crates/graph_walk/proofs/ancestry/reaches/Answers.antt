use Rattle.std.proofs.Common.{◌≡◌, ◌∙◌, ◌-◌, ◌+◌, ◌≤◌, ◌∷◌, [], ℕ, List, Bool, false, suc, get_or, length, arith, ap, subst, sym}
use Rattle.std.specs.Prelude.{is_some}
use Rattle.std.proofs.lemmas.List.{length-replicate}
use Rattle.plain_model.specs.declared.id.AnyId.TheVariants as any
use Rattle.history_laws.proofs.Ids.{found_place}
use Rattle.history_laws.proofs.Lists.{item_at}
use Rattle.history_laws.proofs.SoundOnce.{sound_once}
use Rattle.graph_walk.proofs.FlagLemmas.{no_flag}
use Rattle.graph_walk.proofs.BetweenLemmas.{bottom_flag, closed_top}
use Rattle.graph_walk.proofs.ClosureLemmas.{AreClosedFrom, closed_more}
use Rattle.graph_walk.proofs.PlaceLemmas.{place_within}
use Rattle.graph_walk.proofs.ancestry.reaches.Goals as goal

pub unwrap-bottom-requires : goal.unwrap-bottom-requires
unwrap-bottom-requires c =
    ap is_some c.place.ensures.place ∙ found_place (any.Commit c.args.low) c.args.events.now.list c.requires.low

pub unwrap-top-requires : goal.unwrap-top-requires
unwrap-top-requires c =
    ap is_some c.place-2.ensures.place ∙ found_place (any.Commit c.args.high) c.args.events.now.list c.requires.high

pub loop-done-init : goal.loop-done-init
loop-done-init c =
    let events = c.args.events.now.list in
    let sound = c.count-count.ensures.sound in
    let once = (sound_once events sound).ids in
    let at_top = sym c.place-2.ensures.place ∙ c.unwrap-top.ensures in
    let counted = ap length c.requires.flags ∙ length-replicate (length events) false in
    let first = closed_top events sound once c.args.high c.unwrap-top.result at_top c.args.flags.now c.flag_all.new.flags counted (λ j. ap (λ (fs : List Bool). get_or fs j false) c.requires.flags ∙ no_flag (length events) j) c.flag_all.ensures in
    let same : suc c.unwrap-top.result ≡ suc c.unwrap-top.result - 0 = omega arith in
    subst (λ k. AreClosedFrom events (c.args.high ∷ []) k c.flag_all.new.flags) same first

pub loop-done-preserved : goal.loop-done-preserved
loop-done-preserved c =
    let events = c.args.events.now.list in
    let sound = c.count-count.ensures.sound in
    let once = (sound_once events sound).ids in
    let top = c.unwrap-top.result in
    let done = c.loop-done.done in
    let place : ℕ = top - done in
    let test = c.loop-done-test.true in
    let end = c.saturating_sub-done-end.ensures in
    let within = place_within events (any.Commit c.args.high) top (sym c.place-2.ensures.place ∙ c.unwrap-top.ensures) in
    let item = item_at events place (omega arith) in
    let was : suc top - done ≡ suc place = omega arith in
    let now : place ≡ suc top - (done + 1) = omega arith in
    let closed = closed_more events sound once (c.args.high ∷ []) place item.0 c.loop-done.flags c.flag_parents.new.flags item.1 (subst (λ k. AreClosedFrom events (c.args.high ∷ []) k c.loop-done.flags) was c.loop-done.invariant) (c.flag_parents.ensures item.0 item.1) in
    subst (λ k. AreClosedFrom events (c.args.high ∷ []) k c.flag_parents.new.flags) now closed

pub returns-clause-reaches : goal.returns-clause-reaches
returns-clause-reaches c =
    let events = c.args.events.now.list in
    let sound = c.count-count.ensures.sound in
    let once = (sound_once events sound).ids in
    let at_top = sym c.place-2.ensures.place ∙ c.unwrap-top.ensures in
    let at_bottom = sym c.place.ensures.place ∙ c.unwrap-bottom.ensures in
    let low : suc c.unwrap-top.result - c.loop-done.done ≤ suc c.unwrap-bottom.result = let test = c.loop-done-test.false in let end = c.saturating_sub-done-end.ensures in omega arith in
    bottom_flag events sound once c.args.high c.unwrap-top.result at_top c.args.low c.unwrap-bottom.result at_bottom c.loop-done.flags (suc c.unwrap-top.result - c.loop-done.done) low c.loop-done.invariant
