use Rattle.std.proofs.Common.{◌∙◌, false, ap, get_or, sym}
use Rattle.std.proofs.lemmas.Option.{same_Some}
use Rattle.std.specs.Prelude.{◌||◌, flat_map}
use Rattle.history_laws.proofs.SoundOnce.{sound_once}
use Rattle.event_sets.specs.Around.{linked, puts_one}
use Rattle.event_sets.specs.Sets.{members}
use Rattle.event_sets.proofs.BitLemmas.{bit_of}
use Rattle.event_sets.proofs.NearLemmas.{near_step}
use Rattle.event_sets.proofs.near.is_near.Goals as goal

pub returns-then-links-place : goal.returns-then-links-place
returns-then-links-place c = λ ids tied live links e at.
    let es = c.args.events.now.list in
    let own =
    sym (ap (λ bits. get_or bits c.args.place false) links
    ∙ bit_of es (flat_map (linked es) (members es ids)) c.args.place e at) ∙ c.if-links-place.true in
    c.if-links-place.true
    ∙ sym (near_step es ids c.args.place e (sound_once es c.count-count.ensures.sound).ids live at
    ∙ ap (λ b. b || puts_one ids e) own)

pub returns-else-links-place : goal.returns-else-links-place
returns-else-links-place c = λ ids tied live links e at.
    let es = c.args.events.now.list in
    let own =
    sym (ap (λ bits. get_or bits c.args.place false) links
    ∙ bit_of es (flat_map (linked es) (members es ids)) c.args.place e at) ∙ c.if-links-place.false in
    let is = same_Some c.nth.result.now e (sym c.nth.ensures.event ∙ at) in
    c.puts_one.ensures ids tied live ∙ ap (puts_one ids) is
    ∙ sym (near_step es ids c.args.place e (sound_once es c.count-count.ensures.sound).ids live at
    ∙ ap (λ b. b || puts_one ids e) own)
