use Rattle.std.proofs.Common.{◌≡◌, ◌∙◌, Some, None, true, false, cond, ap, sym}
use Rattle.std.specs.Prelude.{◌&&◌}
use Rattle.std.proofs.lemmas.Option.{same_Some}
use Rattle.tagify_laws.specs.Tagify.{becomes_tag, has_tag_named, name_for}
use Rattle.empty_commits.proofs.names.taken_at.Goals as goal

pub returns-then-has : goal.returns-then-has
returns-then-has c event at =
    let set = c.args.empties.now.set in
    let events = c.args.empties.now.events in
    let named : name_for event ≡ c.in_ok-name.name = ap name_for (same_Some event c.nth.result.now (sym at ∙ c.nth.ensures.event) ∙ c.in-Commit.is) ∙ sym c.in_ok-name.ensures in
    let becomes : becomes_tag set event ≡ true = sym (c.becomes_tag.ensures event at) ∙ c.if-not-becomes_tag.false in
    let has : has_tag_named events (name_for event) ≡ true = ap (has_tag_named events) (named ∙ sym c.as_slice.ensures) ∙ sym (c.requires.names c.as_slice.result.now) ∙ sym c.has.ensures ∙ c.if-has.true in
    sym (λ i. cond (becomes i && has i) (Some (named i)) None)

pub returns-else-has : goal.returns-else-has
returns-else-has c event at =
    let set = c.args.empties.now.set in
    let events = c.args.empties.now.events in
    let named : name_for event ≡ c.in_ok-name.name = ap name_for (same_Some event c.nth.result.now (sym at ∙ c.nth.ensures.event) ∙ c.in-Commit.is) ∙ sym c.in_ok-name.ensures in
    let becomes : becomes_tag set event ≡ true = sym (c.becomes_tag.ensures event at) ∙ c.if-not-becomes_tag.false in
    let has : has_tag_named events (name_for event) ≡ false = ap (has_tag_named events) (named ∙ sym c.as_slice.ensures) ∙ sym (c.requires.names c.as_slice.result.now) ∙ sym c.has.ensures ∙ c.if-has.false in
    sym (λ i. cond (becomes i && has i) (Some (name_for event)) None)
