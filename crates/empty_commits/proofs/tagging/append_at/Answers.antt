use Rattle.std.proofs.Common.{◌∙◌, arith, ap, sym}
use Rattle.plain_model.specs.declared.id.AnyId.TheVariants as any
use Rattle.plain_model.specs.Lookups.{find_event, id_number, id_of}
use Rattle.event_arena.specs.Graphs.{Change}
use Rattle.tagify_laws.proofs.Counted.{tag_number}
use Rattle.empty_commits.proofs.tagging.append_at.Goals as goal

pub append-requires-clause-unspent : goal.append-requires-clause-unspent
append-requires-clause-unspent c =
    let becomes = sym (c.becomes_tag.ensures c.nth.result.now c.nth.ensures.event) ∙ c.if-not-becomes_tag.false in
    let own = ap id_number (ap id_of c.in_ok-tag.ensures ∙ tag_number c.args.empties.now.set c.args.empties.now.events c.unused-number.result c.nth.result.now becomes) in
    let made = ap (λ (p : Change). p.made_at) c.unused-number.ensures.plan in
    let low = c.unused-number.ensures.unspent in
    omega arith

pub append-requires-clause-given : goal.append-requires-clause-given
append-requires-clause-given c =
    let becomes = sym (c.becomes_tag.ensures c.nth.result.now c.nth.ensures.event) ∙ c.if-not-becomes_tag.false in
    let own = ap id_number (ap id_of c.in_ok-tag.ensures ∙ tag_number c.args.empties.now.set c.args.empties.now.events c.unused-number.result c.nth.result.now becomes) in
    let next = ap (λ (p : Change). p.next) c.unused-number.ensures.plan in
    let number = c.unused-number.ensures.number in
    omega arith

pub append-requires-clause-unknown : goal.append-requires-clause-unknown
append-requires-clause-unknown c =
    let becomes = sym (c.becomes_tag.ensures c.nth.result.now c.nth.ensures.event) ∙ c.if-not-becomes_tag.false in
    let own = ap id_of c.in_ok-tag.ensures ∙ tag_number c.args.empties.now.set c.args.empties.now.events c.unused-number.result c.nth.result.now becomes ∙ ap any.Tag c.unused-number.ensures.number in
    let after = ap (λ (p : Change). p.after) c.unused-number.ensures.plan in
    (λ i. find_event (own i) (after i)) ∙ c.requires.unknown
