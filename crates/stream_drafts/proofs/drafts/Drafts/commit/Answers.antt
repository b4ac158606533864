use Rattle.std.proofs.Common.{◌≡◌, List, length, ap, subst, ◌∙◌, arith, option_map, get_or, nat_lt, true, false}
use Rattle.stream_drafts.specs.declared.draft.Draft.{Draft}
use Rattle.stream_drafts.specs.declared.draft.Links.{Links}
use Rattle.stream_drafts.proofs.Places.{no_place, past_all, at_place}
use Rattle.stream_drafts.proofs.drafts.Drafts.commit.Goals as goal

pub returns-in_err-place-clause-found : goal.returns-in_err-place-clause-found
returns-in_err-place-clause-found c =
    rw (← c.self.view_is) (ap (option_map {T = Links} (λ links. (links.parents.now, links.ops.now))) c.from_residual.ensures
    ∙ no_place c.self.inside.drafts.items c.self.invariant.0.placed c.args.id (λ one. let is = c.number.ensures in c.in_err-place.ensures (omega (arith, is, one))))

pub returns-in_err-get-clause-found : goal.returns-in_err-get-clause-found
returns-in_err-get-clause-found c =
    let placed = c.in_ok-place.ensures in
    let is = c.number.ensures in
    rw (← c.self.view_is) (ap (option_map {T = Links} (λ links. (links.parents.now, links.ops.now))) c.from_residual-in_err-get.ensures
    ∙ past_all c.self.inside.drafts.items c.self.invariant.0.placed c.args.id c.in_ok-place.place (omega (arith, is, placed))
    (subst (λ (l : List Draft). false ≡ nat_lt c.in_ok-place.place (length l)) c.as_slice-drafts.ensures.value c.in_err-get.ensures.lookup.0))

pub returns-clause-found : goal.returns-clause-found
returns-clause-found c =
    let placed = c.in_ok-place.ensures in
    let is = c.number.ensures in
    rw (← c.self.view_is) (c.links.ensures
    ∙ at_place c.self.inside.drafts.items c.self.invariant.0.placed c.args.id c.in_ok-place.place (omega (arith, is, placed)) c.in_ok-get.field-0.now
    (subst (λ (l : List Draft). true ≡ nat_lt c.in_ok-place.place (length l)) c.as_slice-drafts.ensures.value c.in_ok-get.ensures.lookup.0)
    (subst (λ (l : List Draft). c.in_ok-get.field-0.now ≡ get_or l c.in_ok-place.place c.in_ok-get.field-0.now) c.as_slice-drafts.ensures.value c.in_ok-get.ensures.lookup.1))
