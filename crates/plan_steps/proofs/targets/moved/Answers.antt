use Rattle.std.proofs.Common.{◌≡◌, ◌∙◌, None, arith, ap, sym}
use Rattle.std.proofs.lemmas.List.{get_or_read}
use Rattle.std.specs.Option.{option_or}
use Rattle.squash_laws.specs.Takings.{back_of, forward_of, moved}
use Rattle.plan_steps.proofs.WayLemmas.{commit_placed}
use Rattle.plan_steps.proofs.targets.moved.Goals as goal

pub returns-in-Forward : goal.returns-in-Forward
returns-in-Forward c =
    let events = c.args.removal.now.events in
    let set = c.args.removal.now.set in
    let place = c.place-place.result in
    let within = c.place-place.ensures.within in
    let b = commit_placed events c.args.commit place c.place-place.ensures.place in
    let on : c.index.result.now ≡ forward_of set events c.args.commit =
    get_or_read c.args.leads.now.forward.items place c.index.result.now (let count = c.requires.forward.count in omega arith) c.index.ensures None ∙ c.requires.forward.entry place b.event b.at c.args.commit b.own c.requires.removed in
    let down : c.index-in-Forward.result.now ≡ back_of set events c.args.commit =
    get_or_read c.args.leads.now.back.items place c.index-in-Forward.result.now (let count = c.requires.back.count in omega arith) c.index-in-Forward.ensures None ∙ c.requires.back.entry place b.event b.at c.args.commit b.own c.requires.removed in
    c.or.ensures ∙ ap (λ x. option_or x c.index-in-Forward.result.now) on ∙ ap (option_or (forward_of set events c.args.commit)) down
    ∙ ap (λ t. moved set events t c.args.commit) (sym c.in-Forward.is)

pub returns-in-Back : goal.returns-in-Back
returns-in-Back c =
    let events = c.args.removal.now.events in
    let set = c.args.removal.now.set in
    let place = c.place-place.result in
    let within = c.place-place.ensures.within in
    let b = commit_placed events c.args.commit place c.place-place.ensures.place in
    let on : c.index-in-Back-2.result.now ≡ forward_of set events c.args.commit =
    get_or_read c.args.leads.now.forward.items place c.index-in-Back-2.result.now (let count = c.requires.forward.count in omega arith) c.index-in-Back-2.ensures None ∙ c.requires.forward.entry place b.event b.at c.args.commit b.own c.requires.removed in
    let down : c.index-in-Back.result.now ≡ back_of set events c.args.commit =
    get_or_read c.args.leads.now.back.items place c.index-in-Back.result.now (let count = c.requires.back.count in omega arith) c.index-in-Back.ensures None ∙ c.requires.back.entry place b.event b.at c.args.commit b.own c.requires.removed in
    c.or-in-Back.ensures ∙ ap (λ x. option_or x c.index-in-Back-2.result.now) down ∙ ap (option_or (back_of set events c.args.commit)) on
    ∙ ap (λ t. moved set events t c.args.commit) (sym c.in-Back.is)
