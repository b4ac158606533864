use Rattle.std.proofs.Common.{◌≡◌, ◌∙◌, ◌<◌, ap, arith, length, subst, sym}
use Rattle.std.proofs.lemmas.List.{length-map}
use Rattle.graph_walk.specs.declared.expansion.Expansion.TheVariants.{At}
use Rattle.graph_walk.specs.Entries.{AllThere, list_of}
use Rattle.graph_walk.proofs.EntryLemmas.{there_push}
use Rattle.graph_walk.proofs.expansion.Expansions.push_staying.Goals as goal

pub push_itself-requires : goal.push_itself-requires
push_itself-requires c =
    let all : length c.self.inside.entries ≡ c.args.place = sym (length-map c.self.inside.entries (list_of c.self.inside.events.now.list c.self.inside.lists.items)) ∙ ap (λ s. length s.entries) c.self.view_is ∙ c.requires.next in
    let within : c.args.place < length c.self.inside.events.now.list = subst (λ s. c.args.place < length s.events) (sym c.self.view_is) c.requires.within in
    let count = c.count-count.ensures.count in
    let fits = c.count-count.type_inv in
    omega arith

pub invariant_of-self : goal.invariant_of-self
invariant_of-self c =
    let events = c.self.inside.events.now.list in
    let all : length c.self.inside.entries ≡ c.args.place = sym (length-map c.self.inside.entries (list_of events c.self.inside.lists.items)) ∙ ap (λ s. length s.entries) c.self.view_is ∙ c.requires.next in
    let within : c.args.place < length events = subst (λ s. c.args.place < length s.events) (sym c.self.view_is) c.requires.within in
    subst (AllThere (length events) (length c.self.inside.lists.items)) (sym c.push_itself.ensures)
    (there_push (length events) (length c.self.inside.lists.items) c.self.inside.entries (At (length c.self.inside.entries)) c.self.invariant (omega arith))
