use Rattle.std.proofs.Common.{◌≡◌, ◌∙◌, ◌++◌, ◌∷◌, [], List, ℕ, Some, length, arith, ap, sym}
use Rattle.std.specs.Prelude.{map}
use Rattle.graph_walk.specs.Entries.{list_of}
use Rattle.graph_walk.specs.declared.expansion.Expansion.{Expansion}
use Rattle.graph_walk.specs.declared.expansion.Expansion.TheVariants.{Many}
use Rattle.graph_walk.proofs.EntryLemmas.{entries_more, length_more, there_more, there_tried}
use Rattle.graph_walk.proofs.expansion.Expansions.push_found.Goals as goal

pub invariant_of-self-in-Continue-branch-2 : goal.invariant_of-self-in-Continue-branch-2
invariant_of-self-in-Continue-branch-2 c =
    let lists = c.self.inside.lists.items in
    let longer = ap length c.in_ok-push-in-Some.ensures.items ∙ length_more lists c.in-Some.list in
    let at = c.len-at.ensures in
    there_tried (length c.self.inside.events.now.list) (length c.push.new.self.items) c.self.inside.entries c.push-in-Some.new.self (Many c.len-at.result) _ c.push-in-Some.ensures
    (there_more (length c.self.inside.events.now.list) (length lists) (length c.push.new.self.items) (omega arith) c.self.inside.entries c.self.invariant) (omega arith)

pub invariant_of-self-in_err-push-in-Some-2 : goal.invariant_of-self-in_err-push-in-Some-2
invariant_of-self-in_err-push-in-Some-2 c =
    let lists = c.self.inside.lists.items in
    let longer = ap length c.in_ok-push-in-Some.ensures.items ∙ length_more lists c.in-Some.list in
    let at = c.len-at.ensures in
    there_tried (length c.self.inside.events.now.list) (length c.push.new.self.items) c.self.inside.entries c.push-in-Some.new.self (Many c.len-at.result) _ c.push-in-Some.ensures
    (there_more (length c.self.inside.events.now.list) (length lists) (length c.push.new.self.items) (omega arith) c.self.inside.entries c.self.invariant) (omega arith)

pub invariant_of-self-in-Continue-branch-3 : goal.invariant_of-self-in-Continue-branch-3
invariant_of-self-in-Continue-branch-3 c =
    there_tried _ _ c.self.inside.entries c.push-in-None.new.self _ _ c.push-in-None.ensures c.self.invariant tt

pub returns-in_ok-push-in-Some-2-clause-entries : goal.returns-in_ok-push-in-Some-2-clause-entries
returns-in_ok-push-in-Some-2-clause-entries c =
    let lists = c.self.inside.lists.items in
    let at : c.len-at.result ≡ length lists = omega (arith, c.len-at.ensures, c.self.inside.lists.ok.0) in
    let entries = c.in_ok-push-in-Some-2.ensures ∙ ap (λ (n : ℕ). c.self.inside.entries ++ Many n ∷ []) at in
    ap (λ (ls : List (List ℕ)). map (list_of c.self.inside.events.now.list ls) c.push-in-Some.new.self) c.in_ok-push-in-Some.ensures.items
    ∙ ap (λ (es : List Expansion). map (list_of c.self.inside.events.now.list (lists ++ c.in-Some.list ∷ [])) es) entries
    ∙ entries_more c.self.inside.events.now.list (length c.self.inside.events.now.list) lists c.in-Some.list c.self.inside.entries c.self.invariant
    ∙ ap (λ es. es ++ Some c.in-Some.list ∷ []) (ap (λ s. s.entries) c.self.view_is)
    ∙ ap (λ o. c.args.self.now.entries ++ o ∷ []) (sym c.in-Some.is)
