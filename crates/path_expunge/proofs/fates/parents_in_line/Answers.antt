use Rattle.std.proofs.Common.{◌≡◌, ◌∙◌, ◌+◌, ◌++◌, ◌∷◌, [], ℕ, List, Option, Some, None, true, false, cond, take, add-one, append-nil, ap, sym, flat_map}
use Rattle.std.specs.Prelude.{option_to_list}
use Rattle.std.proofs.lemmas.List.Concat.{flat_map-append}
use Rattle.ancestry_laws.specs.Ancestry.{is_one_of}
use Rattle.event_arena.proofs.ListLemmas.{take_all, take_more}
use Rattle.graph_walk.specs.Joined.{with_all}
use Rattle.graph_walk.proofs.EntryLemmas.{with_all_push}
use Rattle.graph_walk.proofs.ExpansionLemmas.{with_all_once}
use Rattle.squash_laws.specs.Takings.{back_of}
use Rattle.path_expunge.proofs.fates.parents_in_line.Goals as goal
use Rattle.path_expunge.proofs.fates.parents_in_line.Goals.{in-Some+then-not-contains+in_ok-push, in-Some+else-not-contains, in_default}

pub loop-parent-preserved : goal.loop-parent-preserved
loop-parent-preserved c =
    let f : ℕ → List ℕ = λ p. option_to_list (back_of c.args.removal.now.set c.args.removal.now.events p) in
    let ps = c.args.parents.now in
    let i = c.loop-parent.parent-index in
    let p = c.parent-item.result in
    let so_far = flat_map f (take i ps) in
    let items : take (i + 1) ps ≡ take i ps ++ p ∷ [] = rw add-one (take_more ps i p c.loop-parent-test.true c.parent-item.is) in
    let step : flat_map f (take (i + 1) ps) ≡ so_far ++ f p =
    ap (λ (l : List ℕ). flat_map f l) items ∙ flat_map-append f (take i ps) (p ∷ []) ∙ ap (λ (l : List ℕ). so_far ++ l) (append-nil (f p)) in
    let its : (o : Option ℕ) → c.back_of.result ≡ o → flat_map f (take (i + 1) ps) ≡ so_far ++ option_to_list o =
    λ o is. step ∙ ap (λ x. so_far ++ option_to_list x) (sym c.back_of.ensures ∙ is) in
    elim c.match-back_of.branch [
      | in-Some+then-not-contains+in_ok-push w ↦
          let x = w.in-Some.commit in
          let there : is_one_of (with_all [] so_far) x ≡ false =
          ap (λ (l : List ℕ). is_one_of l x) (sym (w.as_slice.ensures ∙ c.loop-parent.invariant)) ∙ sym w.contains.ensures.value ∙ w.if-not-contains.true in
          w.made-is ∙ w.in_ok-push.ensures.ok ∙ ap (λ (l : List ℕ). l ++ x ∷ []) c.loop-parent.invariant
          ∙ sym (ap (λ b. cond b (with_all [] so_far) (with_all [] so_far ++ x ∷ [])) there)
          ∙ sym (with_all_push [] so_far x)
          ∙ ap (λ (l : List ℕ). with_all [] l) (sym (its (Some x) w.in-Some.is))
      | in-Some+else-not-contains w ↦
          let x = w.in-Some.commit in
          let there : is_one_of (with_all [] so_far) x ≡ true =
          ap (λ (l : List ℕ). is_one_of l x) (sym (w.as_slice.ensures ∙ c.loop-parent.invariant)) ∙ sym w.contains.ensures.value ∙ w.if-not-contains.false in
          w.made-is ∙ c.loop-parent.invariant
          ∙ sym (ap (λ b. cond b (with_all [] so_far) (with_all [] so_far ++ x ∷ [])) there)
          ∙ sym (with_all_push [] so_far x)
          ∙ ap (λ (l : List ℕ). with_all [] l) (sym (its (Some x) w.in-Some.is))
      | in_default w ↦
          w.made-is ∙ c.loop-parent.invariant
          ∙ ap (λ (l : List ℕ). with_all [] l) (sym (its None w.in_default.is ∙ append-nil so_far))
    ]

pub returns : goal.returns
returns c =
    let f : ℕ → List ℕ = λ p. option_to_list (back_of c.args.removal.now.set c.args.removal.now.events p) in
    c.loop-parent.invariant
    ∙ ap (λ (l : List ℕ). with_all [] (flat_map f l)) (take_all c.args.parents.now c.loop-parent.parent-index c.loop-parent-test.false)
    ∙ with_all_once [] (flat_map f c.args.parents.now)
