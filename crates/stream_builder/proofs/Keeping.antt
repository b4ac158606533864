-- What is kept, after one tree more.
use Rattle.std.proofs.Common.{◌≡◌, ℕ, Bool, true, false, cond, List, Some, nat_eq, refl, sym, ap, subst, ◌∙◌, eqb-true}
use Rattle.std.specs.HashMap.{get}
use Rattle.std.specs.Map.{lookup}
use Rattle.std.proofs.lemmas.Option.{same_Some}
use Rattle.plain_model.specs.declared.event.PlainEvent.{PlainEvent}
use Rattle.plain_model.specs.Trees.{Tree}
use Rattle.stream_builder.specs.declared.draft_trees.kept_trees.KeptTrees.{KeptTrees}
use Rattle.stream_builder.specs.Keeping.{AreEarlier, IsEarlier}

module _ (events : List PlainEvent) (old new : KeptTrees) (earlier : AreEarlier events old) where
  pub still_earlier : new.by_commit.entries ≡ old.by_commit.entries → AreEarlier events new
  still_earlier same = λ c t is. earlier c t (ap (λ es. lookup (nat_eq c) es) (sym same) ∙ is)

  pub one_more : (c : ℕ) (t : Tree) → ((q : ℕ) → get nat_eq new.by_commit q ≡ cond (nat_eq c q) (Some t) (get nat_eq old.by_commit q))
      → IsEarlier events c (Some t) → AreEarlier events new
  one_more c t updates own = λ q u is. go q u (nat_eq c q) refl (sym (updates q) ∙ is)
    where
      go : (q : ℕ) (u : Tree) (b : Bool) → nat_eq c q ≡ b → cond b (Some t) (get nat_eq old.by_commit q) ≡ Some u → IsEarlier events q (Some u)
      go q u true at is = subst (λ x. IsEarlier events x (Some u)) (eqb-true c q at) (subst (λ x. IsEarlier events c (Some x)) (same_Some t u is) own)
      go q u false at is = earlier q u is
