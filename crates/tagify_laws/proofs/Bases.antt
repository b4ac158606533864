-- Back by first parents from commits that have one parent and no operation: there always is one that stays, and nothing
-- is taken over on the way.
use Rattle.std.proofs.Common.{◌≡◌, ℕ, Bool, true, false, List, [], ◌∷◌, ◌++◌, refl, sym, ap, subst, ◌∙◌, inl, inr, append-nil, eqb-true, true≢false, Some, IsTrue}
use Rattle.std.specs.Prelude.{◌==◌}
use Rattle.std.specs.List.{AllByRecursion}
use Rattle.std.proofs.lemmas.Bool.{cases_Bool}
use Rattle.plain_model.specs.Histories.{IsLinkedPast, Node, Past, knows}
use Rattle.history_laws.specs.FirstParents.{ops_along}
use Rattle.history_laws.proofs.Lists.{all_join}
use Rattle.edit_laws.specs.Removal.{back, chain, expand, expand_all, once_each}
use Rattle.edit_laws.proofs.Chains.{chain_gone, chain_other, chain_stays, expand_gone, expand_other, expand_stays}
use Rattle.edit_laws.proofs.Trees.{known_later, not_fresh}
use Rattle.tagify_laws.specs.Tagify.{has_one_parent}
use Rattle.history_laws.proofs.LineLaws.{known_before}
use Rattle.squash_laws.specs.Takings.{is_from_root, is_none}
use Rattle.squash_laws.proofs.Hung.{back_gone, back_here, back_other}

abbrev AreKnown : Past → List ℕ → Type 0
AreKnown a ps = AllByRecursion (λ p. IsTrue (knows a p)) ps

-- a link of a chain that does nothing and isn't a root
abbrev pub IsBareLink : Node → Type 0
IsBareLink n = (n.ops ≡ []) × (is_none n.parents ≡ false)

pub no_ops_along : (links : List Node) → AllByRecursion IsBareLink links → ops_along links ≡ []
no_ops_along [] a = refl
no_ops_along (n ∷ links) a = λ i. a.0.0 i ++ no_ops_along links a.1 i

pub from_no_root : (links : List Node) → AllByRecursion IsBareLink links → is_from_root links ≡ false
from_no_root [] a = refl
from_no_root (n ∷ links) a = a.0.1

one_is_some : (ps : List ℕ) → has_one_parent ps ≡ true → is_none ps ≡ false
one_is_some [] h = absurd (true≢false (sym h))
one_is_some (p ∷ ps) h = refl

-- ---- a past behind another one

known_more : (ahead bs : Past) (c : ℕ) → knows bs c ≡ true → knows (ahead ++ bs) c ≡ true
known_more [] bs c k = k
known_more (n ∷ ahead) bs c k = known_later n (ahead ++ bs) c (known_more ahead bs c k)

pub linked_behind : (ahead bs : Past) → IsLinkedPast (ahead ++ bs) → IsLinkedPast bs
linked_behind [] bs s = s
linked_behind (n ∷ ahead) bs s = linked_behind ahead bs s.2

module _ (removed : ℕ → Bool) where
  -- a removed commit has one parent and no operation
  pub record IsBare (n : Node) : Type 0 where
    pub one : removed n.id ≡ true → has_one_parent n.parents ≡ true
    pub none : removed n.id ≡ true → n.ops ≡ []

  -- ---- the way back

  -- later commits change nothing
  pub back_behind : (ahead bs : Past) → IsLinkedPast (ahead ++ bs) → (c : ℕ) → knows bs c ≡ true → back removed (ahead ++ bs) (c ∷ []) ≡ back removed bs (c ∷ [])
  back_behind [] bs s c k = refl
  back_behind (n ∷ ahead) bs s c k =
      back_other removed n (ahead ++ bs) c [] (not_fresh n (ahead ++ bs) c s.0 (known_more ahead bs c k)) ∙ back_behind ahead bs s.2 c k

  -- where a commit leads: to one that stays, which is what it stands for among parents
  pub record Stands (a : Past) (p t : ℕ) : Type 0 where
    pub goes_back : back removed a (p ∷ []) ≡ Some t
    pub expands : expand removed a p ≡ t ∷ []
    pub stays : removed t ≡ false
    pub there : knows a t ≡ true

  -- the same of the parents of a removed commit
  record LeadsTo (a : Past) (ps : List ℕ) (t : ℕ) : Type 0 where
    goes_back : back removed a ps ≡ Some t
    expands : expand_all removed a ps ≡ t ∷ []
    stays : removed t ≡ false
    there : knows a t ≡ true

  pub stands : (a : Past) → IsLinkedPast a → AllByRecursion IsBare a → (p : ℕ) → knows a p ≡ true → (t : ℕ) × Stands a p t
  stands [] s e p k = absurd (true≢false (sym k))
  stands (n ∷ older) s e p k =
      elim (cases_Bool (n.id == p)) [
        | inl same ↦ elim (cases_Bool (removed p)) [
          | inl gone ↦
              let below = parent n.parents (e.0.one (ap removed (eqb-true n.id p same) ∙ gone)) s.1 (λ q x. stands older s.2 e.1 q x) in (
                below.0,
                record {
                  goes_back = back_gone removed n older p [] same gone ∙ below.1.goes_back;
                  expands = expand_gone removed n older p same gone ∙ below.1.expands;
                  stays = below.1.stays;
                  there = known_later n older below.0 below.1.there;
                },
              )
          | inr stays ↦ (
            p,
            record {
              goes_back = back_here removed n older p [] same stays;
              expands = expand_stays removed n older p same stays;
              stays = stays;
              there = k;
            },
          )
        ]
        | inr other ↦
            let rest = stands older s.2 e.1 p (known_before n older p other k) in (
              rest.0,
              record {
                goes_back = back_other removed n older p [] other ∙ rest.1.goes_back;
                expands = expand_other removed n older p other ∙ rest.1.expands;
                stays = rest.1.stays;
                there = known_later n older rest.0 rest.1.there;
              },
            )
      ]
    where
      parent : (ps : List ℕ) → has_one_parent ps ≡ true → AreKnown older ps → ((q : ℕ) → knows older q ≡ true → (t : ℕ) × Stands older q t) → (t : ℕ) × LeadsTo older ps t
      parent [] h x f = absurd (true≢false (sym h))
      parent (q ∷ []) h x f =
          let one = f q x.0 in (
            one.0,
            record {
              goes_back = one.1.goes_back;
              expands = ap once_each (append-nil (expand removed older q) ∙ one.1.expands);
              stays = one.1.stays;
              there = one.1.there;
            },
          )
      parent (q ∷ r ∷ ps) h x f = absurd (true≢false (sym h))

  -- ---- chains

  pub bare_chain : (a : Past) → AllByRecursion IsBare a → (ps : List ℕ) → AllByRecursion IsBareLink (chain removed a ps)
  bare_chain [] e ps = tt
  bare_chain (n ∷ older) e [] = tt
  bare_chain (n ∷ older) e (p ∷ ps) =
      elim (cases_Bool (n.id == p)) [
        | inl same ↦ elim (cases_Bool (removed p)) [
          | inl gone ↦
              let its = ap removed (eqb-true n.id p same) ∙ gone in
              subst (AllByRecursion IsBareLink) (sym (chain_gone removed n older p ps same gone))
              (all_join IsBareLink (chain removed older n.parents) (n ∷ []) (bare_chain older e.1 n.parents) ((e.0.none its, one_is_some n.parents (e.0.one its)), tt))
          | inr stays ↦ subst (AllByRecursion IsBareLink) (sym (chain_stays removed n older p ps same stays)) tt
        ]
        | inr other ↦ subst (AllByRecursion IsBareLink) (sym (chain_other removed n older p ps other)) (bare_chain older e.1 (p ∷ ps))
      ]
