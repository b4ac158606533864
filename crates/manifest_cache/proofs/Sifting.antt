-- One kept tree after another, the last used first: which of them stay.
use Rattle.std.proofs.Common.{◌≡◌, ℕ, ◌+◌, ◌<◌, inl, inr, List, [], ◌∷◌, ◌++◌, length, take, drop, get_or, Contains, Some, sym, ap, subst, ◌∙◌, append_assoc}
use Rattle.std.proofs.lemmas.List.{drop_more, take_more}
use Rattle.std.proofs.lemmas.List.Elements.{Contains-get_or}
use Rattle.lru.proofs.CallerLemmas.{Contains-take}
use Rattle.lru.proofs.Splits.{Contains-cons, Contains-head, Contains-tail, all_at, all_both, all_from}
use Rattle.plain_model.specs.declared.event.PlainEvent.{PlainEvent}
use Rattle.plain_model.specs.Histories.{tree}
use Rattle.plain_model.specs.Trees.{Tree}
use Rattle.manifest_cache.specs.Following.{HasSameLine, Turns}
use Rattle.manifest_cache.specs.Kept.{AgreesWith, Kept}
use Rattle.manifest_cache.proofs.Lines.{tree_along, tree_line}

-- the same line makes the same tree
same_tree : (before after : List PlainEvent) (c : ℕ) (t : Tree) → HasSameLine before after c → tree before c ≡ Some t → tree after c ≡ Some t
same_tree before after c t same is = tree_line after c ∙ ap tree_along (sym same) ∙ sym (tree_line before c) ∙ is

-- of the old trees the first m weren't looked at; of the others those that stay are in front of them
pub record Sifts (before after : List PlainEvent) (old now : Kept) (m : ℕ) : Type 0 where
  pub front : Kept
  pub is : now ≡ front ++ take m old
  pub agrees : AgreesWith after front
  pub none_new : (k : ℕ × Tree) → Contains front k → Contains old k
  pub stays : (k : ℕ × Tree) → Contains (drop m old) k → HasSameLine before after k.0 → Contains front k

module _ (before after : List PlainEvent) (old : Kept) (agrees : AgreesWith before old) where
  -- what is there now agrees with the list before
  pub now_agrees : (now : Kept) (m : ℕ) → Sifts before after old now m → AgreesWith before now
  now_agrees now m s =
      let holds : ℕ × Tree → Type 0 = λ k. tree before k.0 ≡ Some k.1 in
      subst (AgreesWith before) (sym s.is) (
      all_both holds s.front (take m old) (all_from holds s.front (λ k h. all_at holds old k agrees (s.none_new k h))) (all_from holds (take m old) (λ k h. all_at holds old k agrees (Contains-take m old k h)))
      )

  module _ (now next : Kept) (m : ℕ) (more : m < length old) (s : Sifts before after old now (m + 1))
      (turns : (k : ℕ × Tree) (others : Kept) → now ≡ others ++ k ∷ [] → Turns before after k others next) where
    abbrev last : ℕ × Tree
    last = get_or old m (0, [])

    parted : now ≡ (s.front ++ take m old) ++ last ∷ []
    parted = s.is ∙ ap (λ (es : Kept). s.front ++ es) (take_more old m (0, []) more) ∙ sym (append_assoc s.front (take m old) (last ∷ []))

    rest : drop m old ≡ last ∷ drop (m + 1) old
    rest = drop_more old m (0, []) more

    is_old : Contains old last
    is_old = Contains-get_or old m (0, []) more

    by_turn : Turns before after last (s.front ++ take m old) next → Sifts before after old next m
    by_turn (inl (same, is)) = record {
      front = last ∷ s.front;
      is = is;
      agrees = (same_tree before after last.0 last.1 same (all_at (λ (k : ℕ × Tree). tree before k.0 ≡ Some k.1) old last agrees is_old), s.agrees);
      none_new = λ k h. elim (Contains-cons last s.front k h) [ inl it ↦ subst (Contains old) it is_old | inr later ↦ s.none_new k later ];
      stays = λ k h k_same. elim (Contains-cons last (drop (m + 1) old) k (subst (λ (es : Kept). Contains es k) rest h)) [
        | inl it ↦ subst (Contains (last ∷ s.front)) it (Contains-head last s.front)
        | inr later ↦ Contains-tail last s.front k (s.stays k later k_same)
      ];
    }
    by_turn (inr (other, is)) = record {
      front = s.front;
      is = is;
      agrees = s.agrees;
      none_new = s.none_new;
      stays = λ k h k_same. elim (Contains-cons last (drop (m + 1) old) k (subst (λ (es : Kept). Contains es k) rest h)) [
        | inl it ↦ absurd (other (subst (λ (e : ℕ × Tree). HasSameLine before after e.0) (sym it) k_same))
        | inr later ↦ s.stays k later k_same
      ];
    }

    pub sifts_more : Sifts before after old next m
    sifts_more = by_turn (turns last (s.front ++ take m old) parted)
