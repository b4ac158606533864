-- A line is cut where a search finds a text in it.
use Rattle.std.proofs.Common.{◌≡◌, ◌∙◌, ℕ, zero, suc, ◌+◌, ◌<◌, Some, None, [], ◌∷◌, get_or, length, take, drop, sym, ap, arith, refl}
use Rattle.std.specs.Prelude.{Option, option_map}
use Rattle.std.proofs.lemmas.Bool.{cond-true, cond-false, false_from_ne_true}
use Rattle.memchr.specs.Find.{OccursAt}
use Rattle.plain_model.specs.Parts.{begins}
use Rattle.plain_model.specs.Paths.{Bytes}
use Rattle.mailbox_reader.proofs.Together.{begins_occurs, occurs_begins}
use Rattle.people_laws.specs.Authors.{cut_by}

-- ---- one byte further

further : (k j : ℕ) → suc k + j ≡ suc (k + j)
further k j = omega arith

module _ (text : Bytes) (b : ℕ) (bs : Bytes) where
  occurs_later : (k : ℕ) → OccursAt (b ∷ bs) text (suc k) → OccursAt bs text k
  occurs_later k h = record {
    fits = (let fits = h.fits in omega arith);
    reads = λ j low. ap (λ n. get_or (b ∷ bs) n 0) (sym (further k j)) ∙ h.reads j low;
  }

  occurs_sooner : (k : ℕ) → OccursAt bs text k → OccursAt (b ∷ bs) text (suc k)
  occurs_sooner k h = record {
    fits = (let fits = h.fits in omega arith);
    reads = λ j low. ap (λ n. get_or (b ∷ bs) n 0) (further k j) ∙ h.reads j low;
  }

-- ---- the cut

-- a cut of what follows, with one byte more before it
abbrev onto : ℕ → Option (Bytes × Bytes) → Option (Bytes × Bytes)
onto b parts = option_map (λ p. (b ∷ p.0, p.1)) parts

module _ (text : Bytes) (some : 0 < length text) where
  -- where the text is first
  pub cut_there : (bytes : Bytes) (at : ℕ) → OccursAt bytes text at → ((k : ℕ) → k < at → OccursAt bytes text k → ⊥)
      → cut_by text bytes ≡ Some (take at bytes, drop (at + length text) bytes)
  cut_there [] at here before = absurd (let fits = here.fits in omega (arith, some))
  cut_there (b ∷ bs) zero here before =
      cond-true (begins text (b ∷ bs)) (Some ([], drop (length text) (b ∷ bs))) (onto b (cut_by text bs))
      (occurs_begins text (b ∷ bs) here)
      ∙ (let start : length text ≡ 0 + length text = omega arith in ap (λ n. Some ([], drop n (b ∷ bs))) start)
  cut_there (b ∷ bs) (suc at) here before =
      let other = false_from_ne_true (begins text (b ∷ bs)) (λ e. before zero (omega arith) (begins_occurs text (b ∷ bs) e)) in
      let rest =
      cut_there bs at (occurs_later text b bs at here) (λ k low there. before (suc k) (omega arith) (occurs_sooner text b bs k there)) in
      cond-false (begins text (b ∷ bs)) (Some ([], drop (length text) (b ∷ bs))) (onto b (cut_by text bs)) other
      ∙ ap (onto b) rest
      ∙ ap (λ n. Some (b ∷ take at bs, drop n (b ∷ bs))) (sym (further at (length text)))

  -- where it is nowhere
  pub cut_nowhere : (bytes : Bytes) → ((k : ℕ) → k < length bytes + 1 → OccursAt bytes text k → ⊥)
      → cut_by text bytes ≡ None
  cut_nowhere [] nowhere = refl
  cut_nowhere (b ∷ bs) nowhere =
      let other = false_from_ne_true (begins text (b ∷ bs)) (λ e. nowhere zero (omega arith) (begins_occurs text (b ∷ bs) e)) in
      cond-false (begins text (b ∷ bs)) (Some ([], drop (length text) (b ∷ bs))) (onto b (cut_by text bs)) other
      ∙ ap (onto b)
      (cut_nowhere bs (λ k low there. nowhere (suc k) (omega arith) (occurs_sooner text b bs k there)))
