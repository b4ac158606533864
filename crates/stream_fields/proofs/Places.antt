-- The first place of a byte, as a search finds it and as a text is cut there.
use Rattle.std.proofs.Common.{◌≡◌, ℕ, ◌+◌, true, Bool, cond, not, ◌<◌, ◌≤◌, List, length, take, get_or, Option, Some, None, sym, ap, ◌∙◌, arith, zero-le, ltb, lt-ltb, le-ltb}
use Rattle.std.specs.List.{position, prefix_len}
use Rattle.std.proofs.lemmas.Bool.{cond-true, cond-false, false_from_ne_true}
use Rattle.std.proofs.lemmas.List.Sums.{position_or_len_is}
use Rattle.std.proofs.lemmas.Simd.{run_in_chunk_fails, run_in_chunk_stops}
use Rattle.memchr.specs.Find.{IsFirstByte}

module _ (test : ℕ → Bool) where
  pub first_is : (hay : List ℕ) (r : Option ℕ) → IsFirstByte test hay r → r ≡ position test hay
  first_is hay None h =
      let at = position_or_len_is test hay (length hay) 0 (omega arith) (λ k lt. false_from_ne_true (test (get_or hay k 0)) (h k zero-le lt)) (λ lt. absurd (omega arith)) in
      sym (ap (λ n. cond (ltb n (length hay)) (Some n) None) at ∙ cond-false (ltb (length hay) (length hay)) (Some (length hay)) None (le-ltb (length hay) (length hay) (omega arith)))
  first_is hay (Some k) h =
      let at = position_or_len_is test hay k 0 (omega (arith, h.0.high)) (λ j lt. false_from_ne_true (test (get_or hay j 0)) (h.0.before j zero-le lt)) (λ lt. h.1) in
      sym (ap (λ n. cond (ltb n (length hay)) (Some n) None) at ∙ cond-true (ltb k (length hay)) (Some k) None (lt-ltb k (length hay) h.0.high))

  -- the same, where so many of the first bytes come before it
  pub near_is : (hay : List ℕ) (n run : ℕ) → n ≤ length hay → run ≡ prefix_len (λ b. not (test b)) (take n hay) → run < n → Some run ≡ position test hay
  near_is hay n run room counted short =
      let same : run ≡ 0 + run = omega arith in
      let stops : test (get_or hay run 0) ≡ true = ap (λ k. test (get_or hay k 0)) same ∙ run_in_chunk_stops test hay 0 n run 0 (omega arith) counted short in
      let at = position_or_len_is test hay run 0 (omega arith) (λ j lt. run_in_chunk_fails test hay 0 n run 0 (omega arith) counted j zero-le (omega arith)) (λ lt. stops) in
      sym (ap (λ n. cond (ltb n (length hay)) (Some n) None) at ∙ cond-true (ltb run (length hay)) (Some run) None (lt-ltb run (length hay) (omega arith)))
