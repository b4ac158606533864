-- Two automata that go in step until one of them stops: where the first reads or misses something, so does the second.
use Rattle.std.proofs.Common.{◌≡◌, ℕ, zero, suc, ◌+◌, Bool, true, false, cond, [], ◌∷◌, ◌++◌, Result, Ok, Err, refl, sym, ◌∙◌, ap, subst}
use Rattle.std.specs.Prelude.{bytes_eq}
use Rattle.plain_model.specs.Paths.{Bytes}
use Rattle.plain_model.specs.Parts.{is_lf}
use Rattle.line_automaton.specs.Machine.{Next, Automaton, Mode, Machine, Outcome, number_past, answered, moved, feed, run, closed, verdict, begun, outcome}
use Rattle.line_automaton.specs.Machine.Next.{More, Block, Until, Over}
use Rattle.line_automaton.specs.Machine.Mode.{InLine, InBlock, After, InDelimited, Ended}
use Rattle.line_automaton.specs.Machine.Machine.{At, Stopped}
use Rattle.line_automaton.specs.Machine.Outcome.{Reads, Misses}

-- the second machine is where the first does, in a state that goes with its state, unless the first has stopped
abbrev pub IsInStep : {State Why State' Why' : Type 0} → (ℕ → State → State' → Type 0) → Machine State Why → Machine State' Why' → Type 0
IsInStep AreTwins (Stopped n why) o = Unit {0}
IsInStep {State} {Why} {State'} AreTwins (At n mode s) o = (t : State') × (o ≡ At n mode t) × AreTwins n s t

-- the automata, which lines each judges, and which states go together at a line; what goes together at a line does so later
module _ {State Why State' Why' : Type 0} (a : Automaton State Why) (b : Automaton State' Why') (j i : ℕ → Bool)
    (AreTwins : ℕ → State → State' → Type 0)
    (twin_start : AreTwins 1 a.start b.start)
    (twin_step : (n : ℕ) (s : State) (t : State') (line : Bytes) (new : State) (next : Next) → AreTwins n s t → a.step (j n) s line ≡ Ok (new, next)
    → (other : State') × (b.step (i n) t line ≡ Ok (other, next)) × AreTwins n new other)
    (twin_arrived : (n : ℕ) (s : State) (t : State') (bytes : Bytes) → AreTwins n s t → AreTwins n (a.arrived s bytes) (b.arrived t bytes))
    (twin_expected : (n : ℕ) (s : State) (t : State') → AreTwins n s t → a.is_expected s ≡ b.is_expected t)
    (twin_later : (n : ℕ) (s : State) (t : State') → AreTwins n s t → AreTwins (n + 1) s t) where
  -- ---- a byte

  past : (n c : ℕ) (s : State) (t : State') → AreTwins n s t → AreTwins (number_past n c) s t
  past n c s t h = go (is_lf c)
    where
      go : (u : Bool) → AreTwins (cond u (n + 1) n) s t
      go true = twin_later n s t h
      go false = h

  answered_in_step : (n c : ℕ) (line : Bytes) (s : State) (t : State') (r : Result (State × Next) Why) → AreTwins n s t → a.step (j n) s line ≡ r
      → IsInStep AreTwins (moved a n (number_past n c) (answered a n line r)) (moved b n (number_past n c) (answered b n line (b.step (i n) t line)))
  answered_in_step n c line s t (Err why) h e = tt
  answered_in_step n c line s t (Ok (new, More)) h e =
      let x = twin_step n s t line new More h e in
      (x.0, ap (λ r. moved b n (number_past n c) (answered b n line r)) x.1, past n c new x.0 x.2)
  answered_in_step n c line s t (Ok (new, Block zero)) h e =
      let x = twin_step n s t line new (Block zero) h e in
      (b.arrived x.0 [], ap (λ r. moved b n (number_past n c) (answered b n line r)) x.1, past n c (a.arrived new []) (b.arrived x.0 []) (twin_arrived n new x.0 [] x.2))
  answered_in_step n c line s t (Ok (new, Block (suc k))) h e =
      let x = twin_step n s t line new (Block (suc k)) h e in
      (x.0, ap (λ r. moved b n (number_past n c) (answered b n line r)) x.1, past n c new x.0 x.2)
  answered_in_step n c line s t (Ok (new, Until k)) h e =
      let x = twin_step n s t line new (Until k) h e in
      (x.0, ap (λ r. moved b n (number_past n c) (answered b n line r)) x.1, past n c new x.0 x.2)
  answered_in_step n c line s t (Ok (new, Over)) h e =
      let x = twin_step n s t line new Over h e in
      (x.0, ap (λ r. moved b n (number_past n c) (answered b n line r)) x.1, past n c new x.0 x.2)

  feed_at : (n : ℕ) (mode : Mode) (s : State) (t : State') (c : ℕ) → AreTwins n s t → IsInStep AreTwins (feed a j (At n mode s) c) (feed b i (At n mode t) c)
  feed_at n (InLine text) s t c h = go (is_lf c)
    where
      go : (u : Bool) → IsInStep AreTwins
          (moved a n (number_past n c) (cond u (answered a n text (a.step (j n) s text)) (Ok (InLine (text ++ c ∷ []), s))))
          (moved b n (number_past n c) (cond u (answered b n text (b.step (i n) t text)) (Ok (InLine (text ++ c ∷ []), t))))
      go true = answered_in_step n c text s t (a.step (j n) s text) h refl
      go false = (t, refl, past n c s t h)
  feed_at n (InBlock from zero bytes) s t c h = (b.arrived t (bytes ++ c ∷ []), refl, past n c _ _ (twin_arrived n s t (bytes ++ c ∷ []) h))
  feed_at n (InBlock from (suc k) bytes) s t c h = (t, refl, past n c s t h)
  feed_at n (After inside) s t c h = (t, refl, past n c s t h)
  feed_at n (InDelimited from d bytes text) s t c h = go (is_lf c) (bytes_eq text d)
    where
      go : (u v : Bool) → IsInStep AreTwins
          (moved a n (number_past n c) (cond u (Ok (cond v (After false, a.arrived s bytes) (InDelimited from d (bytes ++ text ++ 10 ∷ []) [], s)))
          (Ok (InDelimited from d bytes (text ++ c ∷ []), s))))
          (moved b n (number_past n c) (cond u (Ok (cond v (After false, b.arrived t bytes) (InDelimited from d (bytes ++ text ++ 10 ∷ []) [], t)))
          (Ok (InDelimited from d bytes (text ++ c ∷ []), t))))
      go true true = (b.arrived t bytes, refl, past n c _ _ (twin_arrived n s t bytes h))
      go true false = (t, refl, past n c s t h)
      go false v = (t, refl, past n c s t h)
  feed_at n Ended s t c h = (t, refl, past n c s t h)

  -- ---- runs

  feed_in_step : (m : Machine State Why) (o : Machine State' Why') (c : ℕ) → IsInStep AreTwins m o → IsInStep AreTwins (feed a j m c) (feed b i o c)
  feed_in_step (Stopped n why) o c h = tt
  feed_in_step (At n mode s) o c h = subst (λ q. IsInStep AreTwins (feed a j (At n mode s) c) (feed b i q c)) (sym h.1) (feed_at n mode s h.0 c h.2)

  pub run_in_step : (m : Machine State Why) (o : Machine State' Why') (xs : Bytes) → IsInStep AreTwins m o → IsInStep AreTwins (run a j m xs) (run b i o xs)
  run_in_step m o [] h = h
  run_in_step m o (x ∷ xs) h = run_in_step (feed a j m x) (feed b i o x) xs (feed_in_step m o x h)

  closed_at : (n : ℕ) (mode : Mode) (s : State) (t : State') → AreTwins n s t → IsInStep AreTwins (closed a j (At n mode s)) (closed b i (At n mode t))
  closed_at n (InLine []) s t h = (t, refl, h)
  closed_at n (InLine (x ∷ xs)) s t h = feed_at n (InLine (x ∷ xs)) s t 10 h
  closed_at n (InBlock from k bytes) s t h = (t, refl, h)
  closed_at n (After inside) s t h = (t, refl, h)
  closed_at n (InDelimited from d bytes []) s t h = (t, refl, h)
  closed_at n (InDelimited from d bytes (x ∷ xs)) s t h = feed_at n (InDelimited from d bytes (x ∷ xs)) s t 10 h
  closed_at n Ended s t h = (t, refl, h)

  closed_in_step : (m : Machine State Why) (o : Machine State' Why') → IsInStep AreTwins m o → IsInStep AreTwins (closed a j m) (closed b i o)
  closed_in_step (Stopped n why) o h = tt
  closed_in_step (At n mode s) o h = subst (λ q. IsInStep AreTwins (closed a j (At n mode s)) (closed b i q)) (sym h.1) (closed_at n mode s h.0 h.2)

  pub begun_in_step : IsInStep AreTwins (begun a) (begun b)
  begun_in_step = (b.start, refl, twin_start)

  ended_in_step : (x : Bytes) → IsInStep AreTwins (closed a j (run a j (begun a) x)) (closed b i (run b i (begun b) x))
  ended_in_step x = closed_in_step (run a j (begun a) x) (run b i (begun b) x) (run_in_step (begun a) (begun b) x begun_in_step)

  -- ---- outcomes

  -- read, to a state that goes with the first's at the last line
  abbrev pub ReadsTwin : State → Outcome State' Why' → Type 0
  ReadsTwin s o = (n : ℕ) × (t : State') × (o ≡ Reads t) × AreTwins n s t

  -- the outcome where a line may be expected, by that line's number
  expected_alike : (l : ℕ) (s : State) (t : State') → a.is_expected s ≡ b.is_expected t → (v : Bool) → a.is_expected s ≡ v
      → ◌≡◌ {A = Outcome State' Why'} (cond (b.is_expected t) (Misses l) (Reads t)) (cond v (Misses l) (Reads t))
  expected_alike l s t same v e = ap (λ u. cond {A = Outcome State' Why'} u (Misses l) (Reads t)) (sym same ∙ e)

  reads_at : (n l : ℕ) (q s : State) (t : State') → AreTwins n q t → ◌≡◌ {A = Outcome State Why} (cond (a.is_expected q) (Misses l) (Reads q)) (Reads s)
      → ReadsTwin s (cond (b.is_expected t) (Misses l) (Reads t))
  reads_at n l q s t h e = go (a.is_expected q) refl e
    where
      go : (v : Bool) → a.is_expected q ≡ v → ◌≡◌ {A = Outcome State Why} (cond v (Misses l) (Reads q)) (Reads s) → ReadsTwin s (cond (b.is_expected t) (Misses l) (Reads t))
      go true d e = absurd cc
      go false d e = (n, t, expected_alike l q t (twin_expected n q t h) false d, subst (λ x. AreTwins n x t) (let is : q ≡ s = cc in is) h)

  misses_at : (n l k : ℕ) (q : State) (t : State') → AreTwins n q t → ◌≡◌ {A = Outcome State Why} (cond (a.is_expected q) (Misses l) (Reads q)) (Misses k)
      → ◌≡◌ {A = Outcome State' Why'} (cond (b.is_expected t) (Misses l) (Reads t)) (Misses k)
  misses_at n l k q t h e = go (a.is_expected q) refl e
    where
      go : (v : Bool) → a.is_expected q ≡ v → ◌≡◌ {A = Outcome State Why} (cond v (Misses l) (Reads q)) (Misses k)
          → ◌≡◌ {A = Outcome State' Why'} (cond (b.is_expected t) (Misses l) (Reads t)) (Misses k)
      go true d e = expected_alike l q t (twin_expected n q t h) true d ∙ (let is : l ≡ k = cc in ap (λ i. Misses i) is)
      go false d e = absurd cc

  verdict_reads : (m : Machine State Why) (o : Machine State' Why') (s : State) → IsInStep AreTwins m o → verdict a m ≡ Reads s → ReadsTwin s (verdict b o)
  verdict_reads (Stopped n why) o s h e = absurd cc
  verdict_reads (At n (InBlock from k bytes) q) o s h e = absurd cc
  verdict_reads (At n (InDelimited from d bytes text) q) o s h e = absurd cc
  verdict_reads (At n Ended q) o s h e = (n, h.0, ap (verdict b) h.1, subst (λ x. AreTwins n x h.0) (let is : q ≡ s = cc in is) h.2)
  verdict_reads (At n (InLine text) q) o s h e = subst (λ p. ReadsTwin s (verdict b p)) (sym h.1) (reads_at n n q s h.0 h.2 e)
  verdict_reads (At n (After inside) q) o s h e = subst (λ p. ReadsTwin s (verdict b p)) (sym h.1) (reads_at n (cond inside (n + 1) n) q s h.0 h.2 e)

  verdict_misses : (m : Machine State Why) (o : Machine State' Why') (l : ℕ) → IsInStep AreTwins m o → verdict a m ≡ Misses l → verdict b o ≡ Misses l
  verdict_misses (Stopped n why) o l h e = absurd cc
  verdict_misses (At n (InBlock from k bytes) q) o l h e = ap (verdict b) h.1 ∙ (let is : from ≡ l = cc in ap (λ k. Misses k) is)
  verdict_misses (At n (InDelimited from d bytes text) q) o l h e = ap (verdict b) h.1 ∙ (let is : from ≡ l = cc in ap (λ k. Misses k) is)
  verdict_misses (At n Ended q) o l h e = absurd cc
  verdict_misses (At n (InLine text) q) o l h e = ap (verdict b) h.1 ∙ misses_at n n l q h.0 h.2 e
  verdict_misses (At n (After inside) q) o l h e = ap (verdict b) h.1 ∙ misses_at n (cond inside (n + 1) n) l q h.0 h.2 e

  -- Where the first reads a text, so does the second.
  pub reads_alike : (x : Bytes) (s : State) → outcome a j x ≡ Reads s → ReadsTwin s (outcome b i x)
  reads_alike x s h = verdict_reads (closed a j (run a j (begun a) x)) (closed b i (run b i (begun b) x)) s (ended_in_step x) h

  -- Where the first misses something, so does the second.
  pub misses_alike : (x : Bytes) (n : ℕ) → outcome a j x ≡ Misses n → outcome b i x ≡ Misses n
  misses_alike x n h = verdict_misses (closed a j (run a j (begun a) x)) (closed b i (run b i (begun b) x)) n (ended_in_step x) h
