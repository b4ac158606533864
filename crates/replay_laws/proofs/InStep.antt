-- Two automata that go in step by places: at a line, in a block that follows one, and after everything that is looked at.
-- Where the first reads a text, so does the second.
use Rattle.std.proofs.Common.{◌≡◌, ℕ, zero, suc, ◌+◌, Bool, true, false, cond, [], ◌∷◌, ◌++◌, Result, Ok, Err, refl, sym, ◌∙◌, ap, subst}
use Rattle.std.specs.Prelude.{bytes_eq}
use Rattle.plain_model.specs.Paths.{Bytes}
use Rattle.plain_model.specs.Parts.{is_lf}
use Rattle.line_automaton.specs.Machine.{Next, Automaton, Mode, Machine, Outcome, number_past, answered, moved, feed, run, closed, verdict, begun, outcome, all}
use Rattle.line_automaton.specs.Machine.Next.{More, Block, Until, Over}
use Rattle.line_automaton.specs.Machine.Mode.{InLine, InBlock, After, InDelimited, Ended}
use Rattle.line_automaton.specs.Machine.Machine.{At, Stopped}
use Rattle.line_automaton.specs.Machine.Outcome.{Reads, Misses}

pub data Place : Type 0 where
  AtLine : Place
  AtBlock : Place
  AtEnd : Place

abbrev pub place_after : Next → Place
place_after More = AtLine
place_after (Block n) = AtBlock
place_after (Until n) = AtBlock
place_after Over = AtEnd

abbrev place_of : Mode → Place
place_of (InLine text) = AtLine
place_of (InBlock from k bytes) = AtBlock
place_of (After inside) = AtLine
place_of (InDelimited from d bytes text) = AtBlock
place_of Ended = AtEnd

-- the second machine is where the first does, in a state that goes with its state there, unless the first has stopped
abbrev IsInStep : {State Why State' Why' : Type 0} → (Place → State → State' → Type 0) → Machine State Why → Machine State' Why' → Type 0
IsInStep AreTwins (Stopped n why) o = Unit {0}
IsInStep {State} {Why} {State'} AreTwins (At n mode s) o = (t : State') × (o ≡ At n mode t) × AreTwins (place_of mode) s t

-- the automata, which states go together at each place, and which do where both have read a text
module _ {State Why State' Why' : Type 0} (a : Automaton State Why) (b : Automaton State' Why')
    (AreTwins : Place → State → State' → Type 0) (Ends : State → State' → Type 0)
    (twin_start : AreTwins AtLine a.start b.start)
    (twin_step : (s : State) (t : State') (line : Bytes) (new : State) (next : Next) → AreTwins AtLine s t → a.step true s line ≡ Ok (new, next)
    → (other : State') × (b.step true t line ≡ Ok (other, next)) × AreTwins (place_after next) new other)
    (twin_arrived : (s : State) (t : State') (bytes : Bytes) → AreTwins AtBlock s t → AreTwins AtLine (a.arrived s bytes) (b.arrived t bytes))
    (twin_expected : (s : State) (t : State') → AreTwins AtLine s t → a.is_expected s ≡ b.is_expected t)
    (twin_reads : (s : State) (t : State') → AreTwins AtLine s t → a.is_expected s ≡ false → Ends s t)
    (twin_over : (s : State) (t : State') → AreTwins AtEnd s t → Ends s t) where
  -- ---- a byte

  answered_in_step : (n m : ℕ) (line : Bytes) (s : State) (t : State') (r : Result (State × Next) Why) → AreTwins AtLine s t → a.step true s line ≡ r
      → IsInStep AreTwins (moved a n m (answered a n line r)) (moved b n m (answered b n line (b.step true t line)))
  answered_in_step n m line s t (Err why) h e = tt
  answered_in_step n m line s t (Ok (new, More)) h e =
      let x = twin_step s t line new More h e in
      (x.0, ap (λ r. moved b n m (answered b n line r)) x.1, x.2)
  answered_in_step n m line s t (Ok (new, Block zero)) h e =
      let x = twin_step s t line new (Block zero) h e in
      (b.arrived x.0 [], ap (λ r. moved b n m (answered b n line r)) x.1, twin_arrived new x.0 [] x.2)
  answered_in_step n m line s t (Ok (new, Block (suc k))) h e =
      let x = twin_step s t line new (Block (suc k)) h e in
      (x.0, ap (λ r. moved b n m (answered b n line r)) x.1, x.2)
  answered_in_step n m line s t (Ok (new, Until k)) h e =
      let x = twin_step s t line new (Until k) h e in
      (x.0, ap (λ r. moved b n m (answered b n line r)) x.1, x.2)
  answered_in_step n m line s t (Ok (new, Over)) h e =
      let x = twin_step s t line new Over h e in
      (x.0, ap (λ r. moved b n m (answered b n line r)) x.1, x.2)

  feed_at : (n : ℕ) (mode : Mode) (s : State) (t : State') (c : ℕ) → AreTwins (place_of mode) s t → IsInStep AreTwins (feed a all (At n mode s) c) (feed b all (At n mode t) c)
  feed_at n (InLine text) s t c h = go (is_lf c)
    where
      go : (u : Bool) → IsInStep AreTwins
          (moved a n (number_past n c) (cond u (answered a n text (a.step true s text)) (Ok (InLine (text ++ c ∷ []), s))))
          (moved b n (number_past n c) (cond u (answered b n text (b.step true t text)) (Ok (InLine (text ++ c ∷ []), t))))
      go true = answered_in_step n (number_past n c) text s t (a.step true s text) h refl
      go false = (t, refl, h)
  feed_at n (InBlock from zero bytes) s t c h = (b.arrived t (bytes ++ c ∷ []), refl, twin_arrived s t (bytes ++ c ∷ []) h)
  feed_at n (InBlock from (suc k) bytes) s t c h = (t, refl, h)
  feed_at n (After inside) s t c h = (t, refl, h)
  feed_at n (InDelimited from d bytes text) s t c h = go (is_lf c) (bytes_eq text d)
    where
      go : (u v : Bool) → IsInStep AreTwins
          (moved a n (number_past n c) (cond u (Ok (cond v (After false, a.arrived s bytes) (InDelimited from d (bytes ++ text ++ 10 ∷ []) [], s)))
          (Ok (InDelimited from d bytes (text ++ c ∷ []), s))))
          (moved b n (number_past n c) (cond u (Ok (cond v (After false, b.arrived t bytes) (InDelimited from d (bytes ++ text ++ 10 ∷ []) [], t)))
          (Ok (InDelimited from d bytes (text ++ c ∷ []), t))))
      go true true = (b.arrived t bytes, refl, twin_arrived s t bytes h)
      go true false = (t, refl, h)
      go false v = (t, refl, h)
  feed_at n Ended s t c h = (t, refl, h)

  -- ---- runs

  feed_in_step : (m : Machine State Why) (o : Machine State' Why') (c : ℕ) → IsInStep AreTwins m o → IsInStep AreTwins (feed a all m c) (feed b all o c)
  feed_in_step (Stopped n why) o c h = tt
  feed_in_step (At n mode s) o c h = subst (λ q. IsInStep AreTwins (feed a all (At n mode s) c) (feed b all q c)) (sym h.1) (feed_at n mode s h.0 c h.2)

  run_in_step : (m : Machine State Why) (o : Machine State' Why') (xs : Bytes) → IsInStep AreTwins m o → IsInStep AreTwins (run a all m xs) (run b all o xs)
  run_in_step m o [] h = h
  run_in_step m o (x ∷ xs) h = run_in_step (feed a all m x) (feed b all o x) xs (feed_in_step m o x h)

  closed_at : (n : ℕ) (mode : Mode) (s : State) (t : State') → AreTwins (place_of mode) s t → IsInStep AreTwins (closed a all (At n mode s)) (closed b all (At n mode t))
  closed_at n (InLine []) s t h = (t, refl, h)
  closed_at n (InLine (x ∷ xs)) s t h = feed_at n (InLine (x ∷ xs)) s t 10 h
  closed_at n (InBlock from k bytes) s t h = (t, refl, h)
  closed_at n (After inside) s t h = (t, refl, h)
  closed_at n (InDelimited from d bytes []) s t h = (t, refl, h)
  closed_at n (InDelimited from d bytes (x ∷ xs)) s t h = feed_at n (InDelimited from d bytes (x ∷ xs)) s t 10 h
  closed_at n Ended s t h = (t, refl, h)

  closed_in_step : (m : Machine State Why) (o : Machine State' Why') → IsInStep AreTwins m o → IsInStep AreTwins (closed a all m) (closed b all o)
  closed_in_step (Stopped n why) o h = tt
  closed_in_step (At n mode s) o h = subst (λ q. IsInStep AreTwins (closed a all (At n mode s)) (closed b all q)) (sym h.1) (closed_at n mode s h.0 h.2)

  ended_in_step : (x : Bytes) → IsInStep AreTwins (closed a all (run a all (begun a) x)) (closed b all (run b all (begun b) x))
  ended_in_step x = closed_in_step (run a all (begun a) x) (run b all (begun b) x) (run_in_step (begun a) (begun b) x (b.start, refl, twin_start))

  -- ---- outcomes

  -- read, to a state that goes with the first's
  abbrev pub ReadsAlike : State → Outcome State' Why' → Type 0
  ReadsAlike s o = (t : State') × (o ≡ Reads t) × Ends s t

  reads_at : (l : ℕ) (q s : State) (t : State') → AreTwins AtLine q t → ◌≡◌ {A = Outcome State Why} (cond (a.is_expected q) (Misses l) (Reads q)) (Reads s)
      → ReadsAlike s (cond (b.is_expected t) (Misses l) (Reads t))
  reads_at l q s t h e = go (a.is_expected q) refl e
    where
      go : (v : Bool) → a.is_expected q ≡ v → ◌≡◌ {A = Outcome State Why} (cond v (Misses l) (Reads q)) (Reads s) → ReadsAlike s (cond (b.is_expected t) (Misses l) (Reads t))
      go true d e = absurd cc
      go false d e = (
        t,
        ap (λ u. cond {A = Outcome State' Why'} u (Misses l) (Reads t)) (sym (twin_expected q t h) ∙ d),
        subst (λ x. Ends x t) (let is : q ≡ s = cc in is) (twin_reads q t h d),
      )

  verdict_reads : (m : Machine State Why) (o : Machine State' Why') (s : State) → IsInStep AreTwins m o → verdict a m ≡ Reads s → ReadsAlike s (verdict b o)
  verdict_reads (Stopped n why) o s h e = absurd cc
  verdict_reads (At n (InBlock from k bytes) q) o s h e = absurd cc
  verdict_reads (At n (InDelimited from d bytes text) q) o s h e = absurd cc
  verdict_reads (At n Ended q) o s h e = (h.0, ap (verdict b) h.1, subst (λ x. Ends x h.0) (let is : q ≡ s = cc in is) (twin_over q h.0 h.2))
  verdict_reads (At n (InLine text) q) o s h e = subst (λ p. ReadsAlike s (verdict b p)) (sym h.1) (reads_at n q s h.0 h.2 e)
  verdict_reads (At n (After inside) q) o s h e = subst (λ p. ReadsAlike s (verdict b p)) (sym h.1) (reads_at (cond inside (n + 1) n) q s h.0 h.2 e)

  -- Where the first reads a text, so does the second.
  pub reads_alike : (x : Bytes) (s : State) → outcome a all x ≡ Reads s → ReadsAlike s (outcome b all x)
  reads_alike x s h = verdict_reads (closed a all (run a all (begun a) x)) (closed b all (run b all (begun b) x)) s (ended_in_step x) h
