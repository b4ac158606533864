-- What a machine keeps while it reads a text: of a state where a line is expected, of one that waits for a block, and of the
-- last one. A line that is stepped over has no LF.
use Rattle.std.proofs.Common.{◌≡◌, ℕ, zero, suc, ◌+◌, Bool, true, false, cond, not, [], ◌∷◌, ◌++◌, Result, Ok, Err, refl, ap, subst}
use Rattle.std.specs.Prelude.{bytes_eq, ◌==◌}
use Rattle.std.proofs.lemmas.Bool.{and_from}
use Rattle.plain_model.specs.Paths.{Bytes}
use Rattle.plain_model.specs.Parts.{is_lf, has_no_lf}
use Rattle.line_automaton.specs.Machine.{Next, Automaton, Mode, Machine, Outcome, number_past, answered, moved, feed, run, closed, verdict, begun, outcome, all}
use Rattle.line_automaton.specs.Machine.Next.{More, Block, Until, Over}
use Rattle.line_automaton.specs.Machine.Mode.{InLine, InBlock, After, InDelimited, Ended}
use Rattle.line_automaton.specs.Machine.Machine.{At, Stopped}
use Rattle.line_automaton.specs.Machine.Outcome.{Reads, Misses}
use Rattle.line_automaton.proofs.Completion.{has_no_lf_push}

-- What holds of a state, by what follows the line.
abbrev pub IsAfter : {State : Type 0} → (IsReady IsPending IsLast : State → Type 0) → Next → State → Type 0
IsAfter IsReady IsPending IsLast More s = IsReady s
IsAfter IsReady IsPending IsLast (Block k) s = IsPending s
IsAfter IsReady IsPending IsLast (Until k) s = IsPending s
IsAfter IsReady IsPending IsLast Over s = IsLast s

module _ {State Why : Type 0} (a : Automaton State Why) (IsReady IsPending IsLast : State → Type 0)
    (stepped : (s : State) (line : Bytes) (new : State) (next : Next) → IsReady s → has_no_lf line ≡ true → a.step true s line ≡ Ok (new, next) → IsAfter IsReady IsPending IsLast next new)
    (arrived : (s : State) (bytes : Bytes) → IsPending s → IsReady (a.arrived s bytes))
    (ends : (s : State) → IsReady s → a.is_expected s ≡ false → IsLast s) where
  abbrev Keeps : Machine State Why → Type 0
  Keeps (At k (InLine text) s) = IsReady s × (has_no_lf text ≡ true)
  Keeps (At k (InBlock from left bytes) s) = IsPending s
  Keeps (At k (After inside) s) = IsReady s
  Keeps (At k (InDelimited from d bytes text) s) = IsPending s
  Keeps (At k Ended s) = IsLast s
  Keeps (Stopped k why) = Unit {0}

  keeps_answer : (k l : ℕ) (line : Bytes) (s : State) (r : Result (State × Next) Why) → IsReady s → has_no_lf line ≡ true → a.step true s line ≡ r → Keeps (moved a k l (answered a k line r))
  keeps_answer k l line s (Err why) h plain e = tt
  keeps_answer k l line s (Ok (new, More)) h plain e = (stepped s line new More h plain e, refl)
  keeps_answer k l line s (Ok (new, Block zero)) h plain e = arrived new [] (stepped s line new (Block zero) h plain e)
  keeps_answer k l line s (Ok (new, Block (suc m))) h plain e = stepped s line new (Block (suc m)) h plain e
  keeps_answer k l line s (Ok (new, Until m)) h plain e = stepped s line new (Until m) h plain e
  keeps_answer k l line s (Ok (new, Over)) h plain e = stepped s line new Over h plain e

  keeps_byte : (k : ℕ) (mode : Mode) (s : State) (c : ℕ) → Keeps (At k mode s) → Keeps (feed a all (At k mode s) c)
  keeps_byte k (InLine text) s c h = go (is_lf c) refl
    where
      go : (u : Bool) → is_lf c ≡ u → Keeps (moved a k (number_past k c) (cond u (answered a k text (a.step true s text)) (Ok (InLine (text ++ c ∷ []), s))))
      go true e = keeps_answer k (number_past k c) text s (a.step true s text) h.0 h.1 refl
      go false e = (h.0, has_no_lf_push text c h.1 e)
  keeps_byte k (InBlock from zero bytes) s c h = arrived s (bytes ++ c ∷ []) h
  keeps_byte k (InBlock from (suc l) bytes) s c h = h
  keeps_byte k (After inside) s c h = go (is_lf c) refl
    where
      go : (u : Bool) → is_lf c ≡ u → IsReady s × (has_no_lf (cond u [] (c ∷ [])) ≡ true)
      go true e = (h, refl)
      go false e = (h, and_from (not (c == 10)) true (ap not e) refl)
  keeps_byte k (InDelimited from d bytes text) s c h = go (is_lf c) (bytes_eq text d)
    where
      go : (u v : Bool) → Keeps
          (moved a k (number_past k c) (cond u (Ok (cond v (After false, a.arrived s bytes) (InDelimited from d (bytes ++ text ++ 10 ∷ []) [], s)))
          (Ok (InDelimited from d bytes (text ++ c ∷ []), s))))
      go true true = arrived s bytes h
      go true false = h
      go false v = h
  keeps_byte k Ended s c h = h

  keeps_feed : (m : Machine State Why) (c : ℕ) → Keeps m → Keeps (feed a all m c)
  keeps_feed (At k mode s) c h = keeps_byte k mode s c h
  keeps_feed (Stopped k why) c h = tt

  keeps_run : (m : Machine State Why) (xs : Bytes) → Keeps m → Keeps (run a all m xs)
  keeps_run m [] h = h
  keeps_run m (x ∷ xs) h = keeps_run (feed a all m x) xs (keeps_feed m x h)

  -- ---- the end of a text

  -- the last line is stepped over too, where it has no LF
  keeps_closed : (m : Machine State Why) → Keeps m → Keeps (closed a all m)
  keeps_closed (At k (InLine []) s) h = h
  keeps_closed (At k (InLine (b ∷ bs)) s) h = keeps_answer k (k + 1) (b ∷ bs) s (a.step true s (b ∷ bs)) h.0 h.1 refl
  keeps_closed (At k (InBlock from left bytes) s) h = h
  keeps_closed (At k (After inside) s) h = h
  keeps_closed (At k (InDelimited from d bytes []) s) h = h
  keeps_closed (At k (InDelimited from d bytes (b ∷ bs)) s) h = go (bytes_eq (b ∷ bs) d)
    where
      go : (v : Bool) → Keeps (moved a k (k + 1) (Ok (cond v (After false, a.arrived s bytes) (InDelimited from d (bytes ++ (b ∷ bs) ++ 10 ∷ []) [], s))))
      go true = arrived s bytes h
      go false = h
  keeps_closed (At k Ended s) h = h
  keeps_closed (Stopped k why) h = tt

  -- what is read is a last state
  last_is_kept : (m : Machine State Why) (s : State) → Keeps m → verdict a m ≡ Reads s → IsLast s
  last_is_kept (At k (InLine text) t) s h e = go (a.is_expected t) refl e
    where
      go : (b : Bool) → a.is_expected t ≡ b → ◌≡◌ {A = Outcome State Why} (cond b (Misses k) (Reads t)) (Reads s) → IsLast s
      go true is e = absurd cc
      go false is e = let same : t ≡ s = cc in subst IsLast same (ends t h.0 is)
  last_is_kept (At k (InBlock from left bytes) t) s h e = absurd cc
  last_is_kept (At k (After inside) t) s h e = go (a.is_expected t) refl e
    where
      go : (b : Bool) → a.is_expected t ≡ b → ◌≡◌ {A = Outcome State Why} (cond b (Misses (cond inside (k + 1) k)) (Reads t)) (Reads s) → IsLast s
      go true is e = absurd cc
      go false is e = let same : t ≡ s = cc in subst IsLast same (ends t h is)
  last_is_kept (At k (InDelimited from d bytes text) t) s h e = absurd cc
  last_is_kept (At k Ended t) s h e = let same : t ≡ s = cc in subst IsLast same h
  last_is_kept (Stopped k why) s h e = absurd cc

  -- What the start keeps and each step, the state has that a text is read to.
  pub carried : IsReady a.start → (bytes : Bytes) (s : State) → outcome a all bytes ≡ Reads s → IsLast s
  carried h bytes s e = last_is_kept (closed a all (run a all (begun a) bytes)) s (keeps_closed (run a all (begun a) bytes) (keeps_run (begun a) bytes (h, refl))) e
