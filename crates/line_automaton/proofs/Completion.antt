-- What is read through a line can be completed to a text of the grammar's form.
use Rattle.std.proofs.Common.{◌≡◌, ℕ, zero, suc, ◌+◌, ◌≤◌, Bool, true, false, cond, not, [], ◌∷◌, ◌++◌, drop, Result, Ok, Err, IsTrue, refl, sym, ◌∙◌, ap, subst, inl, inr, arith, append_assoc, append-nil}
use Rattle.std.specs.Prelude.{bytes_eq}
use Rattle.std.proofs.lemmas.Bool.{and_parts, and_from, not-true}
use Rattle.plain_model.specs.Paths.{Bytes}
use Rattle.plain_model.specs.Parts.{is_lf, has_no_lf}
use Rattle.plain_model.proofs.Words.{bytes_eq_same}
use Rattle.line_automaton.specs.Machine.{Next, Automaton, Machine, number_past, answered, compared, moved, feed, run, closed, verdict, begun, outcome_from, all, none, up_to, through, HaveSameLines, IsCleanThrough, Completes}
use Rattle.line_automaton.specs.Machine.Next.{More, Block, Until, Over}
use Rattle.line_automaton.specs.Machine.Mode.{InLine, InBlock, After, InDelimited, Ended}
use Rattle.line_automaton.specs.Machine.Machine.{At, Stopped}
use Rattle.line_automaton.specs.Machine.Outcome.{Reads}
use Rattle.line_automaton.proofs.Runs.{MayBeBetween, run_append}
use Rattle.line_automaton.proofs.Numbers.{AtLeast, IsStopped, run_least, alike_from, closed_alike}
use Rattle.line_automaton.proofs.FirstLines.{has_lines, through_again}
use Rattle.line_automaton.proofs.Refusals.{first_lines_between, first_lines_least, judged_through}

-- ---- lines and delimiters hold no LF

-- the line or the delimiter of a machine holds no LF
abbrev pub HoldsNoLf : {State Why : Type 0} → Machine State Why → Type 0
HoldsNoLf (At n (InLine text) s) = IsTrue (has_no_lf text)
HoldsNoLf (At n (InDelimited from d bytes text) s) = IsTrue (has_no_lf d)
HoldsNoLf (At n (InBlock from k bytes) s) = Unit {0}
HoldsNoLf (At n (After inside) s) = Unit {0}
HoldsNoLf (At n Ended s) = Unit {0}
HoldsNoLf (Stopped n why) = Unit {0}

pub has_no_lf_push : (text : Bytes) (b : ℕ) → has_no_lf text ≡ true → is_lf b ≡ false → has_no_lf (text ++ b ∷ []) ≡ true
has_no_lf_push [] b h e = and_from (not (is_lf b)) true (ap not e) refl
has_no_lf_push (x ∷ xs) b h e =
    let p = and_parts (not (is_lf x)) (has_no_lf xs) h in
    and_from (not (is_lf x)) (has_no_lf (xs ++ b ∷ [])) p.0 (has_no_lf_push xs b p.1 e)

has_no_lf_drop : (k : ℕ) (text : Bytes) → has_no_lf text ≡ true → has_no_lf (drop k text) ≡ true
has_no_lf_drop zero text h = h
has_no_lf_drop (suc k) [] h = refl
has_no_lf_drop (suc k) (x ∷ xs) h = has_no_lf_drop k xs (and_parts (not (is_lf x)) (has_no_lf xs) h).1

-- a block of so many bytes and one
abbrev filling : ℕ → Bytes
filling zero = 120 ∷ []
filling (suc k) = 120 ∷ filling k

module _ {State Why : Type 0} (a : Automaton State Why) where
  feed_no_lf : (j : ℕ → Bool) (m : Machine State Why) (b : ℕ) → HoldsNoLf m → HoldsNoLf (feed a j m b)
  feed_no_lf j (Stopped n why) b h = tt
  feed_no_lf j (At n (InLine text) s) b h = go (is_lf b) refl
    where
      entered_no_lf : (r : Result (State × Next) Why) → HoldsNoLf (moved a n (number_past n b) (answered a n text r))
      entered_no_lf (Err why) = tt
      entered_no_lf (Ok (new, More)) = refl
      entered_no_lf (Ok (new, Block zero)) = tt
      entered_no_lf (Ok (new, Block (suc k))) = tt
      entered_no_lf (Ok (new, Until k)) = has_no_lf_drop k text h
      entered_no_lf (Ok (new, Over)) = tt

      go : (t : Bool) → is_lf b ≡ t
          → HoldsNoLf (moved a n (number_past n b) (cond t (answered a n text (a.step (j n) s text)) (Ok (InLine (text ++ b ∷ []), s))))
      go true e = entered_no_lf (a.step (j n) s text)
      go false e = has_no_lf_push text b h e
  feed_no_lf j (At n (InBlock from zero bytes) s) b h = tt
  feed_no_lf j (At n (InBlock from (suc k) bytes) s) b h = tt
  feed_no_lf j (At n (After inside) s) b h = go (is_lf b) refl
    where
      go : (t : Bool) → is_lf b ≡ t → has_no_lf (cond t [] (b ∷ [])) ≡ true
      go true e = refl
      go false e = has_no_lf_push [] b refl e
  feed_no_lf j (At n (InDelimited from d bytes text) s) b h = go (is_lf b) (bytes_eq text d)
    where
      go : (t u : Bool) → HoldsNoLf (moved a n (number_past n b)
          (cond t (Ok (cond u (After false, a.arrived s bytes) (InDelimited from d (bytes ++ text ++ 10 ∷ []) [], s)))
          (Ok (InDelimited from d bytes (text ++ b ∷ []), s))))
      go true true = tt
      go true false = h
      go false u = h
  feed_no_lf j (At n Ended s) b h = tt

  run_no_lf : (j : ℕ → Bool) (m : Machine State Why) (xs : Bytes) → HoldsNoLf m → HoldsNoLf (run a j m xs)
  run_no_lf j m [] h = h
  run_no_lf j m (x ∷ xs) h = run_no_lf j (feed a j m x) xs (feed_no_lf j m x h)

  -- ---- the end of a block

  filled : (k n from : ℕ) (bytes : Bytes) (s : State) → (new : State) × (run a none (At n (InBlock from k bytes) s) (filling k) ≡ At n (After true) new)
  filled zero n from bytes s = (_, refl)
  filled (suc k) n from bytes s = filled k n from (bytes ++ 120 ∷ []) s

  delimited : (d text whole : Bytes) (n from : ℕ) (bytes : Bytes) (s : State) → whole ≡ text ++ d → has_no_lf d ≡ true
      → run a none (At n (InDelimited from whole bytes text) s) (d ++ 10 ∷ []) ≡ At (n + 1) (After false) (a.arrived s bytes)
  delimited [] text whole n from bytes s e h =
      ap (λ t. moved a n (n + 1) (Ok (cond t (After false, a.arrived s bytes) (InDelimited from whole (bytes ++ text ++ 10 ∷ []) [], s))))
      (ap (bytes_eq text) (e ∙ append-nil text) ∙ bytes_eq_same text)
  delimited (x ∷ d) text whole n from bytes s e h =
      let p = and_parts (not (is_lf x)) (has_no_lf d) h in
      let other : is_lf x ≡ false = not-true (is_lf x) p.0 in
      ap (λ m. run a none m (d ++ 10 ∷ []))
      (λ i. moved a n (cond (other i) (n + 1) n)
      (cond (other i) (Ok (compared a from whole bytes text s)) (Ok (InDelimited from whole bytes (text ++ x ∷ []), s))))
      ∙ delimited d (text ++ x ∷ []) whole n from bytes s (e ∙ sym (append_assoc text (x ∷ []) d)) p.1

  -- ---- the end of a text

  module _ (ends : Completes a) where
    -- some bytes lead on from the machine to an end
    abbrev Leads : Machine State Why → Type 0
    Leads m = (more : Bytes) × (last : State) × (outcome_from a none m more ≡ Reads last)

    -- the bytes of a block, an LF, and lines to an end
    leads_on : (m : Machine State Why) (xs : Bytes) (n : ℕ) (inside : Bool) (s : State)
        → run a none m xs ≡ At n (After inside) s → Leads m
    leads_on m xs n inside s e =
        let more = 10 ∷ ends.complete s in
        let r = ends.completes (n + 1) s in
        (xs ++ more, r.0, ap (λ q. verdict a (closed a none q)) (run_append a none m xs more ∙ ap (λ q. run a none q more) e) ∙ r.1)

    completed : (m : Machine State Why) → MayBeBetween m → HoldsNoLf m → (IsStopped m → ⊥) → Leads m
    completed (Stopped n why) h p alive = absurd (alive (n, why, refl))
    completed (At n (InLine []) s) h p alive = let r = ends.completes n s in (ends.complete s, r.0, r.1)
    completed (At n (InLine (x ∷ xs)) s) h p alive = absurd h
    completed (At n (After inside) s) h p alive = leads_on (At n (After inside) s) [] n inside s refl
    completed (At n (InBlock from k bytes) s) h p alive =
        let f = filled k n from bytes s in
        leads_on (At n (InBlock from k bytes) s) (filling k) n true f.0 f.1
    completed (At n (InDelimited from d bytes []) s) h p alive =
        leads_on (At n (InDelimited from d bytes []) s) (d ++ 10 ∷ []) (n + 1) false (a.arrived s bytes) (delimited d [] d n from bytes s refl p)
    completed (At n (InDelimited from d bytes (x ∷ xs)) s) h p alive = absurd h
    completed (At n Ended s) h p alive = ([], s, refl)

    up_to_from : (n k : ℕ) → suc n ≤ k → up_to n k ≡ false
    up_to_from n k h = grind arith

    -- What is read through line n can be completed to a text that is clean through line n.
    pub completed_through : (x : Bytes) (n : ℕ) → has_lines false n x ≡ true → (IsStopped (run a all (begun a) (through false n x)) → ⊥)
        → (other : Bytes) × HaveSameLines n x other × IsCleanThrough a n other
    completed_through x n full alive =
        let first = through false n x in
        let m = run a all (begun a) first in
        let c = completed m (first_lines_between a all n x) (run_no_lf all (begun a) first refl) alive in
        let late : AtLeast (1 + n) m = elim (first_lines_least a all false n 1 (begun a) x full (omega arith)) [ inl l ↦ l | inr stop ↦ absurd (alive stop) ] in
        let later : AtLeast (suc n) m = subst (λ i. AtLeast i m) (omega arith) late in
        let formal : run a (up_to n) m c.0 ≡ run a none m c.0 = alike_from a (up_to n) none (suc n) (up_to_from n) m c.0 later in
        let joined : run a (up_to n) (begun a) (first ++ c.0) ≡ run a none m c.0 =
        run_append a (up_to n) (begun a) first c.0 ∙ ap (λ q. run a (up_to n) q c.0) (judged_through a n x) ∙ formal in
        let same_end : closed a (up_to n) (run a none m c.0) ≡ closed a none (run a none m c.0) =
        closed_alike a (up_to n) none (suc n) (up_to_from n) (run a none m c.0) (run_least a none (suc n) m c.0 later) in (
          first ++ c.0,
          sym (through_again false n x c.0 full),
          (c.1, ap (λ q. verdict a (closed a (up_to n) q)) joined ∙ ap (verdict a) same_end ∙ c.2),
        )
