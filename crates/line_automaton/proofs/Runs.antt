-- Runs over the bytes of a text: pieces, what stays, and whether a line has begun.
use Rattle.std.proofs.Common.{◌≡◌, ℕ, zero, suc, Bool, true, false, cond, not, [], ◌∷◌, ◌++◌, Result, Ok, Err, refl, sym, ap, subst, inl, inr, ◌⊎◌}
use Rattle.std.specs.Prelude.{bytes_eq}
use Rattle.plain_model.specs.Paths.{Bytes}
use Rattle.plain_model.specs.Parts.{is_lf}
use Rattle.line_automaton.specs.Machine.{Next, Automaton, Machine, number_past, answered, compared, moved, feed, run, closed, verdict, outcome_from}
use Rattle.line_automaton.specs.Machine.Next.{More, Block, Until, Over}
use Rattle.line_automaton.specs.Machine.Mode.{InLine, InBlock, After, InDelimited, Ended}
use Rattle.line_automaton.specs.Machine.Machine.{At, Stopped}
use Rattle.line_automaton.specs.Machine.Outcome.{Reads, Misses}

-- ---- whether a line has begun

-- a line may have begun, so that an LF would end it; in a block it may be either way
abbrev pub MayBeInside : {State Why : Type 0} → Machine State Why → Type 0
MayBeInside (At n (InLine []) s) = ⊥
MayBeInside (At n (InLine (b ∷ bs)) s) = Unit {0}
MayBeInside (At n (InDelimited from d bytes []) s) = ⊥
MayBeInside (At n (InDelimited from d bytes (b ∷ bs)) s) = Unit {0}
MayBeInside (At n (After true) s) = Unit {0}
MayBeInside (At n (After false) s) = ⊥
MayBeInside (At n (InBlock from k bytes) s) = Unit {0}
MayBeInside (At n Ended s) = Unit {0}
MayBeInside (Stopped n why) = Unit {0}

-- it may be that no line has begun
abbrev pub MayBeBetween : {State Why : Type 0} → Machine State Why → Type 0
MayBeBetween (At n (InLine []) s) = Unit {0}
MayBeBetween (At n (InLine (b ∷ bs)) s) = ⊥
MayBeBetween (At n (InDelimited from d bytes []) s) = Unit {0}
MayBeBetween (At n (InDelimited from d bytes (b ∷ bs)) s) = ⊥
MayBeBetween (At n (After true) s) = ⊥
MayBeBetween (At n (After false) s) = Unit {0}
MayBeBetween (At n (InBlock from k bytes) s) = Unit {0}
MayBeBetween (At n Ended s) = Unit {0}
MayBeBetween (Stopped n why) = Unit {0}

-- the flag may be right
abbrev pub HasFlag : {State Why : Type 0} → Bool → Machine State Why → Type 0
HasFlag true m = MayBeInside m
HasFlag false m = MayBeBetween m

module _ {State Why : Type 0} (a : Automaton State Why) where
  -- ---- pieces

  -- two pieces, one after the other
  pub run_append : (j : ℕ → Bool) (m : Machine State Why) (xs ys : Bytes) → run a j m (xs ++ ys) ≡ run a j (run a j m xs) ys
  run_append j m [] ys = refl
  run_append j m (x ∷ xs) ys = run_append j (feed a j m x) xs ys

  -- a machine that has stopped stays so
  pub stays : (j : ℕ → Bool) (n : ℕ) (why : Why) (xs : Bytes) → run a j (Stopped n why) xs ≡ Stopped n why
  stays j n why [] = refl
  stays j n why (x ∷ xs) = stays j n why xs

  -- one that is over stays so
  pub over : (j : ℕ → Bool) (n : ℕ) (s : State) (xs : Bytes) → outcome_from a j (At n Ended s) xs ≡ Reads s
  over j n s [] = refl
  over j n s (x ∷ xs) = over j (number_past n x) s xs

  -- ---- a byte of a line

  line_begun : (n : ℕ) (text : Bytes) (b : ℕ) (s : State) → MayBeInside {State = State} {Why = Why} (At n (InLine (text ++ b ∷ [])) s)
  line_begun n [] b s = tt
  line_begun n (x ∷ xs) b s = tt

  delimited_begun : (n from : ℕ) (d bytes text : Bytes) (b : ℕ) (s : State) → MayBeInside {State = State} {Why = Why} (At n (InDelimited from d bytes (text ++ b ∷ [])) s)
  delimited_begun n from d bytes [] b s = tt
  delimited_begun n from d bytes (x ∷ xs) b s = tt

  -- after any byte but LF a line has begun
  pub feed_inside : (j : ℕ → Bool) (m : Machine State Why) (b : ℕ) → is_lf b ≡ false → MayBeInside (feed a j m b)
  feed_inside j (Stopped n why) b e = tt
  feed_inside j (At n (InLine text) s) b e =
      subst (λ t. MayBeInside (moved a n (number_past n b) (cond t (answered a n text (a.step (j n) s text)) (Ok (InLine (text ++ b ∷ []), s)))))
      (sym e) (line_begun (number_past n b) text b s)
  feed_inside j (At n (InBlock from zero bytes) s) b e =
      subst (λ t. MayBeInside {State = State} {Why = Why} (At (number_past n b) (After (not t)) (a.arrived s (bytes ++ b ∷ [])))) (sym e) tt
  feed_inside j (At n (InBlock from (suc k) bytes) s) b e = tt
  feed_inside j (At n (After inside) s) b e =
      subst (λ t. MayBeInside {State = State} {Why = Why} (At (number_past n b) (InLine (cond t [] (b ∷ []))) s)) (sym e) tt
  feed_inside j (At n (InDelimited from d bytes text) s) b e =
      subst (λ t. MayBeInside (moved a n (number_past n b) (cond t (Ok (compared a from d bytes text s)) (Ok (InDelimited from d bytes (text ++ b ∷ []), s)))))
      (sym e) (delimited_begun (number_past n b) from d bytes text b s)
  feed_inside j (At n Ended s) b e = tt

  -- ---- an LF

  pub answered_between : (n m : ℕ) (text : Bytes) (r : Result (State × Next) Why) → MayBeBetween (moved a n m (answered a n text r))
  answered_between n m text (Err why) = tt
  answered_between n m text (Ok (s, More)) = tt
  answered_between n m text (Ok (s, Block zero)) = tt
  answered_between n m text (Ok (s, Block (suc k))) = tt
  answered_between n m text (Ok (s, Until k)) = tt
  answered_between n m text (Ok (s, Over)) = tt

  pub compared_between : (n m from : ℕ) (d bytes text : Bytes) (s : State) → MayBeBetween (moved a n m (Ok (compared a from d bytes text s)))
  compared_between n m from d bytes text s = go (bytes_eq text d)
    where
      go : (t : Bool) → MayBeBetween (moved a n m (Ok (cond t (After false, a.arrived s bytes) (InDelimited from d (bytes ++ text ++ 10 ∷ []) [], s))))
      go true = tt
      go false = tt

  -- after an LF no line has begun
  pub feed_between : (j : ℕ → Bool) (m : Machine State Why) (b : ℕ) → is_lf b ≡ true → MayBeBetween (feed a j m b)
  feed_between j (Stopped n why) b e = tt
  feed_between j (At n (InLine text) s) b e =
      subst (λ t. MayBeBetween (moved a n (number_past n b) (cond t (answered a n text (a.step (j n) s text)) (Ok (InLine (text ++ b ∷ []), s)))))
      (sym e) (answered_between n (number_past n b) text (a.step (j n) s text))
  feed_between j (At n (InBlock from zero bytes) s) b e =
      subst (λ t. MayBeBetween {State = State} {Why = Why} (At (number_past n b) (After (not t)) (a.arrived s (bytes ++ b ∷ [])))) (sym e) tt
  feed_between j (At n (InBlock from (suc k) bytes) s) b e = tt
  feed_between j (At n (After inside) s) b e =
      subst (λ t. MayBeBetween {State = State} {Why = Why} (At (number_past n b) (InLine (cond t [] (b ∷ []))) s)) (sym e) tt
  feed_between j (At n (InDelimited from d bytes text) s) b e =
      subst (λ t. MayBeBetween (moved a n (number_past n b) (cond t (Ok (compared a from d bytes text s)) (Ok (InDelimited from d bytes (text ++ b ∷ []), s)))))
      (sym e) (compared_between n (number_past n b) from d bytes text s)
  feed_between j (At n Ended s) b e = tt

  -- ---- the end of a text

  -- where no line has begun, the end changes nothing
  pub closed_between : (j : ℕ → Bool) (m : Machine State Why) → MayBeBetween m → closed a j m ≡ m
  closed_between j (Stopped n why) h = refl
  closed_between j (At n (InLine []) s) h = refl
  closed_between j (At n (InLine (b ∷ bs)) s) h = absurd h
  closed_between j (At n (InDelimited from d bytes []) s) h = refl
  closed_between j (At n (InDelimited from d bytes (b ∷ bs)) s) h = absurd h
  closed_between j (At n (InBlock from k bytes) s) h = refl
  closed_between j (At n (After true) s) h = absurd h
  closed_between j (At n (After false) s) h = refl
  closed_between j (At n Ended s) h = refl

  -- a last line that has begun may have its LF
  line_closed : (j : ℕ → Bool) (m : Machine State Why) → verdict a (feed a j m 10) ≡ verdict a (closed a j (feed a j m 10))
  line_closed j m = ap (verdict a) (sym (closed_between j (feed a j m 10) (feed_between j m 10 refl)))

  -- An LF after a last line changes nothing, but in a block that would take it.
  pub put_after : (j : ℕ → Bool) (m : Machine State Why) → MayBeInside m
      → (outcome_from a j m [] ≡ outcome_from a j m (10 ∷ []))
      ⊎ ((from : ℕ) × (outcome_from a j m [] ≡ Misses from) × ((n : ℕ) (why : Why) → feed a j m 10 ≡ Stopped n why → ⊥))
  put_after j (Stopped n why) h = inl refl
  put_after j (At n (InLine []) s) h = absurd h
  put_after j (At n (InLine (b ∷ bs)) s) h = inl (line_closed j (At n (InLine (b ∷ bs)) s))
  put_after j (At n (InDelimited from d bytes []) s) h = absurd h
  put_after j (At n (InDelimited from d bytes (b ∷ bs)) s) h = inl (line_closed j (At n (InDelimited from d bytes (b ∷ bs)) s))
  put_after j (At n (After true) s) h = inl refl
  put_after j (At n (After false) s) h = absurd h
  put_after j (At n (InBlock from zero bytes) s) h = inr (from, refl, λ k why e. absurd cc)
  put_after j (At n (InBlock from (suc k) bytes) s) h = inr (from, refl, λ k why e. absurd cc)
  put_after j (At n Ended s) h = inl refl
