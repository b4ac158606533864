-- The number of the line that a machine reads, and readings that judge some lines alike.
use Rattle.std.proofs.Common.{◌≡◌, ℕ, zero, suc, ◌+◌, ◌≤◌, ◌<◌, Bool, true, false, cond, [], ◌∷◌, ◌++◌, Result, Ok, Err, refl, sym, ◌∙◌, ap, subst, inl, inr, ◌⊎◌, arith}
use Rattle.std.proofs.lemmas.Bool.{cond_both}
use Rattle.plain_model.specs.Paths.{Bytes}
use Rattle.plain_model.specs.Parts.{is_lf}
use Rattle.line_automaton.specs.Machine.{Automaton, Mode, Machine, number_past, answered, compared, act, moved, feed, run, closed, through}
use Rattle.line_automaton.specs.Machine.Mode.{InLine, InBlock, After, InDelimited, Ended}
use Rattle.line_automaton.specs.Machine.Machine.{At, Stopped}
use Rattle.line_automaton.proofs.Runs.{stays}

-- the line that is read is at most k, or the one that is refused is before k
abbrev pub AtMost : {State Why : Type 0} → ℕ → Machine State Why → Type 0
AtMost k (At n mode s) = n ≤ k
AtMost k (Stopped n why) = n < k

-- the line that is read or refused is k or a later one
abbrev pub AtLeast : {State Why : Type 0} → ℕ → Machine State Why → Type 0
AtLeast k (At n mode s) = k ≤ n
AtLeast k (Stopped n why) = k ≤ n

abbrev pub IsStopped : {State Why : Type 0} → Machine State Why → Type 0
IsStopped {State} {Why} m = (l : ℕ) × (why : Why) × (m ≡ Stopped l why)

pub number_past_least : (n b : ℕ) → n ≤ number_past n b
number_past_least n b = go (is_lf b)
  where
    go : (t : Bool) → n ≤ cond t (n + 1) n
    go true = omega arith
    go false = omega arith

module _ {State Why : Type 0} (a : Automaton State Why) where
  -- ---- numbers don't fall

  moved_least : (n m k : ℕ) (r : Result (Mode × State) Why) → k ≤ n → k ≤ m → AtLeast k (moved a n m r)
  moved_least n m k (Ok r) h g = g
  moved_least n m k (Err why) h g = h

  pub feed_least : (j : ℕ → Bool) (k : ℕ) (m : Machine State Why) (b : ℕ) → AtLeast k m → AtLeast k (feed a j m b)
  feed_least j k (At n mode s) b h = moved_least n (number_past n b) k (act a (j n) n mode s b) h (let p = number_past_least n b in omega arith)
  feed_least j k (Stopped n why) b h = h

  pub run_least : (j : ℕ → Bool) (k : ℕ) (m : Machine State Why) (xs : Bytes) → AtLeast k m → AtLeast k (run a j m xs)
  run_least j k m [] h = h
  run_least j k m (x ∷ xs) h = run_least j k (feed a j m x) xs (feed_least j k m x h)

  pub closed_least : (j : ℕ → Bool) (k : ℕ) (m : Machine State Why) → AtLeast k m → AtLeast k (closed a j m)
  closed_least j k (Stopped n why) h = h
  closed_least j k (At n (InLine []) s) h = h
  closed_least j k (At n (InLine (b ∷ bs)) s) h = feed_least j k (At n (InLine (b ∷ bs)) s) 10 h
  closed_least j k (At n (InDelimited from d bytes []) s) h = h
  closed_least j k (At n (InDelimited from d bytes (b ∷ bs)) s) h = feed_least j k (At n (InDelimited from d bytes (b ∷ bs)) s) 10 h
  closed_least j k (At n (InBlock from l bytes) s) h = h
  closed_least j k (At n (After inside) s) h = h
  closed_least j k (At n Ended s) h = h

  -- ---- an LF is one line more, and no other byte is

  -- after an LF
  pub feed_lf_most : (j : ℕ → Bool) (k : ℕ) (m : Machine State Why) (b : ℕ) → is_lf b ≡ true → AtMost k m → AtMost (suc k) (feed a j m b)
  feed_lf_most j k (At n mode s) b e h = go (act a (j n) n mode s b)
    where
      go : (r : Result (Mode × State) Why) → AtMost (suc k) (moved a n (number_past n b) r)
      go (Ok r) = subst (λ t. cond t (n + 1) n ≤ suc k) (sym e) (omega arith)
      go (Err why) = omega arith
  feed_lf_most j k (Stopped n why) b e h = omega arith

  pub feed_lf_least : (j : ℕ → Bool) (k : ℕ) (m : Machine State Why) (b : ℕ) → is_lf b ≡ true → AtLeast k m
      → AtLeast (suc k) (feed a j m b) ⊎ IsStopped (feed a j m b)
  feed_lf_least j k (Stopped l why) b e h = inr (l, why, refl)
  feed_lf_least j k (At l mode s) b e h = go (act a (j l) l mode s b)
    where
      go : (r : Result (Mode × State) Why) → AtLeast (suc k) (moved a l (number_past l b) r) ⊎ IsStopped (moved a l (number_past l b) r)
      go (Ok r) = inl (subst (λ t. suc k ≤ cond t (l + 1) l) (sym e) (omega arith))
      go (Err why) = inr (l, why, refl)

  -- only an LF is refused
  act_ok : (judge : Bool) (n : ℕ) (mode : Mode) (s : State) (b : ℕ) → is_lf b ≡ false → (r : Mode × State) × (act a judge n mode s b ≡ Ok r)
  act_ok judge n (InLine text) s b e = (_, ap (λ t. cond t (answered a n text (a.step judge s text)) (Ok (InLine (text ++ b ∷ []), s))) e)
  act_ok judge n (InBlock from zero bytes) s b e = (_, refl)
  act_ok judge n (InBlock from (suc k) bytes) s b e = (_, refl)
  act_ok judge n (After inside) s b e = (_, refl)
  act_ok judge n (InDelimited from d bytes text) s b e =
      (_, ap (λ t. cond t (Ok (compared a from d bytes text s)) (Ok (InDelimited from d bytes (text ++ b ∷ []), s))) e)
  act_ok judge n Ended s b e = (_, refl)

  -- after any other byte
  pub feed_most : (j : ℕ → Bool) (k : ℕ) (m : Machine State Why) (b : ℕ) → is_lf b ≡ false → AtMost k m → AtMost k (feed a j m b)
  feed_most j k (At n mode s) b e h =
      let r = act_ok (j n) n mode s b e in
      subst (λ q. AtMost k (moved a n (number_past n b) q)) (sym r.1) (subst (λ t. cond t (n + 1) n ≤ k) (sym e) h)
  feed_most j k (Stopped n why) b e h = h

  -- ---- two readings that judge some lines alike read them alike

  feed_alike : (j i : ℕ → Bool) (n : ℕ) (mode : Mode) (s : State) (b : ℕ) → j n ≡ i n → feed a j (At n mode s) b ≡ feed a i (At n mode s) b
  feed_alike j i n mode s b e = ap (λ t. moved a n (number_past n b) (act a t n mode s b)) e

  -- the lines below k
  pub alike_below : (j i : ℕ → Bool) (k : ℕ) → ((n : ℕ) → n < k → j n ≡ i n)
      → (inside : Bool) (lines at : ℕ) (m : Machine State Why) (xs : Bytes) → AtMost at m → at + lines ≤ k
      → run a j m (through inside lines xs) ≡ run a i m (through inside lines xs)
  alike_below j i k agree inside zero at m xs h g = refl
  alike_below j i k agree inside (suc lines) at (Stopped n why) xs h g =
      stays a j n why (through inside (suc lines) xs) ∙ sym (stays a i n why (through inside (suc lines) xs))
  alike_below j i k agree false (suc lines) at (At n mode s) [] h g = refl
  alike_below j i k agree true (suc lines) at (At n mode s) [] h g = feed_alike j i n mode s 10 (agree n (omega arith))
  alike_below j i k agree inside (suc lines) at (At n mode s) (x ∷ xs) h g =
      let m : Machine State Why = At n mode s in
      let same = feed_alike j i n mode s x (agree n (omega arith)) in
      let P = λ (ys : Bytes). run a j (feed a j m x) ys ≡ run a i (feed a i m x) ys in
      cond_both (is_lf x) (through false lines xs) (through true (suc lines) xs) P
      (λ e. alike_below j i k agree false lines (suc at) (feed a j m x) xs (feed_lf_most j at m x e h) (omega arith)
      ∙ ap (λ q. run a i q (through false lines xs)) same)
      (λ e. alike_below j i k agree true (suc lines) at (feed a j m x) xs (feed_most j at m x e h) g
      ∙ ap (λ q. run a i q (through true (suc lines) xs)) same)

  -- the lines from k on
  pub alike_from : (j i : ℕ → Bool) (k : ℕ) → ((n : ℕ) → k ≤ n → j n ≡ i n) → (m : Machine State Why) (xs : Bytes) → AtLeast k m → run a j m xs ≡ run a i m xs
  alike_from j i k agree m [] h = refl
  alike_from j i k agree (Stopped n why) (x ∷ xs) h = stays a j n why xs ∙ sym (stays a i n why xs)
  alike_from j i k agree (At n mode s) (x ∷ xs) h =
      alike_from j i k agree (feed a j (At n mode s) x) xs (feed_least j k (At n mode s) x h)
      ∙ ap (λ m. run a i m xs) (feed_alike j i n mode s x (agree n h))

  pub closed_alike : (j i : ℕ → Bool) (k : ℕ) → ((n : ℕ) → k ≤ n → j n ≡ i n) → (m : Machine State Why) → AtLeast k m → closed a j m ≡ closed a i m
  closed_alike j i k agree (Stopped n why) h = refl
  closed_alike j i k agree (At n (InLine []) s) h = refl
  closed_alike j i k agree (At n (InLine (b ∷ bs)) s) h = feed_alike j i n (InLine (b ∷ bs)) s 10 (agree n h)
  closed_alike j i k agree (At n (InDelimited from d bytes []) s) h = refl
  closed_alike j i k agree (At n (InDelimited from d bytes (b ∷ bs)) s) h = feed_alike j i n (InDelimited from d bytes (b ∷ bs)) s 10 (agree n h)
  closed_alike j i k agree (At n (InBlock from l bytes) s) h = refl
  closed_alike j i k agree (At n (After inside) s) h = refl
  closed_alike j i k agree (At n Ended s) h = refl
