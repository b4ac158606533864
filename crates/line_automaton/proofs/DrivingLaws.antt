-- How a machine goes over lines and blocks, whole or in parts.
use Rattle.std.proofs.Common.{◌≡◌, ℕ, zero, suc, ◌+◌, ◌-◌, ◌≤◌, Bool, true, false, cond, not, List, [], ◌∷◌, ◌++◌, length, Ok, refl, sym, ◌∙◌, ap, inl, inr, arith, append_assoc, append-nil, add-zero}
use Rattle.std.specs.Prelude.{count_by, flat_map, fold}
use Rattle.std.proofs.lemmas.Bool.{and_parts, not-true}
use Rattle.plain_model.specs.Paths.{Bytes}
use Rattle.plain_model.specs.Parts.{is_lf, has_no_lf}
use Rattle.plain_model.specs.Parts.{IsLine}
use Rattle.line_automaton.specs.Machine.{Automaton, Machine, number_past, answered, compared, moved, run, closed, verdict, outcome_from}
use Rattle.line_automaton.specs.Machine.Mode.{InLine, InBlock, After, InDelimited}
use Rattle.line_automaton.specs.Machine.Machine.{At}
use Rattle.line_automaton.specs.Machine.Outcome.{Misses}
use Rattle.line_automaton.proofs.Runs.{run_append, closed_between, answered_between}
use Rattle.line_automaton.proofs.FirstLines.{inside_after}
use Rattle.line_automaton.proofs.LineLaws.{count_cons}

-- the number of the line after a byte, and the LFs that follow
past_count : (n b : ℕ) (bs : Bytes) → number_past n b + count_by is_lf bs ≡ n + count_by is_lf (b ∷ bs)
past_count n b bs = go (is_lf b) ∙ ap (λ k. n + k) (sym (count_cons b bs))
  where
    go : (t : Bool) → cond t (n + 1) n + count_by is_lf bs ≡ n + (cond t 1 0 + count_by is_lf bs)
    go true = omega arith
    go false = omega arith

module _ {State Why : Type 0} (a : Automaton State Why) (j : ℕ → Bool) where
  -- ---- lines

  -- after a line that has come whole
  abbrev pub after_line : ℕ → State → Bytes → Machine State Why
  after_line n s line = moved a n (n + 1) (answered a n line (a.step (j n) s line))

  -- a part of a line
  pub line_part : (n : ℕ) (begun : Bytes) (s : State) (part : Bytes) → has_no_lf part ≡ true
      → run a j (At n (InLine begun) s) part ≡ At n (InLine (begun ++ part)) s
  line_part n begun s [] h = ap (λ (l : Bytes). At n (InLine l) s) (sym (append-nil begun))
  line_part n begun s (b ∷ bs) h =
      let p = and_parts (not (is_lf b)) (has_no_lf bs) h in
      let other : is_lf b ≡ false = not-true (is_lf b) p.0 in
      (λ i. run a j (moved a n (cond (other i) (n + 1) n) (cond (other i) (answered a n begun (a.step (j n) s begun)) (Ok (InLine (begun ++ b ∷ []), s)))) bs)
      ∙ line_part n (begun ++ b ∷ []) s bs p.1
      ∙ ap (λ (l : Bytes). At n (InLine l) s) (append_assoc begun (b ∷ []) bs)

  -- the end of a line, and what follows
  pub line_end : (n : ℕ) (begun : Bytes) (s : State) (part rest : Bytes) → has_no_lf part ≡ true
      → run a j (At n (InLine begun) s) (part ++ 10 ∷ rest) ≡ run a j (after_line n s (begun ++ part)) rest
  line_end n begun s part rest h =
      run_append a j (At n (InLine begun) s) part (10 ∷ rest) ∙ ap (λ m. run a j m (10 ∷ rest)) (line_part n begun s part h)

  -- the last line, which misses its LF
  last_line : (n : ℕ) (s : State) (line : Bytes) → 1 ≤ length line → outcome_from a j (At n (InLine line) s) [] ≡ outcome_from a j (after_line n s line) []
  last_line n s [] h = absurd (omega arith)
  last_line n s (b ∷ bs) h =
      ap (verdict a) (sym (closed_between a j (after_line n s (b ∷ bs)) (answered_between a n (n + 1) (b ∷ bs) (a.step (j n) s (b ∷ bs)))))

  -- A text answers what its first line and the rest do.
  pub first_line : (n : ℕ) (s : State) (text line rest : Bytes) → IsLine text line rest
      → outcome_from a j (At n (InLine []) s) text ≡ outcome_from a j (after_line n s line) rest
  first_line n s text line rest (plain, inl e) =
      ap (outcome_from a j (At n (InLine []) s)) e ∙ ap (λ m. verdict a (closed a j m)) (line_end n [] s line rest plain)
  first_line n s text line rest (plain, inr e) =
      ap (outcome_from a j (At n (InLine []) s)) e.0
      ∙ ap (λ m. verdict a (closed a j m)) (line_part n [] s line plain)
      ∙ last_line n s line e.2
      ∙ ap (outcome_from a j (after_line n s line)) (sym e.1)

  -- ---- counted blocks

  -- a part of a block
  pub block_part : (k n from : ℕ) (bytes : Bytes) (s : State) (part : Bytes) → length part ≤ k
      → run a j (At n (InBlock from k bytes) s) part ≡ At (n + count_by is_lf part) (InBlock from (k - length part) (bytes ++ part)) s
  block_part k n from bytes s [] h =
      let none : n ≡ n + count_by is_lf [] = omega arith in
      let left : k ≡ k - length {A = ℕ} [] = omega arith in
      (λ i. At (none i) (InBlock from (left i) (sym (append-nil bytes) i)) s)
  block_part zero n from bytes s (b ∷ bs) h = absurd (omega arith)
  block_part (suc k) n from bytes s (b ∷ bs) h =
      let left : k - length bs ≡ suc k - length (b ∷ bs) = omega arith in
      block_part k (number_past n b) from (bytes ++ b ∷ []) s bs (omega arith)
      ∙ (λ i. At (past_count n b bs i) (InBlock from (left i) (append_assoc bytes (b ∷ []) bs i)) s)

  -- the end of a block, and what follows
  pub block_end : (k n from : ℕ) (bytes : Bytes) (s : State) (inside : Bool) (part rest : Bytes) → length part ≡ suc k
      → run a j (At n (InBlock from k bytes) s) (part ++ rest)
      ≡ run a j (At (n + count_by is_lf part) (After (inside_after inside part)) (a.arrived s (bytes ++ part))) rest
  block_end k n from bytes s inside [] rest h = absurd (omega arith)
  block_end zero n from bytes s inside (b ∷ []) rest h =
      ap (λ i. run a j (At i (After (not (is_lf b))) (a.arrived s (bytes ++ b ∷ []))) rest) (sym (add-zero (number_past n b)) ∙ past_count n b [])
  block_end zero n from bytes s inside (b ∷ c ∷ bs) rest h = absurd (omega arith)
  block_end (suc k) n from bytes s inside (b ∷ []) rest h = absurd (omega arith)
  block_end (suc k) n from bytes s inside (b ∷ c ∷ bs) rest h =
      block_end k (number_past n b) from (bytes ++ b ∷ []) s (not (is_lf b)) (c ∷ bs) rest (omega arith)
      ∙ (λ i. run a j (At (past_count n b (c ∷ bs) i) (After (inside_after inside (b ∷ c ∷ bs))) (a.arrived s (append_assoc bytes (b ∷ []) (c ∷ bs) i))) rest)

  -- a text that ends in a block
  pub block_cut : (n from k : ℕ) (bytes : Bytes) (s : State) (xs : Bytes) → length xs ≤ k → outcome_from a j (At n (InBlock from k bytes) s) xs ≡ Misses from
  block_cut n from k bytes s [] h = refl
  block_cut n from zero bytes s (x ∷ xs) h = absurd (omega arith)
  block_cut n from (suc k) bytes s (x ∷ xs) h = block_cut (number_past n x) from k (bytes ++ x ∷ []) s xs (omega arith)

  -- ---- blocks up to a delimiter

  -- after a line of such a block that has come whole
  abbrev pub after_compared : ℕ → ℕ → Bytes → Bytes → Bytes → State → Machine State Why
  after_compared n from d bytes line s = moved a n (n + 1) (Ok (compared a from d bytes line s))

  -- a part of a line
  pub delimited_part : (n from : ℕ) (d bytes begun : Bytes) (s : State) (part : Bytes) → has_no_lf part ≡ true
      → run a j (At n (InDelimited from d bytes begun) s) part ≡ At n (InDelimited from d bytes (begun ++ part)) s
  delimited_part n from d bytes begun s [] h = ap (λ (l : Bytes). At n (InDelimited from d bytes l) s) (sym (append-nil begun))
  delimited_part n from d bytes begun s (b ∷ bs) h =
      let p = and_parts (not (is_lf b)) (has_no_lf bs) h in
      let other : is_lf b ≡ false = not-true (is_lf b) p.0 in
      (λ i. run a j (moved a n (cond (other i) (n + 1) n) (cond (other i) (Ok (compared a from d bytes begun s)) (Ok (InDelimited from d bytes (begun ++ b ∷ []), s)))) bs)
      ∙ delimited_part n from d bytes (begun ++ b ∷ []) s bs p.1
      ∙ ap (λ (l : Bytes). At n (InDelimited from d bytes l) s) (append_assoc begun (b ∷ []) bs)

  -- the end of a line, and what follows
  pub delimited_end : (n from : ℕ) (d bytes begun : Bytes) (s : State) (part rest : Bytes) → has_no_lf part ≡ true
      → run a j (At n (InDelimited from d bytes begun) s) (part ++ 10 ∷ rest) ≡ run a j (after_compared n from d bytes (begun ++ part) s) rest
  delimited_end n from d bytes begun s part rest h =
      run_append a j (At n (InDelimited from d bytes begun) s) part (10 ∷ rest)
      ∙ ap (λ m. run a j m (10 ∷ rest)) (delimited_part n from d bytes begun s part h)

  -- ---- after a block

  -- at the end of the text
  pub after_nothing : (inside : Bool) (n : ℕ) (s : State)
      → outcome_from a j (At n (After inside) s) [] ≡ outcome_from a j (At (cond inside (n + 1) n) (InLine []) s) []
  after_nothing true n s = refl
  after_nothing false n s = refl

  -- the one LF that may follow
  pub after_lf : (inside : Bool) (n : ℕ) (s : State) (b : ℕ) (rest : Bytes) → is_lf b ≡ true
      → run a j (At n (After inside) s) (b ∷ rest) ≡ run a j (At (n + 1) (InLine []) s) rest
  after_lf inside n s b rest e = λ i. run a j (At (cond (e i) (n + 1) n) (InLine (cond (e i) [] (b ∷ []))) s) rest

  -- a line directly after a block has its line's number
  pub after_byte : (inside : Bool) (n : ℕ) (s : State) (b : ℕ) (rest : Bytes) → is_lf b ≡ false
      → run a j (At n (After inside) s) (b ∷ rest) ≡ run a j (At n (InLine []) s) (b ∷ rest)
  after_byte inside n s b rest e =
      (λ i. run a j (At (number_past n b) (InLine (cond (e i) [] (b ∷ []))) s) rest)
      ∙ sym (λ i. run a j (moved a n (number_past n b) (cond (e i) (answered a n [] (a.step (j n) s [])) (Ok (InLine (b ∷ []), s)))) rest)

  -- ---- in pieces

  -- A text is read alike in any pieces, one after another.
  pub any_pieces : (m : Machine State Why) (pieces : List Bytes)
      → fold (λ m piece. run a j m piece) m pieces ≡ run a j m (flat_map (λ piece. piece) pieces)
  any_pieces m [] = refl
  any_pieces m (piece ∷ pieces) =
      any_pieces (run a j m piece) pieces ∙ sym (run_append a j m piece (flat_map (λ piece. piece) pieces))
