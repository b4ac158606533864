-- What a text answers after a line, by its lines and blocks as they are cut off: each law is for any automaton.
use Rattle.std.proofs.Common.{◌≡◌, ℕ, zero, suc, ◌+◌, ◌-◌, ◌≤◌, ◌<◌, Bool, true, false, cond, not, [], ◌∷◌, ◌++◌, length, take, drop, Option, Some, None, Ok, Err, refl, sym, ◌∙◌, ap, subst, arith}
use Rattle.std.specs.Prelude.{nat_le, bytes_eq, count_by}
use Rattle.std.proofs.lemmas.Bool.{leb-true, leb-false}
use Rattle.std.proofs.lemmas.List.{take-append-drop, length-take-le}
use Rattle.std.proofs.lemmas.Option.{same_Some, cond_some, some_pair_parts, none-some}
use Rattle.plain_model.specs.Paths.{Bytes, is_empty}
use Rattle.plain_model.specs.Parts.{is_lf, line_at, skip_lf}
use Rattle.plain_model.specs.Fields.{Extent, delimited, block_at}
use Rattle.plain_model.specs.Fields.Extent.{Counted, Delimited}
use Rattle.line_automaton.specs.Machine.{Next, Automaton, Machine, entered, answered, compared, moved, closed, verdict, outcome_from}
use Rattle.line_automaton.specs.Machine.Next.{More, Block, Until, Over}
use Rattle.line_automaton.specs.Machine.Mode.{InLine, After, InDelimited}
use Rattle.line_automaton.specs.Machine.Machine.{At}
use Rattle.line_automaton.specs.Machine.Outcome.{Reads, Refuses, Misses}
use Rattle.line_automaton.specs.Lines.{line_count, number_after, extent_after, HasDelimiter}
use Rattle.line_automaton.proofs.Runs.{over, stays}
use Rattle.line_automaton.proofs.FirstLines.{inside_after}
use Rattle.plain_model.proofs.Lines.{line_is}
use Rattle.line_automaton.proofs.LineLaws.{line_count_rest, line_count_skip_lf, lines_left, lines_left_some, line_count_left, lines_left_append}
use Rattle.line_automaton.proofs.DrivingLaws.{after_line, first_line, block_end, block_cut, after_nothing, after_lf, after_byte}

-- ---- the rest after a block

-- the text ends in this rest
abbrev EndsIn : Bytes → Bytes → Type 0
EndsIn text rest = (before : Bytes) × (text ≡ before ++ rest)

byte_before : (b : ℕ) (bs rest : Bytes) → EndsIn bs rest → EndsIn (b ∷ bs) rest
byte_before b bs rest (before, is) = (b ∷ before, ap (λ (l : Bytes). b ∷ l) is)

delimited_rest : (text d kept begun bytes rest : Bytes) → delimited d kept begun text ≡ Some (bytes, rest) → EndsIn text rest
unfolding delimited
delimited_rest [] d kept begun bytes rest h =
    let c = cond_some {A = Bytes × Bytes} (bytes_eq begun d) (kept, []) (bytes, rest) h in
    ([], ap (λ (p : Bytes × Bytes). p.1) c.1)
delimited_rest (b ∷ bs) d kept begun bytes rest h =
    byte_before b bs rest (go (is_lf b) (bytes_eq begun d) h
    (delimited_rest bs d (kept ++ begun ++ 10 ∷ []) [] bytes rest) (delimited_rest bs d kept (begun ++ b ∷ []) bytes rest))
  where
    go : (t u : Bool) → cond t (cond u (Some (kept, bs)) (delimited d (kept ++ begun ++ 10 ∷ []) [] bs)) (delimited d kept (begun ++ b ∷ []) bs) ≡ Some (bytes, rest)
        → (delimited d (kept ++ begun ++ 10 ∷ []) [] bs ≡ Some (bytes, rest) → EndsIn bs rest)
        → (delimited d kept (begun ++ b ∷ []) bs ≡ Some (bytes, rest) → EndsIn bs rest) → EndsIn bs rest
    go true true h later inside = ([], (some_pair_parts kept bytes bs rest h).1)
    go true false h later inside = later h
    go false u h later inside = inside h

block_rest : (extent : Extent) (text bytes rest : Bytes) → block_at extent text ≡ Some (bytes, rest) → EndsIn text rest
block_rest (Counted k) text bytes rest h =
    let c = cond_some (nat_le k (length text)) (take k text, drop k text) (bytes, rest) h in
    (take k text, sym (take-append-drop k text) ∙ ap (λ (p : Bytes × Bytes). take k text ++ p.1) c.1)
block_rest (Delimited d) text bytes rest h = delimited_rest text d [] [] bytes rest h

-- what is after a block and its LF has no more lines than the text
pub line_count_block : (extent : Extent) (text bytes rest : Bytes) → block_at extent text ≡ Some (bytes, rest) → line_count (skip_lf rest) ≤ line_count text
line_count_block extent text bytes rest h =
    let e = block_rest extent text bytes rest h in
    let less : line_count rest ≤ line_count text = subst (λ (l : Bytes). line_count rest ≤ line_count l) (sym e.1) (line_count_rest e.0 rest) in
    omega (arith, less, line_count_skip_lf rest)

module _ {State Why : Type 0} (a : Automaton State Why) (j : ℕ → Bool) where
  -- ---- lines

  -- after line n, of which this follows
  abbrev pub after : ℕ → Bytes → Next → State → Machine State Why
  after n line next s = moved a n (n + 1) (Ok (entered a n line next s))

  module _ (n : ℕ) (s : State) (text line rest : Bytes) (there : line_at text ≡ Some (line, rest)) where
    -- A text answers what its first line does, and the rest after it.
    pub line_steps : outcome_from a j (At n (InLine []) s) text ≡ outcome_from a j (after_line a j n s line) rest
    line_steps = first_line a j n s text line rest (line_is text line rest there)

    pub line_made : (new : State) (next : Next) → a.step (j n) s line ≡ Ok (new, next)
        → outcome_from a j (At n (InLine []) s) text ≡ outcome_from a j (after n line next new) rest
    line_made new next e = line_steps ∙ ap (λ r. outcome_from a j (moved a n (n + 1) (answered a n line r)) rest) e

    -- the next line
    pub line_more : (new : State) → a.step (j n) s line ≡ Ok (new, More)
        → outcome_from a j (At n (InLine []) s) text ≡ outcome_from a j (At (n + 1) (InLine []) new) rest
    line_more new e = line_made new More e

    -- nothing that is looked at
    pub line_over : (new : State) → a.step (j n) s line ≡ Ok (new, Over) → outcome_from a j (At n (InLine []) s) text ≡ Reads new
    line_over new e = line_made new Over e ∙ over a j (n + 1) new rest

    -- a refusal
    pub line_refused : (why : Why) → a.step (j n) s line ≡ Err why → outcome_from a j (At n (InLine []) s) text ≡ Refuses n why
    line_refused why e =
        line_steps ∙ ap (λ r. outcome_from a j (moved a n (n + 1) (answered a n line r)) rest) e
        ∙ ap (λ m. verdict a (closed a j m)) (stays a j n why rest)

  -- the end of the text
  pub no_line : (n : ℕ) (s : State) (text : Bytes) → line_at text ≡ None → outcome_from a j (At n (InLine []) s) text ≡ cond (a.is_expected s) (Misses n) (Reads s)
  unfolding line_at
  no_line n s [] e = refl
  no_line n s (b ∷ bs) e = absurd cc

  -- ---- after a block

  -- the number of the line after a block
  abbrev next_number : Bool → ℕ → Bytes → ℕ
  next_number inside n [] = cond inside (n + 1) n
  next_number inside n (b ∷ bs) = cond (is_lf b) (n + 1) n

  -- the one LF that may follow is passed over
  after_block : (inside : Bool) (n : ℕ) (s : State) (rest : Bytes)
      → outcome_from a j (At n (After inside) s) rest ≡ outcome_from a j (At (next_number inside n rest) (InLine []) s) (skip_lf rest)
  after_block inside n s [] = after_nothing a j inside n s
  after_block inside n s (b ∷ bs) = go (is_lf b) refl
    where
      go : (t : Bool) → is_lf b ≡ t
          → outcome_from a j (At n (After inside) s) (b ∷ bs) ≡ outcome_from a j (At (cond t (n + 1) n) (InLine []) s) (cond t bs (b ∷ bs))
      go true e = ap (λ m. verdict a (closed a j m)) (after_lf a j inside n s b bs e)
      go false e = ap (λ m. verdict a (closed a j m)) (after_byte a j inside n s b bs e)

  -- it is one more than the LFs before, or the next line that there could be
  next_number_is : (inside : Bool) (n taken : ℕ) (text rest : Bytes) → line_count text ≡ taken + lines_left inside rest
      → next_number inside (n + taken) rest ≡ number_after n text (skip_lf rest)
  next_number_is inside n taken text [] e = go inside e
    where
      go : (t : Bool) → line_count text ≡ taken + cond t 1 0 → cond t (n + taken + 1) (n + taken) ≡ n + (line_count text - 0)
      go true e = omega arith
      go false e = omega arith
  next_number_is inside n taken text (b ∷ bs) e =
      go (is_lf b) (e ∙ ap (λ k. taken + k) (lines_left_some inside b bs)) (lines_left_some false b bs)
    where
      go : (t : Bool) → line_count text ≡ taken + line_count (b ∷ bs) → cond t (1 + lines_left false bs) (lines_left true bs) ≡ line_count (b ∷ bs)
          → cond t (n + taken + 1) (n + taken) ≡ n + (line_count text - line_count (cond t bs (b ∷ bs)))
      go true e f = let more = line_count_left bs in omega arith
      go false e f = omega arith

  -- ---- counted blocks

  -- a block that the text has
  counted_there : (n k : ℕ) (line : Bytes) (s : State) (block rest : Bytes) → length block ≡ k
      → outcome_from a j (after n line (Block k) s) (block ++ rest)
      ≡ outcome_from a j (At (n + 1 + count_by is_lf block) (After (inside_after false block)) (a.arrived s block)) rest
  counted_there n zero line s [] rest h = ap (λ i. outcome_from a j (At i (After false) (a.arrived s [])) rest) (omega arith)
  counted_there n zero line s (b ∷ bs) rest h = absurd (omega arith)
  counted_there n (suc k) line s block rest h = ap (λ m. verdict a (closed a j m)) (block_end a j k (n + 1) n [] s false block rest h)

  -- and what is after it
  pub counted_whole : (n k : ℕ) (line : Bytes) (s : State) (text : Bytes) → k ≤ length text
      → outcome_from a j (after n line (Block k) s) text
      ≡ outcome_from a j (At (number_after (n + 1) text (skip_lf (drop k text))) (InLine []) (a.arrived s (take k text))) (skip_lf (drop k text))
  counted_whole n k line s text h =
      let block = take k text in
      let rest = drop k text in
      let parts : line_count text ≡ count_by is_lf block + lines_left (inside_after false block) rest =
      ap line_count (sym (take-append-drop k text)) ∙ line_count_left (block ++ rest) ∙ lines_left_append false block rest in
      ap (outcome_from a j (after n line (Block k) s)) (sym (take-append-drop k text))
      ∙ counted_there n k line s block rest (length-take-le k text h)
      ∙ after_block (inside_after false block) (n + 1 + count_by is_lf block) (a.arrived s block) rest
      ∙ ap (λ i. outcome_from a j (At i (InLine []) (a.arrived s block)) (skip_lf rest)) (next_number_is (inside_after false block) (n + 1) (count_by is_lf block) text rest parts)

  -- a block that is cut off
  pub counted_cut : (n k : ℕ) (line : Bytes) (s : State) (text : Bytes) → length text < k → outcome_from a j (after n line (Block k) s) text ≡ Misses n
  counted_cut n zero line s text h = absurd (omega arith)
  counted_cut n (suc k) line s text h = block_cut a j (n + 1) n k [] s text (omega arith)

  -- ---- blocks up to a delimiter

  -- after the delimiter, so many lines later
  abbrev Finds : Machine State Why → ℕ → ℕ → State → Bytes → Bytes → Bytes → Type 0
  Finds m left n s text bytes rest =
      (taken : ℕ) × (left ≡ taken + lines_left false rest)
      × (outcome_from a j m text ≡ outcome_from a j (At (n + taken) (After false) (a.arrived s bytes)) rest)

  -- the delimiter as the last line, which may be without its LF
  found_last : (n from : ℕ) (d kept begun : Bytes) (s : State) (bytes rest : Bytes) → 1 ≤ length d
      → cond {A = Option (Bytes × Bytes)} (bytes_eq begun d) (Some (kept, [])) None ≡ Some (bytes, rest)
      → Finds (At n (InDelimited from d kept begun) s) (lines_left (not (is_empty begun)) []) n s [] bytes rest
  found_last n from [] kept begun s bytes rest some h = absurd (omega arith)
  found_last n from (x ∷ xs) kept [] s bytes rest some h = absurd (none-some {A = Bytes × Bytes} (bytes, rest) h)
  found_last n from d kept (b ∷ bs) s bytes rest some h =
      let c = cond_some {A = Bytes × Bytes} (bytes_eq (b ∷ bs) d) (kept, []) (bytes, rest) h in
      let parts = some_pair_parts kept bytes [] rest (ap (λ (p : Bytes × Bytes). Some p) c.1) in (
        1,
        ap (λ (l : Bytes). 1 + lines_left false l) parts.1,
        ap (λ t. verdict a (moved a n (n + 1) (Ok (cond t (After false, a.arrived s kept) (InDelimited from d (kept ++ (b ∷ bs) ++ 10 ∷ []) [], s))))) c.0
            ∙ (λ i. outcome_from a j (At (n + 1) (After false) (a.arrived s (parts.0 i))) (parts.1 i)),
      )

  found : (text : Bytes) (n from : ℕ) (d kept begun : Bytes) (s : State) (bytes rest : Bytes) → 1 ≤ length d → delimited d kept begun text ≡ Some (bytes, rest)
      → Finds (At n (InDelimited from d kept begun) s) (lines_left (not (is_empty begun)) text) n s text bytes rest
  unfolding delimited
  found [] n from d kept begun s bytes rest some h = found_last n from d kept begun s bytes rest some h
  found (b ∷ bs) n from d kept begun s bytes rest some h =
      go (is_lf b) h (found bs (n + 1) from d (kept ++ begun ++ 10 ∷ []) [] s bytes rest some) (found bs n from d kept (begun ++ b ∷ []) s bytes rest some)
    where
      more : Bytes
      more = kept ++ begun ++ 10 ∷ []

      not_empty : (front : Bytes) → not (is_empty (front ++ b ∷ [])) ≡ true
      not_empty [] = refl
      not_empty (c ∷ cs) = refl

      -- the end of a line
      ended : (u : Bool) → cond u (Some (kept, bs)) (delimited d more [] bs) ≡ Some (bytes, rest)
          → (delimited d more [] bs ≡ Some (bytes, rest) → Finds (At (n + 1) (InDelimited from d more []) s) (lines_left false bs) (n + 1) s bs bytes rest)
          → Finds (moved a n (n + 1) (Ok (cond u (After false, a.arrived s kept) (InDelimited from d more [], s)))) (1 + lines_left false bs) n s bs bytes rest
      ended true h later =
          let parts = some_pair_parts kept bytes bs rest h in (
            1,
            ap (λ (l : Bytes). 1 + lines_left false l) parts.1,
            (λ i. outcome_from a j (At (n + 1) (After false) (a.arrived s (parts.0 i))) (parts.1 i)),
          )
      ended false h later =
          let r = later h in
          let left : lines_left false bs ≡ r.0 + lines_left false rest = r.1 in
          let further : n + 1 + r.0 ≡ n + (1 + r.0) = omega arith in (
            1 + r.0,
            omega (arith, left),
            r.2 ∙ ap (λ k. outcome_from a j (At k (After false) (a.arrived s bytes)) rest) further,
          )

      go : (t : Bool) → cond t (cond (bytes_eq begun d) (Some (kept, bs)) (delimited d more [] bs)) (delimited d kept (begun ++ b ∷ []) bs) ≡ Some (bytes, rest)
          → (delimited d more [] bs ≡ Some (bytes, rest) → Finds (At (n + 1) (InDelimited from d more []) s) (lines_left false bs) (n + 1) s bs bytes rest)
          → (delimited d kept (begun ++ b ∷ []) bs ≡ Some (bytes, rest)
          → Finds (At n (InDelimited from d kept (begun ++ b ∷ [])) s) (lines_left (not (is_empty (begun ++ b ∷ []))) bs) n s bs bytes rest)
          → Finds (moved a n (cond t (n + 1) n) (cond t (Ok (compared a from d kept begun s)) (Ok (InDelimited from d kept (begun ++ b ∷ []), s))))
          (cond t (1 + lines_left false bs) (lines_left true bs)) n s bs bytes rest
      go true h later inside = ended (bytes_eq begun d) h later
      go false h later inside =
          let m : Machine State Why = At n (InDelimited from d kept (begun ++ b ∷ [])) s in
          subst (λ t. Finds m (lines_left t bs) n s bs bytes rest) (not_empty begun) (inside h)

  -- no delimiter
  not_found : (text : Bytes) (n from : ℕ) (d kept begun : Bytes) (s : State) → delimited d kept begun text ≡ None
      → outcome_from a j (At n (InDelimited from d kept begun) s) text ≡ Misses from
  unfolding delimited
  not_found [] n from d kept [] s h = refl
  not_found [] n from d kept (b ∷ bs) s h = go (bytes_eq (b ∷ bs) d) h
    where
      go : (t : Bool) → cond {A = Option (Bytes × Bytes)} t (Some (kept, [])) None ≡ None
          → verdict a (moved a n (n + 1) (Ok (cond t (After false, a.arrived s kept) (InDelimited from d (kept ++ (b ∷ bs) ++ 10 ∷ []) [], s)))) ≡ Misses from
      go true h = absurd (none-some {A = Bytes × Bytes} (kept, []) (sym h))
      go false h = refl
  not_found (b ∷ bs) n from d kept begun s h =
      go (is_lf b) (bytes_eq begun d) h (not_found bs (n + 1) from d (kept ++ begun ++ 10 ∷ []) [] s) (not_found bs n from d kept (begun ++ b ∷ []) s)
    where
      more : Bytes
      more = kept ++ begun ++ 10 ∷ []

      go : (t u : Bool) → cond t (cond u (Some (kept, bs)) (delimited d more [] bs)) (delimited d kept (begun ++ b ∷ []) bs) ≡ None
          → (delimited d more [] bs ≡ None → outcome_from a j (At (n + 1) (InDelimited from d more []) s) bs ≡ Misses from)
          → (delimited d kept (begun ++ b ∷ []) bs ≡ None → outcome_from a j (At n (InDelimited from d kept (begun ++ b ∷ [])) s) bs ≡ Misses from)
          → outcome_from a j (moved a n (cond t (n + 1) n)
          (cond t (Ok (cond u (After false, a.arrived s kept) (InDelimited from d more [], s))) (Ok (InDelimited from d kept (begun ++ b ∷ []), s)))) bs ≡ Misses from
      go true true h later inside = absurd (none-some {A = Bytes × Bytes} (kept, bs) (sym h))
      go true false h later inside = later h
      go false u h later inside = inside h

  -- a block that the text has
  pub delimited_whole : (n k : ℕ) (line : Bytes) (s : State) (text bytes rest : Bytes) → 1 ≤ length (drop k line) → delimited (drop k line) [] [] text ≡ Some (bytes, rest)
      → outcome_from a j (after n line (Until k) s) text
      ≡ outcome_from a j (At (number_after (n + 1) text (skip_lf rest)) (InLine []) (a.arrived s bytes)) (skip_lf rest)
  delimited_whole n k line s text bytes rest some h =
      let f = found text (n + 1) n (drop k line) [] [] s bytes rest some h in
      f.2
      ∙ after_block false (n + 1 + f.0) (a.arrived s bytes) rest
      ∙ ap (λ i. outcome_from a j (At i (InLine []) (a.arrived s bytes)) (skip_lf rest))
      (next_number_is false (n + 1) f.0 text rest (line_count_left text ∙ f.1))

  -- a block that has no end
  pub delimited_cut : (n k : ℕ) (line : Bytes) (s : State) (text : Bytes) → delimited (drop k line) [] [] text ≡ None
      → outcome_from a j (after n line (Until k) s) text ≡ Misses n
  delimited_cut n k line s text h = not_found text (n + 1) n (drop k line) [] [] s h

  -- ---- any block

  -- A text answers what the rest after a block does: the state has landed, the one LF that may follow is passed over, and
  -- the number is that of the next line.
  pub block_there : (n : ℕ) (line : Bytes) (next : Next) (s : State) (extent : Extent) (text bytes rest : Bytes)
      → extent_after line next ≡ Some extent → HasDelimiter extent → block_at extent text ≡ Some (bytes, rest)
      → outcome_from a j (after n line next s) text
      ≡ outcome_from a j (At (number_after (n + 1) text (skip_lf rest)) (InLine []) (a.arrived s bytes)) (skip_lf rest)
  block_there n line More s extent text bytes rest e some h = absurd (none-some extent e)
  block_there n line Over s extent text bytes rest e some h = absurd (none-some extent e)
  block_there n line (Block k) s extent text bytes rest e some h =
      let c = cond_some (nat_le k (length text)) (take k text, drop k text) (bytes, rest) (subst (λ x. block_at x text ≡ Some (bytes, rest)) (sym (same_Some (Counted k) extent e)) h) in
      let parts = some_pair_parts (take k text) bytes (drop k text) rest (ap (λ (p : Bytes × Bytes). Some p) c.1) in
      counted_whole n k line s text (leb-true k (length text) c.0)
      ∙ (λ i. outcome_from a j (At (number_after (n + 1) text (skip_lf (parts.1 i))) (InLine []) (a.arrived s (parts.0 i))) (skip_lf (parts.1 i)))
  block_there n line (Until k) s extent text bytes rest e some h =
      let is : Delimited (drop k line) ≡ extent = same_Some (Delimited (drop k line)) extent e in
      delimited_whole n k line s text bytes rest (subst HasDelimiter (sym is) some) (subst (λ x. block_at x text ≡ Some (bytes, rest)) (sym is) h)

  -- A text that hasn't all of a block misses it, at the line before it.
  pub block_misses : (n : ℕ) (line : Bytes) (next : Next) (s : State) (extent : Extent) (text : Bytes)
      → extent_after line next ≡ Some extent → block_at extent text ≡ None → outcome_from a j (after n line next s) text ≡ Misses n
  block_misses n line More s extent text e h = absurd (none-some extent e)
  block_misses n line Over s extent text e h = absurd (none-some extent e)
  block_misses n line (Block k) s extent text e h =
      go (nat_le k (length text)) refl (subst (λ x. block_at x text ≡ None) (sym (same_Some (Counted k) extent e)) h)
    where
      go : (t : Bool) → nat_le k (length text) ≡ t → cond {A = Option (Bytes × Bytes)} t (Some (take k text, drop k text)) None ≡ None → outcome_from a j (after n line (Block k) s) text ≡ Misses n
      go true f h = absurd (none-some {A = Bytes × Bytes} (take k text, drop k text) (sym h))
      go false f h = counted_cut n k line s text (leb-false k (length text) f)
  block_misses n line (Until k) s extent text e h =
      delimited_cut n k line s text (subst (λ x. block_at x text ≡ None) (sym (same_Some (Delimited (drop k line)) extent e)) h)
