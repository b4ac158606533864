-- The lines of a body, one after another.
use Rattle.std.proofs.Common.{◌≡◌, ℕ, zero, suc, ◌+◌, true, List, [], ◌∷◌, ◌++◌, drop, Option, Some, None, Result, Ok, Err, refl, sym, ap, subst, ◌∙◌, arith}
use Rattle.std.specs.Prelude.{IfOk, IsErrAnd, IsOk, is_some, slice_get}
use Rattle.std.proofs.Math.Seq.{drop-cons}
use Rattle.std.proofs.lemmas.Option.{get_or_from_slice_get, slice_get_within}
use Rattle.plain_model.specs.Faults.{Returns}
use Rattle.plain_model.specs.Paths.{Bytes}
use Rattle.plain_model.specs.declared.fault.Fault.{Fault}
use Rattle.plain_model.specs.declared.fault.Halt.{Halt}
use Rattle.plain_model.specs.declared.fault.Halt.TheVariants as ended
use Rattle.script_lines.specs.Answering.{◌>>=◌}
use Rattle.script_lines.specs.Scripts.{trimmed}
use Rattle.macro_lines.specs.Left.{made_lines}
use Rattle.macro_lines.specs.Macros.{expanded, lines_before, looked_for, run_of}
use Rattle.macro_lines.specs.Places.{filled}
use Rattle.macro_lines.specs.Taken.{IsTaken}
use Rattle.macro_lines.specs.declared.running.CalledLine.{CalledLine}

module _ (selection : Option Bytes) (words : List Bytes) where
  -- a body that can be made, whose first line this is
  pub record First (text : Bytes) (rest : List Bytes) : Type 0 where
    pub line : Bytes
    pub is_filled : filled words text ≡ Ok line
    pub others : IsOk (expanded selection words rest)
    pub lines : made_lines (expanded selection words (text ∷ rest)) ≡ run_of selection (trimmed line) ++ made_lines (expanded selection words rest)

  pub first_of : (text : Bytes) (rest : List Bytes) → IsOk (expanded selection words (text ∷ rest)) → First text rest
  first_of text rest made = go (filled words text) refl (expanded selection words rest) refl made
    where
      go : (f : Result Bytes Fault) → filled words text ≡ f → (r : Result (List Bytes) Fault) → expanded selection words rest ≡ r
          → IsOk (f >>= λ line. lines_before (run_of selection (trimmed line)) r) → First text rest
      go (Ok line) is (Ok lines) others made = record { line = line; is_filled = is; others = rw others refl; lines = rw (is, others) refl }
      go (Ok line) is (Err why) others made = absurd cc
      go (Err why) is r others made = absurd cc

  -- the first line of a body from a place on
  pub first_at : (body : List Bytes) (k : ℕ) (text : Bytes) → slice_get body k ≡ Some text → drop k body ≡ text ∷ drop (k + 1) body
  first_at body k text is =
      drop-cons body k text (slice_get_within body k text is) ∙ ap (λ (t : Bytes). t ∷ drop (suc k) body) (get_or_from_slice_get body k text text is)
      ∙ ap (λ (n : ℕ). text ∷ drop n body) (one_more k)
    where
      one_more : (n : ℕ) → suc n ≡ n + 1
      one_more n = omega arith

  -- the line that is taken of the first line of a body is the first of all
  pub taken_first : (body : List Bytes) (k : ℕ) (text line : Bytes) (taken : Option CalledLine) (all : List Bytes)
      → slice_get body k ≡ Some text → line ≡ text → IsOk (expanded selection words (drop k body)) → made_lines (expanded selection words (drop k body)) ≡ all
      → is_some taken ≡ true → IfOk (filled words line) (λ made. IsTaken taken (run_of selection (trimmed made)) [])
      → IsTaken taken all (made_lines (expanded selection words (drop (k + 1) body)))
  taken_first body k text line taken all is same made whole some takes =
      let cut = first_at body k text is in
      let first = first_of text (drop (k + 1) body) (subst (λ (b : List Bytes). IsOk (expanded selection words b)) cut made) in
      let of_first : IsTaken taken (run_of selection (trimmed first.line)) [] = rw (same, first.is_filled) at takes in
      go taken (run_of selection (trimmed first.line)) (made_lines (expanded selection words (drop (k + 1) body))) some of_first (sym whole ∙ ap (λ (b : List Bytes). made_lines (expanded selection words b)) cut ∙ first.lines)
    where
      go : (t : Option CalledLine) (run rest : List Bytes) → is_some t ≡ true → IsTaken t run [] → all ≡ run ++ rest → IsTaken t all rest
      go (Some it) run rest some is lines = (is.0, is.1, lines ∙ ap (λ (ls : List Bytes). ls ++ rest) is.2)
      go None run rest some is lines = absurd cc

  -- words are looked for in a body just as it is made
  pub found_so : (body : List Bytes) → looked_for words body ≡ Ok tt → IsOk (expanded selection words body)
  found_so [] is = refl
  found_so (text ∷ rest) is = go (filled words text) refl is (found_so rest)
    where
      go : (f : Result Bytes Fault) → filled words text ≡ f → (f >>= λ line. looked_for words rest) ≡ Ok tt → (looked_for words rest ≡ Ok tt → IsOk (expanded selection words rest))
          → IsOk (f >>= λ line. lines_before (run_of selection (trimmed line)) (expanded selection words rest))
      go (Ok line) is found later = before_ok (expanded selection words rest) (later found)
        where
          before_ok : (r : Result (List Bytes) Fault) → IsOk r → IsOk (lines_before (run_of selection (trimmed line)) r)
          before_ok (Ok lines) made = refl
          before_ok (Err why) made = absurd cc
      go (Err why) is found later = absurd cc

  pub missing_so : (body : List Bytes) (why : Fault) → looked_for words body ≡ Err why → expanded selection words body ≡ Err why
  missing_so [] why is = absurd cc
  missing_so (text ∷ rest) why is = go (filled words text) refl is (missing_so rest why)
    where
      go : (f : Result Bytes Fault) → filled words text ≡ f → (f >>= λ line. looked_for words rest) ≡ Err why → (looked_for words rest ≡ Err why → expanded selection words rest ≡ Err why)
          → (f >>= λ line. lines_before (run_of selection (trimmed line)) (expanded selection words rest)) ≡ Err why
      go (Ok line) is found later = rw (later found) refl
      go (Err other) is found later = cc

  -- a call ends as the one that looks for words
  pub refused_so : {X : Type 0} (view : X → List Bytes) (body : List Bytes) (halt : Halt) (r : Result X Halt) → IsErrAnd r (λ e. e ≡ halt)
      → Returns {X = Unit {0}} (λ done. done) (Err halt) (looked_for words body) → Returns view r (expanded selection words body)
  refused_so view body halt (Ok x) ends is = absurd ends
  refused_so view body halt (Err why) ends is = rw ends (go halt is)
    where
      go : (h : Halt) → Returns {X = Unit {0}} (λ done. done) (Err h) (looked_for words body) → Returns view (Err h) (expanded selection words body)
      go (ended.Refused why) is = missing_so body why is
      go ended.Memory is = tt

  pub made_so : (body : List Bytes) → IsOk (expanded selection words body) → expanded selection words body ≡ Ok (made_lines (expanded selection words body))
  made_so body made = go (expanded selection words body) made
    where
      go : (r : Result (List Bytes) Fault) → IsOk r → r ≡ Ok (made_lines r)
      go (Ok lines) made = refl
      go (Err why) made = absurd cc
