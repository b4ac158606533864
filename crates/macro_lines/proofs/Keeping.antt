-- What is kept of a line to which a piece comes.
use Rattle.std.proofs.Common.{◌≡◌, ◌≢◌, ℕ, ◌+◌, ◌<◌, ◌≤◌, ◌==◌, Bool, true, false, IsTrue, [], ◌∷◌, ◌++◌, length, refl, sym, ap, subst, ◌∙◌, append_assoc, arith}
use Rattle.std.specs.Prelude.{◌&&◌, ◌↔◌, IfOk, Option, Some, None, Result, Ok, Err, if◌then◌else◌}
use Rattle.std.specs.List.{list_all}
use Rattle.std.proofs.lemmas.Bool.{eqb-true}
use Rattle.std.proofs.lemmas.Bool.Decides.{nat_tests}
use Rattle.std.proofs.lemmas.List.{length-append}
use Rattle.std.proofs.lemmas.List.Folds.{list_all-append}
use Rattle.plain_model.specs.Paths.{Bytes}
use Rattle.plain_model.specs.declared.limit.TheConstants.{MAX_LINE_BYTES}
use Rattle.script_lines.specs.Scripts.{in_front, is_long, is_margin, is_nothing, trimmed, without_back, without_front}
use Rattle.script_reader.specs.Selecting.{wants_selection, with_selection}
use Rattle.macro_lines.specs.Macros.{run_of}
use Rattle.macro_lines.specs.Put.{EndsInBlanks}
use Rattle.macro_lines.proofs.Counted.{before_blanks, before_some, begins_later, cut_back, first_counts, goes_on, no_less, same_start}

long : (bytes : Bytes) → MAX_LINE_BYTES < length bytes → IsTrue (is_long bytes)
long bytes more = grind (arith, nat_tests, more)

long_so : (bytes : Bytes) → IsTrue (is_long bytes) → MAX_LINE_BYTES < length bytes
long_so bytes more = grind (arith, nat_tests, more)

-- what counts of a line that goes on, where something does
pub more : (put piece : Bytes) → 0 < length (without_front put) → without_front (put ++ piece) ≡ without_front put ++ piece
more put piece some = go (without_front put) refl some
  where
    go : (counted : Bytes) → without_front put ≡ counted → 0 < length counted → without_front (put ++ piece) ≡ counted ++ piece
    go [] is some = absurd (omega (arith, some))
    go (c ∷ cs) is some = goes_on put piece c cs is

both : {a b : Bool} → a ≡ true → b ≡ true → (a && b) ≡ true
both is also = rw (is, also) refl

first_of_all : (c : ℕ) (cs : Bytes) → list_all is_margin (c ∷ cs) ≡ true → is_margin c ≡ true
first_of_all c cs all = go (is_margin c) refl all
  where
    go : (m : Bool) → is_margin c ≡ m → (m && list_all is_margin cs) ≡ true → is_margin c ≡ true
    go true is all = is
    go false is all = absurd cc

true_is_not_false : true ≡ false → ⊥
true_is_not_false is = absurd cc

-- a test that fails holds of nothing that it tests
pub fails : {P : Type 0} (b : Bool) → IsTrue b ↔ P → b ≡ false → P → ⊥
fails b is isnt p = absurd (true_is_not_false (sym (is.1 p) ∙ isnt))

comment : (bytes : Bytes) → 0 < length bytes → is_nothing bytes ≡ true → (text : Bytes) × (bytes ≡ 35 ∷ text)
comment [] some is = absurd (omega (arith, some))
comment (b ∷ bs) some is = (bs, ap (λ (c : ℕ). c ∷ bs) (grind (arith, nat_tests, is)))

-- ---- a piece that comes to what counts

module _ (text piece counted put : Bytes) (whole : without_front put ≡ text ++ piece) (back : counted ≡ without_back piece) where
  pub full : (length text + length piece ≤ MAX_LINE_BYTES → ⊥) → length text + length counted ≤ MAX_LINE_BYTES → (now : Bytes) → now ≡ text ++ counted
      → EndsInBlanks now (without_front put) × (length now ≤ MAX_LINE_BYTES)
  full over within now is =
      let cut = cut_back piece in
      let same : text ++ piece ≡ now ++ cut.blanks =
      ap (λ (p : Bytes). text ++ p) (cut.is ∙ ap (λ (p : Bytes). p ++ cut.blanks) (sym back)) ∙ sym (append_assoc text counted cut.blanks) ∙ ap (λ (p : Bytes). p ++ cut.blanks) (sym is) in (
        (cut.blanks, cut.all, whole ∙ same, rw (whole, length-append text piece) (omega (arith, over))),
        rw (is, length-append text counted) within,
      )

  some_counts : (length text + length counted ≤ MAX_LINE_BYTES → ⊥) → length text ≤ MAX_LINE_BYTES → without_back piece ≢ []
  some_counts over few none = over (rw (back, none) (omega (arith, few)))

  not_empty : (length text + length counted ≤ MAX_LINE_BYTES → ⊥) → length text ≤ MAX_LINE_BYTES → 0 < length (text ++ piece)
  not_empty over few = rw (length-append text piece) (go piece refl)
    where
      go : (p : Bytes) → piece ≡ p → 0 < length text + length piece
      go [] is = absurd (some_counts over few (rw is refl))
      go (b ∷ bs) is = rw is (omega arith)

  pub is_comment : (length text + length counted ≤ MAX_LINE_BYTES → ⊥) → length text ≤ MAX_LINE_BYTES → is_nothing (text ++ piece) ≡ true
      → (rest : Bytes) × (without_front put ≡ 35 ∷ rest)
  is_comment over few is =
      let found = comment (text ++ piece) (not_empty over few) is in
      (found.0, whole ∙ found.1)

  pub is_too_long : (length text + length counted ≤ MAX_LINE_BYTES → ⊥) → length text ≤ MAX_LINE_BYTES → is_nothing (text ++ piece) ≡ false
      → IsTrue (is_long (trimmed put)) × (is_nothing (without_front put) ≡ false)
  is_too_long over few is =
      let all : trimmed put ≡ text ++ without_back piece = ap without_back whole ∙ before_some text piece (some_counts over few) in (
        rw all (long (text ++ without_back piece) (rw (length-append text (without_back piece), ← back) (omega (arith, over)))),
        rw whole is,
      )

-- ---- a piece that comes to a line

-- what counts is the text with the piece, or what counts of it where the text is empty
pub nothing_counts : (text put piece : Bytes) → text ≡ without_front put → text ≡ [] → without_front (put ++ piece) ≡ text ++ without_front piece
nothing_counts text put piece is none = begins_later put piece (sym is ∙ none) ∙ ap (λ (t : Bytes). t ++ without_front piece) (sym none)

pub some_counts_already : (text put piece : Bytes) → text ≡ without_front put → (text ≡ [] → ⊥) → without_front (put ++ piece) ≡ text ++ piece
some_counts_already text put piece is some = rw is (more put piece (go (without_front put) refl))
  where
    go : (counted : Bytes) → without_front put ≡ counted → 0 < length (without_front put)
    go [] none = absurd (some (is ∙ none))
    go (c ∷ cs) found = rw found (omega arith)

module _ (text put piece : Bytes) (ends : EndsInBlanks text (without_front put)) where
  goes : without_front (put ++ piece) ≡ (text ++ ends.0) ++ piece
  goes = more put piece (omega (arith, ends.3)) ∙ ap (λ (p : Bytes). p ++ piece) ends.2

  longer : MAX_LINE_BYTES < length ((text ++ ends.0) ++ piece)
  longer = rw (length-append (text ++ ends.0) piece, ← ends.2) (omega (arith, ends.3))

  -- more blanks
  pub still_full : without_back piece ≡ [] → EndsInBlanks text (without_front (put ++ piece))
  still_full none =
      let cut = cut_back piece in
      let blank : list_all is_margin piece ≡ true = subst (λ (p : Bytes). list_all is_margin p ≡ true) (sym (cut.is ∙ ap (λ (p : Bytes). p ++ cut.blanks) none)) cut.all in (
        ends.0 ++ piece,
        list_all-append is_margin ends.0 piece ∙ both ends.1 blank,
        goes ∙ append_assoc text ends.0 piece,
        subst (λ (p : Bytes). MAX_LINE_BYTES < length p) (sym goes) longer,
      )

  -- the text isn't empty
  some_text : (t : Bytes) → text ≡ t → 0 < length t
  some_text [] is = go (without_front put) refl
    where
      go : (counted : Bytes) → without_front put ≡ counted → 0 < 0
      go [] none = absurd (omega (arith, ends.3, ap length none))
      go (c ∷ cs) some =
          let blank : is_margin c ≡ true = first_of_all c cs (subst (λ (p : Bytes). list_all is_margin p ≡ true) (sym (ap (λ (t : Bytes). t ++ ends.0) is) ∙ sym ends.2 ∙ some) ends.1) in
          absurd (true_is_not_false (sym blank ∙ first_counts put c cs some))
  some_text (b ∷ bs) is = omega arith

  pub becomes_comment : is_nothing text ≡ true → (rest : Bytes) × (without_front (put ++ piece) ≡ 35 ∷ rest)
  becomes_comment is =
      let found = comment text (some_text text refl) is in
      ((found.0 ++ ends.0) ++ piece, goes ∙ ap (λ (t : Bytes). (t ++ ends.0) ++ piece) found.1)

  pub becomes_too_long : (without_back piece ≡ [] → ⊥) → is_nothing text ≡ false → IsTrue (is_long (trimmed (put ++ piece))) × (is_nothing (without_front (put ++ piece)) ≡ false)
  becomes_too_long some is =
      let all : trimmed (put ++ piece) ≡ (text ++ ends.0) ++ without_back piece = ap without_back goes ∙ before_some (text ++ ends.0) piece some in (
        rw all (long ((text ++ ends.0) ++ without_back piece) (rw (length-append (text ++ ends.0) (without_back piece), ← ends.2) (omega (arith, ends.3)))),
        rw goes (go text (some_text text refl) is),
      )
    where
      go : (t : Bytes) → 0 < length t → is_nothing t ≡ false → is_nothing ((t ++ ends.0) ++ piece) ≡ false
      go [] some is = absurd (omega (arith, some))
      go (b ∷ bs) some is = is

  -- what counts of it
  pub counted_full : trimmed put ≡ without_back text
  counted_full = ap without_back ends.2 ∙ before_blanks text ends.0 ends.1

pub still_too_long : (put piece : Bytes) → IsTrue (is_long (trimmed put)) × (is_nothing (without_front put) ≡ false)
    → IsTrue (is_long (trimmed (put ++ piece))) × (is_nothing (without_front (put ++ piece)) ≡ false)
still_too_long put piece kept = go (without_front put) refl
  where
    go : (counted : Bytes) → without_front put ≡ counted → IsTrue (is_long (trimmed (put ++ piece))) × (is_nothing (without_front (put ++ piece)) ≡ false)
    go [] none = absurd (omega (arith, long_so (trimmed put) kept.0, ap (λ (p : Bytes). length (without_back p)) none))
    go (c ∷ cs) some =
        let goes = goes_on put piece c cs some in (
          rw goes (long (without_back ((c ∷ cs) ++ piece)) (omega (arith, no_less (c ∷ cs) piece, long_so (without_back (c ∷ cs)) (subst (λ (p : Bytes). IsTrue (is_long (without_back p))) some kept.0)))),
          rw goes (subst (λ (p : Bytes). is_nothing p ≡ false) some kept.1),
        )

pub still_comment : (put piece : Bytes) → (text : Bytes) × (without_front put ≡ 35 ∷ text) → (text : Bytes) × (without_front (put ++ piece) ≡ 35 ∷ text)
still_comment put piece kept = (kept.0 ++ piece, goes_on put piece 35 kept.0 kept.1)

-- ---- what is run of it

-- a comment isn't run
pub comment_is_nothing : (put : Bytes) → (text : Bytes) × (without_front put ≡ 35 ∷ text) → is_nothing (trimmed put) ≡ true
comment_is_nothing put kept = rw kept.1 (go (without_back kept.0))
  where
    go : (rest : Bytes) → is_nothing (in_front 35 rest) ≡ true
    go [] = refl
    go (c ∷ cs) = refl

-- a line that is too long is run
pub too_long_is_run : (put : Bytes) → IsTrue (is_long (trimmed put)) × (is_nothing (without_front put) ≡ false) → is_nothing (trimmed put) ≡ false
too_long_is_run put kept = same_start (without_front put) (λ none. omega (arith, long_so (trimmed put) kept.0, ap length none)) ∙ kept.1

-- ---- no bytes

pub empty_so : (bytes : Bytes) (b : Bool) → b ≡ (length bytes == 0) → b ≡ true → bytes ≡ []
empty_so [] b is holds = refl
empty_so (c ∷ cs) b is holds = absurd (omega (arith, eqb-true (length (c ∷ cs)) 0 (sym is ∙ holds)))

pub some_so : (bytes : Bytes) (b : Bool) → b ≡ (length bytes == 0) → b ≡ false → bytes ≡ [] → ⊥
some_so [] b is fails none = absurd (true_is_not_false (sym is ∙ fails))
some_so (c ∷ cs) b is fails none = absurd cc

-- what holds of an answer, from what is known of it
pub ok_with : {X E : Type 0} {P Q : X → Type 0} (r : Result X E) → ((x : X) → P x → Q x) → IfOk r P → IfOk r Q
ok_with (Ok x) more known = more x known
ok_with (Err e) more known = tt

-- ---- what is run of a line that was put together

pub takes_nothing : (selection : Option Bytes) (put : Bytes) → (text : Bytes) × (without_front put ≡ 35 ∷ text) → run_of selection (trimmed put) ≡ []
takes_nothing selection put kept = rw (comment_is_nothing put kept) refl

pub takes_long : (selection : Option Bytes) (put : Bytes) → IsTrue (is_long (trimmed put)) × (is_nothing (without_front put) ≡ false)
    → (first : Bytes) × IsTrue (is_long first) × (run_of selection (trimmed put) ≡ first ∷ [])
takes_long selection put kept = (
  with_selection selection (trimmed put),
  longer_with selection (trimmed put) kept.0,
  rw (too_long_is_run put kept) refl,
)
  where
    longer_with : (s : Option Bytes) (line : Bytes) → IsTrue (is_long line) → IsTrue (is_long (with_selection s line))
    longer_with None line more = more
    longer_with (Some s) line more = go (wants_selection line)
      where
        go : (b : Bool) → IsTrue (is_long (if b then s ++ 32 ∷ line else line))
        go true = long (s ++ 32 ∷ line) (rw (length-append s (32 ∷ line)) (omega (arith, long_so line more)))
        go false = more
