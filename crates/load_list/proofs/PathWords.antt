-- Words that say paths, one after another.
use Rattle.std.proofs.Common.{◌≡◌, ◌≢◌, ℕ, zero, suc, ◌+◌, ◌<◌, ◌≤◌, Bool, true, false, List, [], ◌∷◌, ◌++◌, length, get_or, drop, arith, Option, Some, None, Result, Ok, Err, Bor, append-nil, append_assoc, refl, sym, ap, subst, ◌∙◌}
use Rattle.std.specs.Prelude.{◌==◌, option_map, if◌then◌else◌}
use Rattle.std.specs.Option.{MatchOption, option_copied}
use Rattle.std.proofs.lemmas.Bool.Decides.{Decides-eqb}
use Rattle.std.proofs.Math.Seq.{drop-cons}
use Rattle.plain_model.specs.Paths.{Bytes}
use Rattle.plain_model.specs.declared.fault.Fault.{Fault}
use Rattle.plain_model.specs.declared.fault.Halt.{Halt}
use Rattle.byte_patterns.specs.Judging.{Judged, Judges, ◌>>>◌, plainly}
use Rattle.byte_patterns.proofs.Judged.{one_by_one, stopped, went_on}
use Rattle.expunge_laws.specs.Matching.{Matches}
use Rattle.history_machine.specs.PathWords.{before_slash, between_slashes, matches_by, matches_of}

-- ---- slashes

pub slash_cut : (front : Bytes) → before_slash (front ++ 47 ∷ []) ≡ Some front
slash_cut [] = refl
slash_cut (b ∷ []) = refl
slash_cut (b ∷ c ∷ front) = ap (option_map (λ rest. b ∷ rest)) (slash_cut (c ∷ front))

pub no_slash_after : (bs : Bytes) → ((front : Bytes) → bs ≢ front ++ 47 ∷ []) → before_slash bs ≡ None
no_slash_after [] other = refl
no_slash_after (b ∷ []) other = go (b == 47) refl
  where
    go : (is : Bool) → (b == 47) ≡ is → ◌≡◌ {A = Option Bytes} (if is then Some [] else None) None
    go false e = refl
    go true e = absurd (other [] (ap (λ x. x ∷ []) ((Decides-eqb b 47).0 e)))
no_slash_after (b ∷ c ∷ bs) other = ap (option_map (λ rest. b ∷ rest)) (no_slash_after (c ∷ bs) (λ front e. other (b ∷ front) (ap (λ l. b ∷ l) e)))

pub no_slash_before : (bs : Bytes) → ((rest : Bytes) → bs ≢ 47 ∷ rest) → between_slashes bs ≡ None
no_slash_before [] other = refl
no_slash_before (b ∷ bs) other = go (b == 47) refl
  where
    go : (is : Bool) → (b == 47) ≡ is → (if is then before_slash bs else None) ≡ None
    go false e = refl
    go true e = absurd (other bs (ap (λ x. x ∷ bs) ((Decides-eqb b 47).0 e)))

-- what is cut off behind a slash
pub slashes_cut : (word rest : Bytes) (r : Option (Bor (List ℕ))) → word ≡ 47 ∷ rest → MatchOption r ((front : Bytes) → rest ≢ front ++ 47 ∷ []) (λ x. rest ≡ x.now ++ 47 ∷ [])
    → option_copied r ≡ between_slashes word
slashes_cut word rest (Some x) is cut = sym (ap between_slashes is ∙ ap before_slash cut ∙ slash_cut x.now)
slashes_cut word rest None is other = sym (ap between_slashes is ∙ no_slash_after rest other)

-- ---- what words match

abbrev pub AreJudged : ℕ → ℕ → Result (List Matches) Halt → Judged (List Matches) → Type 0
AreJudged before now r judged = Judges {X = List Matches} (λ matchers. matchers) before now r judged

-- what words match, after what others match
abbrev pub after_others : List Matches → List Bytes → Judged (List Matches)
after_others so_far words = matches_of words >>> λ others. plainly (Ok (so_far ++ others))

one_more : (so_far : List Matches) (word : Bytes) (words : List Bytes)
    → after_others so_far (word ∷ words) ≡ (matches_by word (between_slashes word) >>> λ one. matches_of words >>> λ others. plainly (Ok (so_far ++ one ∷ others)))
one_more so_far word words =
    one_by_one (matches_by word (between_slashes word)) (λ one. matches_of words >>> λ others. plainly (Ok (one ∷ others))) (λ others. plainly (Ok (so_far ++ others)))
    ∙ λ i. (matches_by word (between_slashes word) >>> λ one. one_by_one (matches_of words) (λ others. plainly (Ok (one ∷ others))) (λ others. plainly (Ok (so_far ++ others))) i)

pub word_refused : (a b : ℕ) (ended : Halt) (so_far : List Matches) (word : Bytes) (words all : List Bytes) → all ≡ word ∷ words
    → Judges {X = Matches} (λ one. one) a b (Err ended) (matches_by word (between_slashes word)) → AreJudged a b (Err ended) (after_others so_far all)
word_refused a b ended so_far word words all is h =
    subst (λ (l : List Bytes). AreJudged a b (Err ended) (after_others so_far l)) (sym is)
    (subst (AreJudged a b (Err ended)) (sym (one_more so_far word words))
    (stopped (λ one. one) (λ matchers. matchers) a b ended (matches_by word (between_slashes word)) (λ one. matches_of words >>> λ others. plainly (Ok (so_far ++ one ∷ others))) h))

pub word_judged : (a b c : ℕ) (r : Result (List Matches) Halt) (so_far : List Matches) (one : Matches) (word : Bytes) (words all : List Bytes) → all ≡ word ∷ words
    → (matches_by word (between_slashes word)).value ≡ Ok one → a ≤ b → AreJudged b c r (after_others (so_far ++ one ∷ []) words) → AreJudged a c r (after_others so_far all)
word_judged a b c r so_far one word words all is judged le h =
    subst (λ (l : List Bytes). AreJudged a c r (after_others so_far l)) (sym is)
    (subst (AreJudged a c r) (sym (one_more so_far word words))
    (went_on (λ matchers. matchers) a b c r (matches_by word (between_slashes word)) one (λ one. matches_of words >>> λ others. plainly (Ok (so_far ++ one ∷ others))) judged le
    (subst (AreJudged b c r) (λ i. (matches_of words >>> λ others. plainly (Ok (append_assoc so_far (one ∷ []) others i)))) h)))

-- the word at a place, and those after it
pub next_word : (words : List Bytes) (i : ℕ) (word : Bytes) → i < length words → word ≡ get_or words i word → drop i words ≡ word ∷ drop (i + 1) words
next_word words i word lt is =
    let k : suc i ≡ i + 1 = omega arith in
    drop-cons words i word lt ∙ ap (λ x. x ∷ drop (suc i) words) (sym is) ∙ ap (λ j. word ∷ drop j words) k

gone : (words : List Bytes) (i : ℕ) → length words ≤ i → drop i words ≡ []
gone [] zero h = refl
gone [] (suc i) h = refl
gone (w ∷ words) zero h = absurd (omega arith)
gone (w ∷ words) (suc i) h = gone words i (omega arith)

-- after all of them
pub all_judged : (a b : ℕ) (so_far : List Matches) (words : List Bytes) (i : ℕ) → length words ≤ i → AreJudged a b (Ok so_far) (after_others so_far (drop i words))
all_judged a b so_far words i end = rw (gone words i end) (ap ok (append-nil so_far))
  where
    ok : List Matches → Result (List Matches) Fault
    ok matchers = Ok matchers
