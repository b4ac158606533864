-- Reading word by word keeps the rule in whole words.
use Rattle.std.proofs.Common.{◌≡◌, ℕ, ◌+◌, Bool, true, false, cond, ◌||◌, nat_lt, inl, inr, List, [], ◌∷◌, ◌++◌, Option, None, Some, refl, sym, ◌∙◌, arith, codes, drop, true≢false}
use Rattle.std.specs.List.{list_any}
use Rattle.std.specs.Option.{option_to_list}
use Rattle.std.specs.Cmp.Lexicographic.{same_text}
use Rattle.std.proofs.lemmas.Bool.{cases_Bool}
use Rattle.std.proofs.lemmas.Bool.Decides.{nat_tests}
use Rattle.std.proofs.Math.Bool.{or-false}
use Rattle.plain_model.specs.Paths.{Bytes}
use Rattle.history_machine.specs.Words.{Asked, asked, asked_after, flag_count, front, is_fault, is_flag, is_option, scripts, with_script}
use Rattle.command_line.proofs.Seen.{Seen, seen, seen_dashes, seen_fault, seen_flag, seen_name}
use Rattle.command_line.specs.WordByWord.{asked_from, by_kind, kind_of}
use Rattle.command_line.specs.WordByWord.{Kind}
use Rattle.command_line.specs.WordByWord.Kind.{Dashes, Flag, Fault, Name}

-- the rule from a state on
abbrev reports : Bool → ℕ → Bool → List Bytes → Option Asked
reports faults flags keep all = cond faults None (cond (nat_lt 1 flags) None (with_script keep all))

abbrev with_one : Bool → ℕ → ℕ
with_one k n = cond k (n + 1) n

never : (f : Bool) (n : ℕ) (k : Bool) (s t : Bytes) (words : List Bytes) → None ≡ reports f n k (s ∷ t ∷ words)
never true n k s t words = refl
never false n k s t words = elim (cases_Bool (nat_lt 1 n)) [ inl yes_it ↦ rw yes_it refl | inr no_it ↦ rw no_it refl ]

after_dashes : (words : List Bytes) (k : Bool) (o : Option Bytes) → asked_from words true k o ≡ with_script k (option_to_list o ++ words)
after_dashes [] k None = refl
after_dashes [] k (Some s) = refl
after_dashes (w ∷ words) k None = after_dashes words k (Some w)
after_dashes (w ∷ words) k (Some s) = refl

few : (k : Bool) → nat_lt 1 (with_one k 0) ≡ false
few true = refl
few false = refl

abbrev rule_from : List Bytes → Bool → Option Bytes → Option Asked
rule_from words k o =
    reports (list_any is_fault (front words)) (with_one k (flag_count (front words))) (k || list_any is_flag (front words)) (option_to_list o ++ scripts words)

twice : (f : Bool) (c : ℕ) (k : Bool) (all : List Bytes) → None ≡ reports f ((c + 1) + 1) k all
twice true c k all = refl
twice false c k all = let many : nat_lt 1 ((c + 1) + 1) ≡ true = grind (arith, nat_tests) in rw many refl

no_flag : (w : Bytes) → is_option w ≡ false → is_flag w ≡ false
no_flag w h =
    elim (cases_Bool (is_flag w)) [
      | inl yes_it ↦ (let same : w ≡ codes "--keep-going" = same_text w (codes "--keep-going") (sym yes_it) in absurd (true≢false (sym (rw same refl) ∙ h)))
      | inr no_it ↦ no_it
    ]

by_seen : (w : Bytes) (words : List Bytes) (k : Bool) (o : Option Bytes) (kind : Kind) → Seen w kind
    → ((k : Bool) (o : Option Bytes) → asked_from words false k o ≡ rule_from words k o) → by_kind kind k o w (asked_from words) ≡ rule_from (w ∷ words) k o
by_seen w words k o Dashes (seen_dashes e) rec = rw (e, few k, or-false k) (after_dashes words k o)
by_seen w words false o Flag (seen_flag e) rec = rw e (rec true o)
by_seen w words true o Flag (seen_flag e) rec = rw e (twice (list_any is_fault (front words)) (flag_count (front words)) true (option_to_list o ++ scripts words))
by_seen w words k o Fault (seen_fault a b c) rec = rw (a, b, c) refl
by_seen w words k None Name (seen_name a b) rec = rw (a, no_flag w b, b) (rec k (Some w))
by_seen w words k (Some s) Name (seen_name a b) rec = rw (a, no_flag w b, b) (never (list_any is_fault (front words)) (with_one k (flag_count (front words))) (k || list_any is_flag (front words)) s w (scripts words))

agree : (words : List Bytes) (k : Bool) (o : Option Bytes) → asked_from words false k o ≡ rule_from words k o
agree [] k None = rw (few k) refl
agree [] k (Some s) = rw (few k, or-false k) refl
agree (w ∷ words) k o = by_seen w words k o (kind_of w) (seen w) (agree words)

word_by_word : (words : List Bytes) → asked_from words false false None ≡ asked_after words
word_by_word words = agree words false None

-- the same of all words, the program's name first
pub all_words : (words : List Bytes) → asked_from (drop 1 words) false false None ≡ asked words
unfolding asked
all_words [] = refl
all_words (w ∷ words) = word_by_word words
