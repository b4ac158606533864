-- Names of repositories, and the option after them, are read as they are written.
use Rattle.std.proofs.Common.{◌≡◌, Bool, true, false, not, List, [], ◌∷◌, ◌++◌, map, Ok, refl, sym, ap, ◌∙◌, append_assoc, append-nil}
use Rattle.std.specs.Prelude.{◌&&◌, ◌||◌, bytes_eq}
use Rattle.std.specs.List.{list_all, list_any}
use Rattle.std.proofs.lemmas.Bool.{and_parts, not-true, or_parts}
use Rattle.plain_model.specs.Paths.{Bytes}
use Rattle.byte_sets.proofs.Sets.{turned}
use Rattle.script_reader.specs.Commands.{ends_names, is_prune, prune_within, united_with}
use Rattle.script_reader.specs.Written.{are_apart, is_not_last, prune_words, word_for}
use Rattle.script_reader.specs.declared.command.Command.TheVariants as command
use Rattle.script_reader.proofs.WrittenTexts.{before_again}

pub prune_again : (prune : Bool) → prune_within (prune_words prune) ≡ Ok prune
prune_again false = refl
prune_again true = refl

-- none of these names is among those before
abbrev are_new : List Bytes → List Bytes → Bool
are_new before names = list_all (λ name. not (list_any (bytes_eq name) before)) names

-- with one more before them, that isn't among them
still_new : (before : List Bytes) (name : Bytes) (names : List Bytes) → are_new before names ≡ true → list_any (bytes_eq name) names ≡ false → are_new (before ++ name ∷ []) names ≡ true
still_new before name [] new other = refl
still_new before name (next ∷ names) new other =
    let news = and_parts (not (list_any (bytes_eq next) before)) (are_new before names) new in
    let others = or_parts (bytes_eq name next) (list_any (bytes_eq name) names) other in
    ap (λ b. b && are_new (before ++ name ∷ []) names) (ap not (grown before (not-true (list_any (bytes_eq next) before) news.0) (turned next name ∙ others.0)))
    ∙ still_new before name names news.1 others.1
  where
    grown : (before : List Bytes) → list_any (bytes_eq next) before ≡ false → bytes_eq next name ≡ false → list_any (bytes_eq next) (before ++ name ∷ []) ≡ false
    grown [] none other = ap (λ b. b || false) other
    grown (b ∷ before) none other =
        let parts = or_parts (bytes_eq next b) (list_any (bytes_eq next) before) none in
        ap (λ x. x || list_any (bytes_eq next) (before ++ name ∷ [])) parts.0 ∙ grown before parts.1 other

all_new : (names : List Bytes) → are_new [] names ≡ true
all_new [] = refl
all_new (name ∷ names) = all_new names

-- with the option after them
pruned : (before names : List Bytes) → are_new before names ≡ true → are_apart names ≡ true
    → united_with before (map word_for names ++ prune_words true) ≡ Ok (command.Unite (before ++ names) true)
pruned before [] new apart = ap (λ (names : List Bytes). Ok (command.Unite names true)) (sym (append-nil before))
pruned before (name ∷ names) new apart =
    let news = and_parts (not (list_any (bytes_eq name) before)) (are_new before names) new in
    let aparts = and_parts (not (list_any (bytes_eq name) names)) (are_apart names) apart in
    rw (before_again (map word_for names ++ prune_words true) name, more names, not-true (list_any (bytes_eq name) before) news.0)
    (pruned (before ++ name ∷ []) names (still_new before name names news.1 (not-true (list_any (bytes_eq name) names) aparts.0)) aparts.1
    ∙ ap (λ (all : List Bytes). Ok (command.Unite all true)) (append_assoc before (name ∷ []) names))
  where
    more : (names : List Bytes) → ends_names (map word_for names ++ prune_words true) name ≡ false
    more [] = refl
    more (next ∷ names) = refl

-- and without it
plain : (before names : List Bytes) → are_new before names ≡ true → are_apart names ≡ true → is_not_last is_prune names ≡ true
    → united_with before (map word_for names) ≡ Ok (command.Unite (before ++ names) false)
plain before [] new apart ends = ap (λ (names : List Bytes). Ok (command.Unite names false)) (sym (append-nil before))
plain before (name ∷ names) new apart ends =
    let news = and_parts (not (list_any (bytes_eq name) before)) (are_new before names) new in
    let aparts = and_parts (not (list_any (bytes_eq name) names)) (are_apart names) apart in
    rw (before_again (map word_for names) name, last names ends, not-true (list_any (bytes_eq name) before) news.0)
    (plain (before ++ name ∷ []) names (still_new before name names news.1 (not-true (list_any (bytes_eq name) names) aparts.0)) aparts.1 (others names ends)
    ∙ ap (λ (all : List Bytes). Ok (command.Unite all false)) (append_assoc before (name ∷ []) names))
  where
    last : (names : List Bytes) → is_not_last is_prune (name ∷ names) ≡ true → ends_names (map word_for names) name ≡ false
    last [] ends = not-true (is_prune name) ends
    last (next ∷ names) ends = refl

    others : (names : List Bytes) → is_not_last is_prune (name ∷ names) ≡ true → is_not_last is_prune names ≡ true
    others [] ends = refl
    others (next ∷ names) ends = ends

pub united_pruned_again : (names : List Bytes) → are_apart names ≡ true → united_with [] (map word_for names ++ prune_words true) ≡ Ok (command.Unite names true)
united_pruned_again names apart = pruned [] names (all_new names) apart

pub united_again : (names : List Bytes) → are_apart names ≡ true → is_not_last is_prune names ≡ true
    → united_with [] (map word_for names ++ prune_words false) ≡ Ok (command.Unite names false)
united_again names apart ends = ap (united_with []) (append-nil (map word_for names)) ∙ plain [] names (all_new names) apart ends
