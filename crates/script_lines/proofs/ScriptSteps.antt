-- The items of a script, line by line.
use Rattle.std.proofs.Common.{◌≡◌, ℕ, ◌+◌, ◌++◌, ◌∷◌, List, Result, Ok, Err, false, true, refl, sym, ap, ◌∙◌, append_assoc, IsUtf8}
use Rattle.std.proofs.lemmas.Bool.{false_from_ne_true}
use Rattle.std.specs.Str.{is_utf8}
use Rattle.std.proofs.lemmas.Str.{IsUtf8-from_is_utf8, is_utf8-from_IsUtf8}
use Rattle.plain_model.specs.Paths.{Bytes}
use Rattle.plain_model.specs.declared.fault.Fault.{Fault}
use Rattle.script_lines.specs.Scripts.{bad_at, before, item_at, place_after, script_from, trimmed}
use Rattle.script_lines.specs.declared.script.Place.{Place}
use Rattle.script_lines.specs.declared.script.ScriptItem.{ScriptItem}

before_both : (a b : List ScriptItem) (r : Result (List ScriptItem) Fault) → before a (before b r) ≡ before (a ++ b) r
before_both a b (Ok items) = ap Ok (sym (append_assoc a b items))
before_both a b (Err why) = refl

-- the lines from the n-th on, the first of them and what follows it
module _ (n : ℕ) (place : Place) (items : List ScriptItem) (whole : Result (List ScriptItem) Fault) (rest more : List Bytes) (line : Bytes)
    (cut : rest ≡ line ∷ more) (so_far : before items (script_from n place rest) ≡ whole)
  where
    -- a line that isn't UTF-8, after lines that are
    pub bad_here : (IsUtf8 line → ⊥) → whole ≡ Err (bad_at n place more)
    bad_here bad =
        let unfit : is_utf8 line ≡ false = false_from_ne_true (is_utf8 line) (λ fits. bad (IsUtf8-from_is_utf8 line fits)) in
        let found : script_from n place rest ≡ Err (bad_at n place more) = rw (cut, unfit) refl in
        sym so_far ∙ ap (before items) found

    -- a line that is, of which the code has what counts
    pub good_on : (now : List ScriptItem) (after : Place) (text : Bytes) → IsUtf8 line → text ≡ trimmed line
        → now ≡ items ++ item_at n place text → after ≡ place_after n place text → before now (script_from (n + 1) after more) ≡ whole
    good_on now after text good same is there =
        let fits : is_utf8 line ≡ true = is_utf8-from_IsUtf8 line good in
        let on : script_from n place rest ≡ before (item_at n place (trimmed line)) (script_from (n + 1) (place_after n place (trimmed line)) more) =
        rw (cut, fits) refl in
        rw (is, there, same) (sym (before_both items (item_at n place (trimmed line)) (script_from (n + 1) (place_after n place (trimmed line)) more))
        ∙ ap (before items) (sym on) ∙ so_far)
