-- What `clap` makes of the words of the simple command, word by word.
use Rattle.std.proofs.Common.{◌≡◌, ◌≢◌, ℕ, Bool, true, false, ◌⊎◌, inl, inr, List, [], ◌∷◌, length, Option, None, Some, refl, sym, ap, subst, ◌∙◌, arith, true≢false, codes, drop}
use Rattle.std.specs.Prelude.{◌==◌, MatchOption, fold}
use Rattle.std.specs.Str.{bytes_eq, chars, IsUtf8}
use Rattle.std.specs.List.{list_any, before_first}
use Rattle.std.specs.Prelude.{slice_get, is_some}
use Rattle.std.proofs.Common.{zero, suc}
use Rattle.std.proofs.lemmas.Bool.Decides.{nat_tests}
use Rattle.std.proofs.lemmas.Cmp.{nat_list_eq_equiv}
use Rattle.clap.proofs.CutLemmas.{Lacks, before_first-Lacks}
use Rattle.clap.specs.Lexer.{has_byte}
use Rattle.std.specs.Char.{encode_utf8}
use Rattle.clap.specs.Faults.{flag_word_fault, bundle_fault}
use Rattle.std.proofs.lemmas.Str.{encodes-chars, IsUtf8-had}
use Rattle.std.specs.Prelude.{String, string_bytes, map}
use Rattle.std.proofs.lemmas.Bool.{cases_Bool, eqb-true, or_parts}
use Rattle.std.proofs.lemmas.Option.{none-some}
use Rattle.clap.specs.declared.error.kind.ErrorKind.{ErrorKind}
use Rattle.clap.specs.Lexer.{long_of, short_of, name_and_value}
use Rattle.clap.specs.Walk.{Rule, Row, Held, Walk, idle, walked, walk, settled, finished, nothing_held}
use Rattle.clap.specs.Simple.{App, Shape, new_app, new_rule, with_rule, on_top, built, is_simple, matches_of, entered}
use Rattle.clap.specs.Faults.{walk_fault, settle_fault, defaults_fault, check_fault, level_fault, turn_fault, flags_fault, fault_of, entered_fault, is_simple_and_free}
use Rattle.clap.specs.declared.parser.matches.ValueSource.TheVariants.{CommandLine}
use Rattle.clap.specs.Walk.{reading_by}
use Rattle.clap.specs.Simple.{filled}
use Rattle.clap.specs.Kinds.{Kinds, or_else}
use Rattle.clap.specs.declared.builder.action.ArgAction.TheVariants.{Set, SetTrue}
use Rattle.clap.proofs.OnLiterals.{clap_on_literals}
use Rattle.command_line.specs.Rows.{Holds}
use Rattle.plain_model.specs.Paths.{Bytes}
use Rattle.history_machine.specs.Words.{Asked, is_option}
use Rattle.command_line.proofs.Seen.{Seen, seen, seen_dashes, seen_fault, seen_flag, seen_name}
use Rattle.command_line.specs.WordByWord.{Kind, as_name, asked_from, by_kind, kind_of}
use Rattle.command_line.specs.WordByWord.Kind.{Dashes, Fault, Flag, Name}

abbrev pub flag_rule : Rule
flag_rule = record (new_rule (codes "keep-going")) { long = Some (codes "keep-going"); action = Some SetTrue }

abbrev pub script_rule : Rule
script_rule = record (new_rule (codes "script")) { required = true; action = Some Set }

abbrev pub quiet : App → App
quiet = on_top (λ s. record s { disable_help_flag = true; disable_version_flag = true })

abbrev pub surgeon : App
surgeon = with_rule (with_rule (quiet (new_app (codes "surgeon"))) flag_rule) script_rule

abbrev top : Shape
top = (built surgeon).top

abbrev rules : List Rule
rules = top.rules

pub simple : is_simple surgeon ≡ true
unfolding clap_on_literals
simple = refl

pub free : is_simple_and_free surgeon ≡ true
unfolding clap_on_literals
free = refl

-- what has been met: nothing, the flag, the script, the flag and then the script, or the script and then the flag
data Met : Type 0 where
  nothing : Met
  only_flag : Met
  only_script : Bytes → Met
  flag_first : Bytes → Met
  script_first : Bytes → Met

abbrev keep : Met → Bool
keep nothing = false
keep only_flag = true
keep (only_script s) = false
keep (flag_first s) = true
keep (script_first s) = true

abbrev script : Met → Option Bytes
script nothing = None
script only_flag = None
script (only_script s) = Some s
script (flag_first s) = Some s
script (script_first s) = Some s

abbrev flag_row : Row
flag_row = record {
  id = codes "keep-going";
  values = codes "true" ∷ [];
  count = None;
  source = Some CommandLine;
  reading = reading_by (filled flag_rule);
}

abbrev script_row : Bytes → Row
script_row s = record {
  id = codes "script";
  values = s ∷ [];
  count = None;
  source = Some CommandLine;
  reading = reading_by (filled script_rule);
}

abbrev held : Met → Held
held nothing = nothing_held
held only_flag = record { rows = flag_row ∷ []; pending = None; skip = 0 }
held (only_script s) = record { rows = []; pending = Some (codes "script", s ∷ []); skip = 0 }
held (flag_first s) = record { rows = flag_row ∷ []; pending = Some (codes "script", s ∷ []); skip = 0 }
held (script_first s) = record { rows = script_row s ∷ flag_row ∷ []; pending = None; skip = 0 }

abbrev place : Option Bytes → ℕ
place None = 1
place (Some s) = 2

-- the walk after these words, after `--` or before it
abbrev state : Met → Bool → Walk
state m after = record { held = held m; waiting = idle; position = place (script m); is_trailing = after; stopped = None }

name_after_dashes : (w : Bytes) → walked rules [] (state nothing true) w ≡ state (only_script w) true
unfolding clap_on_literals
name_after_dashes w = refl

flag_name_after_dashes : (w : Bytes) → walked rules [] (state only_flag true) w ≡ state (flag_first w) true
unfolding clap_on_literals
flag_name_after_dashes w = refl

flag_after_script : (s : Bytes) → walked rules [] (state (only_script s) false) (codes "--keep-going") ≡ state (script_first s) false
unfolding clap_on_literals
flag_after_script s = refl

flag_at_first : walked rules [] (state nothing false) (codes "--keep-going") ≡ state only_flag false
unfolding clap_on_literals
flag_at_first = refl

dashes_met : (m : Met) → walked rules [] (state m false) (codes "--") ≡ state m true
unfolding clap_on_literals
dashes_met m = refl

-- a name is neither a long nor a short option
plain_long : (word : Bytes) → is_option word ≡ false → long_of word ≡ None
plain_long [] h = refl
plain_long (c ∷ []) h = elim (cases_Bool (c == 45)) [ inl yes_it ↦ rw yes_it refl | inr no_it ↦ rw no_it refl ]
plain_long (c ∷ d ∷ rest) h = rw h refl

plain_short : (word : Bytes) → is_option word ≡ false → short_of word ≡ None
plain_short [] h = refl
plain_short (c ∷ []) h = elim (cases_Bool (c == 45)) [ inl yes_it ↦ rw yes_it refl | inr no_it ↦ rw no_it refl ]
plain_short (c ∷ d ∷ rest) h = rw h refl

name_at_first : (w : Bytes) → bytes_eq w (codes "--") ≡ false → is_option w ≡ false → walked rules [] (state nothing false) w ≡ state (only_script w) false
unfolding clap_on_literals
name_at_first w dash h = rw (dash, plain_long w h, plain_short w h) refl

name_after_flag : (w : Bytes) → bytes_eq w (codes "--") ≡ false → is_option w ≡ false → walked rules [] (state only_flag false) w ≡ state (flag_first w) false
unfolding clap_on_literals
name_after_flag w dash h = rw (dash, plain_long w h, plain_short w h) refl

abbrev pub Fails : Kinds → Type 0
Fails kinds = kinds ≢ []

no_fault_name : (w : Bytes) (m : Met) → script m ≡ None → bytes_eq w (codes "--") ≡ false → is_option w ≡ false → turn_fault top [] (state m false) w ≡ []
unfolding clap_on_literals
no_fault_name w nothing s dash h = rw (dash, plain_long w h, plain_short w h) refl
no_fault_name w only_flag s dash h = rw (dash, plain_long w h, plain_short w h) refl
no_fault_name w (only_script x) s dash h = absurd (none-some x (sym s))
no_fault_name w (flag_first x) s dash h = absurd (none-some x (sym s))
no_fault_name w (script_first x) s dash h = absurd (none-some x (sym s))

no_fault_trailing : (w : Bytes) (m : Met) → script m ≡ None → turn_fault top [] (state m true) w ≡ []
unfolding clap_on_literals
no_fault_trailing w nothing s = refl
no_fault_trailing w only_flag s = refl
no_fault_trailing w (only_script x) s = absurd (none-some x (sym s))
no_fault_trailing w (flag_first x) s = absurd (none-some x (sym s))
no_fault_trailing w (script_first x) s = absurd (none-some x (sym s))

some_kind : (k : ErrorKind) (ks : Kinds) → Fails (k ∷ ks)
some_kind k ks e = cc

-- a second script
second_trailing : (w x : Bytes) (m : Met) → script m ≡ Some x → Fails (turn_fault top [] (state m true) w)
unfolding clap_on_literals
second_trailing w x nothing s = absurd (none-some x s)
second_trailing w x only_flag s = absurd (none-some x s)
second_trailing w x (only_script y) s = some_kind _ _
second_trailing w x (flag_first y) s = some_kind _ _
second_trailing w x (script_first y) s = some_kind _ _

second_name : (w x : Bytes) (m : Met) → script m ≡ Some x → bytes_eq w (codes "--") ≡ false → is_option w ≡ false → Fails (turn_fault top [] (state m false) w)
unfolding clap_on_literals
second_name w x nothing s dash h = absurd (none-some x s)
second_name w x only_flag s dash h = absurd (none-some x s)
second_name w x (only_script y) s dash h = rw (dash, plain_long w h, plain_short w h) (some_kind _ _)
second_name w x (flag_first y) s dash h = rw (dash, plain_long w h, plain_short w h) (some_kind _ _)
second_name w x (script_first y) s dash h = rw (dash, plain_long w h, plain_short w h) (some_kind _ _)

-- the flag, and a second flag
no_fault_flag : (m : Met) → keep m ≡ false → turn_fault top [] (state m false) (codes "--keep-going") ≡ []
unfolding clap_on_literals
no_fault_flag nothing h = refl
no_fault_flag only_flag h = absurd (true≢false h)
no_fault_flag (only_script x) h = refl
no_fault_flag (flag_first x) h = absurd (true≢false h)
no_fault_flag (script_first x) h = absurd (true≢false h)

second_flag : (m : Met) → keep m ≡ true → Fails (turn_fault top [] (state m false) (codes "--keep-going"))
unfolding clap_on_literals
second_flag nothing h = absurd (true≢false (sym h))
second_flag only_flag h = some_kind _ _
second_flag (only_script x) h = absurd (true≢false (sym h))
second_flag (flag_first x) h = some_kind _ _
second_flag (script_first x) h = some_kind _ _

no_fault_dashes : (m : Met) → turn_fault top [] (state m false) (codes "--") ≡ []
unfolding clap_on_literals
no_fault_dashes m = refl

-- ---- a word that begins with `-` and is no flag

or_else_fails : (a b : Kinds) → Fails a → Fails (or_else a b)
or_else_fails [] b h = absurd (h refl)
or_else_fails (k ∷ ks) b h = some_kind k ks

lacks : (xs : Bytes) → list_any (λ x. x == 61) xs ≡ false → Lacks 61 xs
lacks [] h i lt e = absurd (omega arith)
lacks (x ∷ xs) h zero lt e = let parts = or_parts (x == 61) (list_any (λ y. y == 61) xs) h in grind (arith, nat_tests)
lacks (x ∷ xs) h (suc i) lt e = lacks xs (or_parts (x == 61) (list_any (λ y. y == 61) xs) h).1 i (omega arith) e

wrong_long : (e : ℕ) (es : Bytes) (h : Held) → bytes_eq (codes "keep-going") (e ∷ es) ≡ false → Fails (flag_word_fault rules false (Some (name_and_value (e ∷ es))) (45 ∷ 45 ∷ e ∷ es) h)
wrong_long e es h not_flag =
    elim (cases_Bool (has_byte 61 (e ∷ es))) [
      | inr no_value ↦
          let whole : before_first (λ x. x == 61) (e ∷ es) ≡ e ∷ es = before_first-Lacks 61 (e ∷ es) (lacks (e ∷ es) no_value) in
          rw (whole, no_value, not_flag) (some_kind _ _)
      | inl has_value ↦
          elim (cases_Bool (bytes_eq (codes "keep-going") (before_first (λ x. x == 61) (e ∷ es)))) [
            | inl yes_it ↦ rw (has_value, yes_it) (some_kind _ _)
            | inr no_it ↦ rw (has_value, no_it) (some_kind _ _)
          ]
    ]

no_head : (cs : Bytes) → slice_get cs 0 ≡ None → cs ≡ []
no_head [] h = refl
no_head (c ∷ cs) h = absurd (none-some c (sym h))

-- a text that begins with an ASCII byte has a character after it, if it has more bytes
char_there : (d : ℕ) (rest : Bytes) → IsUtf8 (45 ∷ d ∷ rest) → (o : Option ℕ) → slice_get (chars (d ∷ rest)) 0 ≡ o → o ≢ None
unfolding chars encode_utf8
char_there d rest utf8 None is_none e =
    let none = no_head _ is_none in
    let whole = encodes-chars (45 ∷ d ∷ rest) utf8 in
    let short : 45 ∷ [] ≡ 45 ∷ d ∷ rest = rw none at whole in
    absurd (omega (arith, ap length short))
char_there d rest utf8 (Some x) is_some e = none-some x (sym e)

wrong_short : (d : ℕ) (rest : Bytes) (h : Held) → h.skip ≡ 0 → (o : Option ℕ) → slice_get (chars (d ∷ rest)) 0 ≡ o → o ≢ None → Fails (bundle_fault rules false (d ∷ rest) h)
unfolding flags_fault
wrong_short d rest h skip None first some_char = absurd (some_char refl)
wrong_short d rest h skip (Some x) first some_char = rw (skip, first) (some_kind _ _)

reverse_test : (xs : Bytes) → bytes_eq (45 ∷ 45 ∷ xs) (codes "--keep-going") ≡ false → bytes_eq (codes "keep-going") xs ≡ false
reverse_test xs h = nat_list_eq_equiv.symm (codes "keep-going") xs ∙ h

unknown_short : (w flags : Bytes) (h : Held) → long_of w ≡ None → short_of w ≡ Some flags → Fails (bundle_fault rules false flags h) → Fails (flag_word_fault rules false (long_of w) w h)
unknown_short w flags h no_long is_short fails = rw (no_long, is_short) fails

-- the two together
wrong_word : (w : Bytes) (m : Met) (h : Held) → h.skip ≡ 0 → IsUtf8 w → bytes_eq w (codes "--") ≡ false → bytes_eq w (codes "--keep-going") ≡ false → is_option w ≡ true →
    Fails (flag_word_fault rules false (long_of w) w h)
wrong_word [] m h skip utf8 not_dashes not_flag is_opt = absurd (true≢false (sym is_opt))
wrong_word (c ∷ []) m h skip utf8 not_dashes not_flag is_opt = absurd (true≢false (sym is_opt))
wrong_word (c ∷ d ∷ rest) m h skip utf8 not_dashes not_flag is_opt =
    let minus : c ≡ 45 = eqb-true c 45 is_opt in
    rw minus (by_second d rest h skip (rw minus at utf8) (rw minus at not_dashes) (rw minus at not_flag) (cases_Bool (d == 45)))
  where
    by_second : (d : ℕ) (rest : Bytes) (h : Held) → h.skip ≡ 0 → IsUtf8 (45 ∷ d ∷ rest) → bytes_eq (45 ∷ d ∷ rest) (codes "--") ≡ false →
        bytes_eq (45 ∷ d ∷ rest) (codes "--keep-going") ≡ false → (d == 45) ≡ true ⊎ (d == 45) ≡ false →
        Fails (flag_word_fault rules false (long_of (45 ∷ d ∷ rest)) (45 ∷ d ∷ rest) h)
    by_second d rest h skip utf8 not_dashes not_flag (inr no_it) =
        unknown_short (45 ∷ d ∷ rest) (d ∷ rest) h (rw no_it refl) (rw no_it refl)
        (wrong_short d rest h skip (slice_get (chars (d ∷ rest)) 0) refl (char_there d rest utf8 (slice_get (chars (d ∷ rest)) 0) refl))
    by_second d [] h skip utf8 not_dashes not_flag (inl yes_it) = absurd (true≢false (sym (rw yes_it refl) ∙ not_dashes))
    by_second d (e ∷ es) h skip utf8 not_dashes not_flag (inl yes_it) =
        let minus : d ≡ 45 = eqb-true d 45 yes_it in
        rw minus (wrong_long e es h (reverse_test (e ∷ es) (rw minus at not_flag)))

fault_turn : (w : Bytes) (m : Met) → IsUtf8 w → bytes_eq w (codes "--") ≡ false → bytes_eq w (codes "--keep-going") ≡ false → is_option w ≡ true →
    Fails (turn_fault top [] (state m false) w)
fault_turn w nothing utf8 a b c = rw a (or_else_fails _ _ (wrong_word w nothing (held nothing) refl utf8 a b c))
fault_turn w only_flag utf8 a b c = rw a (or_else_fails _ _ (wrong_word w nothing (held only_flag) refl utf8 a b c))
fault_turn w (only_script x) utf8 a b c = rw a (or_else_fails _ _ (wrong_word w nothing (held (only_script x)) refl utf8 a b c))
fault_turn w (flag_first x) utf8 a b c = rw a (or_else_fails _ _ (wrong_word w nothing (held (flag_first x)) refl utf8 a b c))
fault_turn w (script_first x) utf8 a b c = rw a (or_else_fails _ _ (wrong_word w nothing (held (script_first x)) refl utf8 a b c))

-- ---- all the words

abbrev end_fault : Held → Kinds
end_fault h =
    or_else (settle_fault rules false h)
    (or_else (defaults_fault (settled rules h).rows rules) (check_fault top (finished rules h) false))

abbrev fault_from : Met → Bool → List Bytes → Kinds
fault_from m after ws = or_else (walk_fault top [] (state m after) ws) (end_fault (fold (walked rules []) (state m after) ws).held)

abbrev rows_from : Met → Bool → List Bytes → List Row
rows_from m after ws = finished rules (fold (walked rules []) (state m after) ws).held

-- the words are right, and the rows tell what they say; or there is a fault
abbrev pub Agrees : Option Asked → Kinds → List Row → Type 0
Agrees line kinds rows = MatchOption line (Fails kinds) (λ r. (kinds ≡ []) × Holds r rows)

at_end : (m : Met) (after : Bool) → Agrees (asked_from [] after (keep m) (script m)) (fault_from m after []) (rows_from m after [])
unfolding clap_on_literals
at_end nothing after = some_kind _ _
at_end only_flag after = some_kind _ _
at_end (only_script x) after = (refl, record { script_is = refl; flag_is = refl })
at_end (flag_first x) after = (refl, record { script_is = refl; flag_is = refl })
at_end (script_first x) after = (refl, record { script_is = refl; flag_is = refl })

-- a word that is right leads on
onward : (m n : Met) (after later : Bool) (w : Bytes) (ws : List Bytes) (line : Option Asked) →
    turn_fault top [] (state m after) w ≡ [] → walked rules [] (state m after) w ≡ state n later →
    Agrees line (fault_from n later ws) (rows_from n later ws) → Agrees line (fault_from m after (w ∷ ws)) (rows_from m after (w ∷ ws))
unfolding walk_fault
onward m n after later w ws line clean next h =
    let P : Walk → Type 0 = λ x. Agrees line (or_else (walk_fault top [] x ws) (end_fault (fold (walked rules []) x ws).held)) (finished rules (fold (walked rules []) x ws).held) in
    rw clean (subst P (sym next) h)

-- a word that is wrong ends it
stuck : (m : Met) (after : Bool) (w : Bytes) (ws : List Bytes) → Fails (turn_fault top [] (state m after) w) → Fails (fault_from m after (w ∷ ws))
unfolding walk_fault
stuck m after w ws h = or_else_fails _ _ (or_else_fails _ _ h)

abbrev pub AllUtf8 : List Bytes → Type 0
AllUtf8 [] = Unit {0}
AllUtf8 (w ∷ ws) = IsUtf8 w × AllUtf8 ws

abbrev Later : List Bytes → Type 0
Later ws = (n : Met) (later : Bool) → Agrees (asked_from ws later (keep n) (script n)) (fault_from n later ws) (rows_from n later ws)

named_after : (w : Bytes) (ws : List Bytes) (m : Met) → Later ws → Agrees (as_name w (script m) (asked_from ws true (keep m))) (fault_from m true (w ∷ ws)) (rows_from m true (w ∷ ws))
named_after w ws nothing later = onward nothing (only_script w) true true w ws _ (no_fault_trailing w nothing refl) (name_after_dashes w) (later (only_script w) true)
named_after w ws only_flag later = onward only_flag (flag_first w) true true w ws _ (no_fault_trailing w only_flag refl) (flag_name_after_dashes w) (later (flag_first w) true)
named_after w ws (only_script x) later = stuck (only_script x) true w ws (second_trailing w x (only_script x) refl)
named_after w ws (flag_first x) later = stuck (flag_first x) true w ws (second_trailing w x (flag_first x) refl)
named_after w ws (script_first x) later = stuck (script_first x) true w ws (second_trailing w x (script_first x) refl)

by_seen : (w : Bytes) (ws : List Bytes) (m : Met) (s : Kind) → Seen w s → IsUtf8 w → Later ws →
    Agrees (by_kind s (keep m) (script m) w (asked_from ws)) (fault_from m false (w ∷ ws)) (rows_from m false (w ∷ ws))
by_seen w ws m Dashes (seen_dashes e) utf8 later =
    rw e (onward m m false true (codes "--") ws _ (no_fault_dashes m) (dashes_met m) (later m true))
by_seen w ws m Fault (seen_fault a b c) utf8 later = stuck m false w ws (fault_turn w m utf8 a b c)
by_seen w ws nothing Flag (seen_flag e) utf8 later =
    rw e (onward nothing only_flag false false (codes "--keep-going") ws _ (no_fault_flag nothing refl) flag_at_first (later only_flag false))
by_seen w ws only_flag Flag (seen_flag e) utf8 later = rw e (stuck only_flag false (codes "--keep-going") ws (second_flag only_flag refl))
by_seen w ws (only_script x) Flag (seen_flag e) utf8 later =
    rw e (onward (only_script x) (script_first x) false false (codes "--keep-going") ws _ (no_fault_flag (only_script x) refl) (flag_after_script x) (later (script_first x) false))
by_seen w ws (flag_first x) Flag (seen_flag e) utf8 later = rw e (stuck (flag_first x) false (codes "--keep-going") ws (second_flag (flag_first x) refl))
by_seen w ws (script_first x) Flag (seen_flag e) utf8 later = rw e (stuck (script_first x) false (codes "--keep-going") ws (second_flag (script_first x) refl))
by_seen w ws nothing Name (seen_name a b) utf8 later =
    onward nothing (only_script w) false false w ws _ (no_fault_name w nothing refl a b) (name_at_first w a b) (later (only_script w) false)
by_seen w ws only_flag Name (seen_name a b) utf8 later =
    onward only_flag (flag_first w) false false w ws _ (no_fault_name w only_flag refl a b) (name_after_flag w a b) (later (flag_first w) false)
by_seen w ws (only_script x) Name (seen_name a b) utf8 later = stuck (only_script x) false w ws (second_name w x (only_script x) refl a b)
by_seen w ws (flag_first x) Name (seen_name a b) utf8 later = stuck (flag_first x) false w ws (second_name w x (flag_first x) refl a b)
by_seen w ws (script_first x) Name (seen_name a b) utf8 later = stuck (script_first x) false w ws (second_name w x (script_first x) refl a b)

agree : (ws : List Bytes) (m : Met) (after : Bool) → AllUtf8 ws → Agrees (asked_from ws after (keep m) (script m)) (fault_from m after ws) (rows_from m after ws)
agree [] m after utf8 = at_end m after
agree (w ∷ ws) m true utf8 = named_after w ws m (λ n later. agree ws n later utf8.1)
agree (w ∷ ws) m false utf8 = by_seen w ws m (kind_of w) (seen w) utf8.0 (λ n later. agree ws n later utf8.1)

-- the command has no subcommand to stop at
no_stop : (ws : List Bytes) (stop : Option (Bytes × List Bytes)) →
    level_fault top [] nothing_held ws (is_some (entered (built surgeon) stop)) (entered_fault (built surgeon) stop) ≡ fault_from nothing false ws
no_stop ws None = refl
no_stop ws (Some p) = refl

-- the words of the simple command, the program's name first
pub line_agrees : (words : List Bytes) → AllUtf8 (drop 1 words) → Agrees (asked_from (drop 1 words) false false None) (fault_of surgeon words) (matches_of surgeon words)
line_agrees words utf8 =
    let P : Kinds → Type 0 = λ k. Agrees (asked_from (drop 1 words) false false None) k (matches_of surgeon words) in
    subst P (sym (no_stop (drop 1 words) (walk rules [] nothing_held (drop 1 words)).stopped)) (agree (drop 1 words) nothing false utf8)

pub all_utf8 : {A : Type 0} (ws : List (String A)) → AllUtf8 (map string_bytes ws)
all_utf8 [] = tt
all_utf8 (w ∷ ws) = (IsUtf8-had (string_bytes w) w.ok, all_utf8 ws)

pub later_utf8 : (ws : List Bytes) → AllUtf8 ws → AllUtf8 (drop 1 ws)
later_utf8 [] h = tt
later_utf8 (w ∷ ws) h = h.1
