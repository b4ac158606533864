-- From `clap`'s clauses to the rule of the line.
use Rattle.std.proofs.Common.{◌≡◌, Bool, true, false, inl, inr, List, [], Option, None, Some, Result, Ok, Err, refl, ◌∙◌, subst, codes, drop}
use Rattle.std.specs.Prelude.{IfOk, if◌then◌else◌}
use Rattle.clap.specs.Words.{App, HasMatchesOf, FailsBy, Kinds, IsAmong, Row, found_of, kind_of, rows_of, fault_of, matches_of, is_simple_and_free, first_value, one_text}
use Rattle.clap.specs.declared.parser.matches.ArgMatches.{ArgMatches}
use Rattle.clap.specs.declared.parser.matches.Found.{Found}
use Rattle.clap.specs.declared.error.Error.{Error}
use Rattle.clap.specs.declared.error.kind.ErrorKind.{ErrorKind}
use Rattle.clap.proofs.WalkLemmas.{first_value-rows, one_text-rows}
use Rattle.plain_model.specs.Paths.{Bytes}
use Rattle.history_machine.specs.Words.{Asked}
use Rattle.command_line.specs.Rows.{Holds, Parses}
use Rattle.command_line.specs.WordByWord.{asked_from}
use Rattle.command_line.proofs.Walked.{surgeon, simple, free, Agrees, AllUtf8, line_agrees, later_utf8}

found : (o : Option Asked) (kinds : Kinds) (rows : List Row) → Agrees o kinds rows → kinds ≡ [] → (r : Asked) × (o ≡ Some r) × Holds r rows
found None kinds rows h none = absurd (h none)
found (Some r) kinds rows h none = (r, refl, h.1)

refused : (o : Option Asked) (kinds : Kinds) (rows : List Row) (k : ErrorKind) → Agrees o kinds rows → IsAmong k kinds → o ≡ None
refused None kinds rows k h among = refl
refused (Some r) kinds rows k h among = let P : Kinds → Type 0 = λ ks. IsAmong k ks in absurd (subst P h.0 among)

by_result : (words : List Bytes) → AllUtf8 words → (r : Result ArgMatches Error) → FailsBy (fault_of surgeon words) r → IfOk r (HasMatchesOf surgeon words) → Parses (asked_from (drop 1 words) false false None) r
by_result words utf8 (Ok m) none matches =
    let same : rows_of (found_of m) ≡ matches_of surgeon words = (matches simple).0 in
    rw same (found (asked_from (drop 1 words) false false None) (fault_of surgeon words) (matches_of surgeon words) (line_agrees words (later_utf8 words utf8)) none)
by_result words utf8 (Err e) (inl memory) matches = inl memory
by_result words utf8 (Err e) (inr among) matches =
    inr (refused (asked_from (drop 1 words) false false None) (fault_of surgeon words) (matches_of surgeon words) (kind_of e) (line_agrees words (later_utf8 words utf8)) among)

-- what `try_get_matches_from` ensures of the command
pub outcome : (a : App) → a ≡ surgeon → (words : List Bytes) → AllUtf8 words → (r : Result ArgMatches Error) →
    (is_simple_and_free a ≡ true → FailsBy (fault_of a words) r) → IfOk r (HasMatchesOf a words) → Parses (asked_from (drop 1 words) false false None) r
outcome a e words utf8 r kinds matches = by_result words utf8 r ((rw e at kinds) free) (rw e at matches)

-- what the getters read
pub script_text : (f : Found) (r : Asked) → Holds r (rows_of f) → first_value f (codes "script") ≡ Some r.script
script_text f r h = first_value-rows f (codes "script") ∙ h.script_is

pub flag_text : (f : Found) (r : Asked) → Holds r (rows_of f) → one_text f (codes "keep-going") ≡ Some (if r.keep_going then codes "true" else codes "false")
flag_text f r h = one_text-rows f (codes "keep-going") ∙ h.flag_is

-- a flag that reads as `true` or `false` is the flag that the line tells
pub flag_is : (f : Found) (r : Asked) (b : Bool) → Holds r (rows_of f) →
    (one_text f (codes "keep-going") ≡ Some (codes "true") → b ≡ true) → (one_text f (codes "keep-going") ≡ Some (codes "false") → b ≡ false) → b ≡ r.keep_going
flag_is f r b h on_true on_false = go r.keep_going (flag_text f r h)
  where
    go : (k : Bool) → one_text f (codes "keep-going") ≡ Some (if k then codes "true" else codes "false") → b ≡ k
    go true is = on_true is
    go false is = on_false is
