use Rattle.std.proofs.Common.{rules, ◌≡◌, Bool, None, Some, drop, false, map, string_bytes, ◌∙◌, sym, ap₂}
use Rattle.command_line.specs.WordByWord.{asked_from}
use Rattle.std.proofs.lemmas.Option.{same_Some, none-some}
use Rattle.clap.specs.Words.{found_of}
use Rattle.plain_model.specs.Paths.{Bytes}
use Rattle.history_machine.specs.Words.{Asked}
use Rattle.command_line.proofs.WordsAgree.{all_words}
use Rattle.command_line.proofs.Outcome.{script_text, flag_is}
use Rattle.command_line.proofs.words.asked_in.Goals as goal

both : (b : Bool) (s : Bytes) (r : Asked) → b ≡ r.keep_going → s ≡ r.script → Some (record { keep_going = b; script = s }) ≡ Some r
both b s r e f = ap₂ (λ (x : Bool) (y : Bytes). Some (record { keep_going = x; script = y })) e f

pub returns-in-Some : goal.returns-in-Some
returns-in-Some c =
    let found = c.in-Ok.ensures in
    let script : Some c.in-Some.script.now ≡ Some found.0.script = c.in-Some.ensures ∙ script_text (found_of c.in-Ok.matches) found.0 found.2 in
    both c.get_flag.result c.in-Some.script.now found.0
    (flag_is (found_of c.in-Ok.matches) found.0 c.get_flag.result found.2 c.get_flag.ensures.value c.get_flag.ensures.other)
    (same_Some _ _ script) ∙ sym found.1 ∙ all_words (map string_bytes c.args.words.now)

pub returns-in-Ok : goal.returns-in-Ok
returns-in-Ok c =
    let found = c.in-Ok.ensures in
    absurd (none-some found.0.script (c.in-None.ensures ∙ script_text (found_of c.in-Ok.matches) found.0 found.2))

pub returns : goal.returns
returns c =
    let words = map string_bytes c.args.words.now in
    let none : None ≡ asked_from (drop 1 words) false false None = search rules in
    none ∙ all_words words
