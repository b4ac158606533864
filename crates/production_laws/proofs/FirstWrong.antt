-- What is read where the lines through n are judged is what is right through line n; so a first defect is one of texts that
-- are spelled.
use Rattle.std.proofs.Common.{◌≡◌, ℕ, suc, pred, ◌≤◌, Bool, false, List, [], ◌∷◌, refl, sym, ◌∙◌, ap, subst, arith}
use Rattle.std.proofs.lemmas.Bool.Decides.{nat_tests}
use Rattle.plain_model.specs.declared.fault.Why.{Why}
use Rattle.plain_model.specs.Paths.{Bytes}
use Rattle.line_automaton.specs.Machine.{IsCleanThrough, Machine, Stops, none, run, closed, up_to, verdict}
use Rattle.line_automaton.specs.Machine.Mode.{InLine}
use Rattle.line_automaton.specs.Machine.Machine.{At}
use Rattle.line_automaton.specs.Machine.Outcome.{Reads}
use Rattle.line_automaton.proofs.Numbers.{alike_from, closed_alike, run_least}
use Rattle.stream_grammar.specs.declared.lines.Expected.TheVariants as expected
use Rattle.stream_grammar.specs.declared.lines.Word.{Word}
use Rattle.stream_grammar.specs.Known.{Known}
use Rattle.stream_grammar.specs.Lines.{State, stream}
use Rattle.production_laws.specs.Meanings.{parts_read}
use Rattle.production_laws.specs.Productions.{AreForms}
use Rattle.production_laws.specs.Streams.{IsFirstWrong, IsRightThrough, parts_while}
use Rattle.production_laws.specs.Texts.{HasParts, Part, words_of}
use Rattle.production_laws.specs.Texts.Part.{Comment, DoneLine, Line, WithData}
use Rattle.production_laws.proofs.KnownLines as lines
use Rattle.production_laws.proofs.KnownLines.{HasMeant, IsReadAs, from}
use Rattle.production_laws.proofs.Standings.{Accepts, has_form, is_accepted}
use Rattle.production_laws.proofs.Texts as texts

-- whatever is known in the end
abbrev Any : Known → Known → Type 0
Any k l = Unit {0}

-- from a line on that isn't judged, none is
late_alike : (last n : ℕ) (s : State) (text : Bytes) → up_to last n ≡ false → from (up_to last) n s text ≡ from none n s text
late_alike last n s text late =
    let later : suc last ≤ n = grind (arith, nat_tests) in
    let agree = λ (k : ℕ) (h : suc last ≤ k). (let e : up_to last k ≡ false = grind (arith, nat_tests) in e) in
    let m : Machine State Why = At n (InLine []) s in
    ap (λ q. verdict stream (closed stream (up_to last) q)) (alike_from stream (up_to last) none (suc last) agree m text later)
    ∙ ap (verdict stream) (closed_alike stream (up_to last) none (suc last) agree (run stream none m text) (run_least stream none (suc last) m text later))

-- nothing is judged
none_while : (test : ℕ → Bool) (parts : List Part) (n : ℕ) (text : Bytes) (h : HasParts text parts) → test n ≡ false → parts_while test n text parts h ≡ []
none_while test [] n text h late = refl
none_while test (Comment line ∷ parts) n text (rest, there, comment, are) late = cc
none_while test (Line line ∷ parts) n text (rest, there, plain, alone, are) late = cc
none_while test (WithData line bytes ∷ parts) n text (block, rest, there, plain, is, held, are) late = cc
none_while test (DoneLine line ∷ parts) n text (rest, there, plain, is, last) late = cc

read_by_form : (last : ℕ) (parts : List Part) (n : ℕ) (s : State) (text : Bytes) (known : Known) → up_to last n ≡ false → HasParts text parts
    → Accepts s.standing (words_of parts) → IsReadAs (up_to last) Any n s text known
read_by_form last parts n s text known late h accepts =
    let x = texts.parts_are_read parts n s text h accepts in
    (x.0, late_alike last n s text late ∙ x.1, tt)

form_is_read : (judged n : ℕ) (s last : State) (inline : Bool) (text : Bytes) → up_to judged n ≡ false → from (up_to judged) n s text ≡ Reads last
    → HasMeant (up_to judged) Any n s inline text last.known
form_is_read judged n s last inline text late e =
    let x = texts.read_has_parts n s last text (sym (late_alike judged n s text late) ∙ e) in
    (x.0, x.1, x.2, s.known, ap (λ (l : List Part). parts_read inline l s.known) (none_while (up_to judged) x.0 n text x.1 late), tt)

-- ---- through a line

pub right_is_clean : (n : ℕ) (text : Bytes) → IsRightThrough n text → IsCleanThrough stream n text
right_is_clean n text h =
    let spelled = h.spelled in
    let accepted = is_accepted (words_of h.parts) expected.Event false (words_of h.parts, refl, (h.forms, spelled.0, spelled.1, spelled.2)) in
    let x = lines.parts_are_read (up_to n) Any (λ k l same. tt) (read_by_form n) h.parts 1 stream.start text false h.known h.there accepted refl h.means in
    (x.0, x.1)

pub clean_is_right : (n : ℕ) (text : Bytes) → IsCleanThrough stream n text → IsRightThrough n text
clean_is_right n text (s, is) =
    let x = lines.read_has_parts (up_to n) Any (λ k l same. tt) (form_is_read n) 1 stream.start s false text refl is in
    let f = has_form (words_of x.0) expected.Event false x.2 in
    let rest = f.2 in
    record {
      parts = x.0;
      there = x.1;
      forms = rest.0;
      spelled = (rest.1, subst (λ (l : List Word). AreForms rest.0 l rest.1) (sym f.1) rest.2, rest.3);
      known = x.3;
      means = x.4;
    }

-- ---- first defects

pub stops_wrong : (text : Bytes) (n : ℕ) (why : Why) → Stops stream text n why → IsFirstWrong text n
stops_wrong text n why h = (let b = h.before in record {
  before = (b.0, b.1, clean_is_right (pred n) b.0 b.2);
  here = λ other same right. h.here other same (right_is_clean n other right);
})
