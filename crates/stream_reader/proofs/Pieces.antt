-- What pieces of a stream make of the machine.
use Rattle.std.proofs.Common.{◌≡◌, ℕ, zero, suc, ◌+◌, ◌-◌, ◌^◌, ◌<◌, ◌≤◌, Bool, true, false, not, List, [], ◌∷◌, ◌++◌, length, take, Result, Ok, Err, refl, sym, ap, subst, ◌∙◌, arith, append-nil}
use Rattle.std.specs.Prelude.{count_by, get_or}
use Rattle.plain_model.specs.Paths.{Bytes}
use Rattle.plain_model.specs.Parts.{is_lf, has_no_lf}
use Rattle.line_automaton.specs.Machine.{all, number_past}
use Rattle.line_automaton.specs.Machine.Machine.{At}
use Rattle.line_automaton.specs.Machine.Mode.{InLine, InBlock, After, InDelimited, Ended}
use Rattle.line_automaton.proofs.DrivingLaws as driving
use Rattle.line_automaton.proofs.FirstLines.{inside_after}
use Rattle.stream_grammar.specs.declared.lines.Standing.{Standing}
use Rattle.stream_grammar.specs.Known.{Known, with_data}
use Rattle.stream_grammar.specs.Limits.{stream_within}
use Rattle.stream_grammar.specs.Lines.{State, data_arrived, is_inline_expected}
use Rattle.stream_reader.specs.declared.fault.ReadFault.{ReadFault}
use Rattle.stream_reader.specs.declared.place.Place.{Place}
use Rattle.stream_reader.specs.declared.place.Place.TheVariants as place
use Rattle.stream_reader.specs.Reading.{begins_with_lf, HasStopped, IsAt, IsIn, Leads, Makes, StreamMachine, after, after_compared, after_line, state}

-- ---- lines

-- more of a line
pub line_part : (standing : Standing) (known : Known) (n come : ℕ) (begun part : Bytes) (r : Result Place ReadFault) (m : StreamMachine)
    → has_no_lf part ≡ true → Makes r (place.Line (begun ++ part)) → IsAt standing known n (InLine begun) m → Leads standing known n come r (after m part)
line_part standing known n come begun part (Ok p) m plain made (spelled, is) =
    subst (λ (q : Place). IsIn standing known n come q (after m part)) (sym made)
    (spelled, ap (λ (x : StreamMachine). after x part) is ∙ driving.line_part stream_within all n begun (state standing spelled known) part plain)
line_part standing known n come begun part (Err fault) m plain made here = subst (λ (f : ReadFault). HasStopped f (after m part)) (sym made) tt

-- the end of a line
pub line_end : (standing : Standing) (known : Known) (n : ℕ) (begun part : Bytes) (m : StreamMachine) → has_no_lf part ≡ true
    → (here : IsAt standing known n (InLine begun) m) → after m (part ++ 10 ∷ []) ≡ after_line n (state standing here.0 known) (begun ++ part)
line_end standing known n begun part m plain (spelled, is) =
    ap (λ (x : StreamMachine). after x (part ++ 10 ∷ [])) is ∙ driving.line_end stream_within all n begun (state standing spelled known) part [] plain

-- ---- counted blocks

-- more of a block of so many bytes
pub block_part : (standing : Standing) (known : Known) (n come from more : ℕ) (bytes part : Bytes) (r : Result Place ReadFault) (m : StreamMachine)
    → length part ≤ more → Makes r (place.Block from (more - length part) (bytes ++ part)) → IsAt standing known n (InBlock from more bytes) m
    → Leads standing known (n + count_by is_lf part) come r (after m part)
block_part standing known n come from more bytes part (Ok p) m less made (spelled, is) =
    subst (λ (q : Place). IsIn standing known (n + count_by is_lf part) come q (after m part)) (sym made)
    (spelled, ap (λ (x : StreamMachine). after x part) is ∙ driving.block_part stream_within all more n from bytes (state standing spelled known) part less)
block_part standing known n come from more bytes part (Err fault) m less made here = subst (λ (f : ReadFault). HasStopped f (after m part)) (sym made) tt

-- the end of a block
pub block_end : (standing : Standing) (known : Known) (n from more : ℕ) (bytes part : Bytes) (m : StreamMachine) → length part ≡ more + 1
    → (here : IsAt standing known n (InBlock from more bytes) m)
    → after m part ≡ At (n + count_by is_lf part) (After (inside_after true part)) (data_arrived (state standing here.0 known) (bytes ++ part))
block_end standing known n from more bytes part m size (spelled, is) =
    ap (λ (x : StreamMachine). after x part) is
    ∙ ap (after (At n (InBlock from more bytes) (state standing spelled known))) (sym (append-nil part))
    ∙ driving.block_end stream_within all more n from bytes (state standing spelled known) true part [] (omega (arith, size))

-- a block that never is whole goes on
pub endless_on : (standing : Standing) (known : Known) (n n' come from : ℕ) (part : Bytes) (m : StreamMachine) → come + length part < 2 ^ 63
    → IsIn standing known n come (place.EndlessBlock from) m → IsIn standing known n' (come + length part) (place.EndlessBlock from) (after m part)
endless_on standing known n n' come from part m room (i, k, bytes, high, here) = (
  i + count_by is_lf part,
  k - length part,
  bytes ++ part,
  omega (arith, room, high),
  (here.0, ap (λ (x : StreamMachine). after x part) here.1 ∙ driving.block_part stream_within all k i from bytes (state standing here.0 known) part (omega (arith, room, high))),
)

-- ---- after a block

-- the one LF that may follow
pub after_lf : (standing : Standing) (known : Known) (n : ℕ) (in_line : Bool) (rest text : Bytes) (m : StreamMachine) → begins_with_lf rest ≡ true → text ≡ []
    → IsAt standing known n (After in_line) m → IsAt standing known (n + 1) (InLine text) (after m (take 1 rest))
after_lf standing known n in_line [] text m e none here = absurd cc
after_lf standing known n in_line (b ∷ bs) text m e none (spelled, is) = (
  spelled,
  ap (λ (x : StreamMachine). after x (b ∷ [])) is ∙ driving.after_lf stream_within all in_line n (state standing spelled known) b [] e
      ∙ ap (λ (t : Bytes). At (n + 1) (InLine t) (state standing spelled known)) (sym none),
)

-- a line directly after it
pub after_byte : (standing : Standing) (known : Known) (n count : ℕ) (rest : Bytes) (in_line : Bool) (m : StreamMachine) → begins_with_lf rest ≡ false → 1 ≤ count → count ≤ length rest
    → IsAt standing known n (After in_line) m → (q : StreamMachine) × IsAt standing known n (InLine []) q × (after m (take count rest) ≡ after q (take count rest))
after_byte standing known n count [] in_line m other some within here = absurd (omega arith)
after_byte standing known n zero (b ∷ bs) in_line m other some within here = absurd (omega arith)
after_byte standing known n (suc k) (b ∷ bs) in_line m other some within here = (
  At n (InLine []) (state standing here.0 known),
  (here.0, refl),
  ap (λ (x : StreamMachine). after x (b ∷ take k bs)) here.1 ∙ driving.after_byte stream_within all in_line n (state standing here.0 known) b (take k bs) other,
)

-- ---- blocks up to a delimiter

pub delimited_part : (standing : Standing) (known : Known) (n come from : ℕ) (delimiter bytes begun part : Bytes) (r : Result Place ReadFault) (m : StreamMachine)
    → has_no_lf part ≡ true → Makes r (place.DelimitedBlock from delimiter bytes (begun ++ part)) → IsAt standing known n (InDelimited from delimiter bytes begun) m
    → Leads standing known n come r (after m part)
delimited_part standing known n come from delimiter bytes begun part (Ok p) m plain made (spelled, is) =
    subst (λ (q : Place). IsIn standing known n come q (after m part)) (sym made)
    (spelled, ap (λ (x : StreamMachine). after x part) is ∙ driving.delimited_part stream_within all n from delimiter bytes begun (state standing spelled known) part plain)
delimited_part standing known n come from delimiter bytes begun part (Err fault) m plain made here = subst (λ (f : ReadFault). HasStopped f (after m part)) (sym made) tt

pub delimited_end : (standing : Standing) (known : Known) (n from : ℕ) (delimiter bytes begun part : Bytes) (m : StreamMachine) → has_no_lf part ≡ true
    → (here : IsAt standing known n (InDelimited from delimiter bytes begun) m)
    → after m (part ++ 10 ∷ []) ≡ after_compared n from delimiter bytes (begun ++ part) (state standing here.0 known)
delimited_end standing known n from delimiter bytes begun part m plain (spelled, is) =
    ap (λ (x : StreamMachine). after x (part ++ 10 ∷ [])) is
    ∙ driving.delimited_end stream_within all n from delimiter bytes begun (state standing spelled known) part [] plain

-- ---- what stays

ended_run : (part : Bytes) (n : ℕ) (s : State) → (i : ℕ) × (after (At n Ended s) part ≡ At i Ended s)
ended_run [] n s = (n, refl)
ended_run (b ∷ bs) n s = ended_run bs (number_past n b) s

pub ended_on : (standing : Standing) (known : Known) (n n' come come' : ℕ) (part : Bytes) (m : StreamMachine)
    → IsIn standing known n come place.Over m → IsIn standing known n' come' place.Over (after m part)
ended_on standing known n n' come come' part m (i, here) =
    let run = ended_run part i (state standing here.0 known) in
    (run.0, (here.0, ap (λ (x : StreamMachine). after x part) here.1 ∙ run.1))

-- ---- the end of a block

-- whether a line has begun after a part, by its last byte
pub inside_by_last : (inside : Bool) (part : Bytes) → 0 < length part → inside_after inside part ≡ not (is_lf (get_or part (length part - 1) 0))
inside_by_last inside [] h = absurd (omega arith)
inside_by_last inside (b ∷ []) h = refl
inside_by_last inside (b ∷ c ∷ cs) h =
    let next : suc (length (c ∷ cs) - 1) ≡ length (b ∷ c ∷ cs) - 1 = omega arith in
    subst (λ i. inside_after inside (b ∷ c ∷ cs) ≡ not (is_lf (get_or (b ∷ c ∷ cs) i 0))) next (inside_by_last (not (is_lf b)) (c ∷ cs) (omega arith))

pub block_whole : (standing : Standing) (known now : Known) (n : ℕ) (spelled : List Bytes) (all whole : Bytes) (inline inside ends : Bool) → now ≡ with_data inline whole known
    → inline ≡ is_inline_expected standing.expected → whole ≡ all → ends ≡ inside
    → IsAt standing now n (After ends) (At n (After inside) (data_arrived (state standing spelled known) all))
block_whole standing known now n spelled all whole inline inside ends made is same flag =
    (all ∷ spelled, λ i. At n (After (sym flag i)) (state standing (all ∷ spelled) (sym (made ∙ (λ j. with_data (is j) (same j) known)) i)))
