-- What is taken of a piece, and where the next byte is then.
use Rattle.std.proofs.Common.{◌≡◌, ℕ, ◌+◌, ◌<◌, ◌≤◌, true, List, [], ◌∷◌, ◌++◌, length, take, Some, None, Result, Ok, Err, sym, ap, subst, ◌∙◌, arith, length-append, append_assoc, take_at}
use Rattle.std.specs.Prelude.{count_by}
use Rattle.std.proofs.Math.Seq.{take-length}
use Rattle.std.proofs.lemmas.List.{length-take-le}
use Rattle.plain_model.specs.Paths.{Bytes}
use Rattle.plain_model.specs.Parts.{cut_at, has_no_lf, is_lf}
use Rattle.field_laws.proofs.Lines.{cut_is, cut_none}
use Rattle.line_automaton.specs.Machine.Machine.{At}
use Rattle.line_automaton.specs.Machine.Mode.{After, InBlock, InDelimited, InLine}
use Rattle.line_automaton.proofs.FirstLines.{inside_after}
use Rattle.stream_grammar.specs.declared.lines.Standing.{Standing}
use Rattle.stream_grammar.specs.Known.{Known}
use Rattle.stream_grammar.specs.Lines.{data_arrived}
use Rattle.stream_reader.specs.declared.fault.ReadFault.{ReadFault}
use Rattle.stream_reader.specs.declared.place.Place.{Place}
use Rattle.stream_reader.specs.Reading.{HasCome, IsAt, IsIn, Leads, Reading, StreamMachine, after, after_compared, after_line, placed, state}
use Rattle.stream_reader.proofs.Pieces.{block_end, line_end, delimited_end}

-- what something leads to is where the next byte is
pub come_by : (new : Reading) (standing : Standing) (known : Known) (n come : ℕ) (leads : Result Place ReadFault) (m : StreamMachine)
    → new ≡ record { place = placed leads; standing = standing; number = n; known = known; come = come } → Leads standing known n come leads m → HasCome new m
come_by new standing known n come (Ok p) m e h = subst (λ (r : Reading). HasCome r m) (sym e) h
come_by new standing known n come (Err fault) m e h = subst (λ (r : Reading). HasCome r m) (sym e) h

-- all of a text is taken
pub all_taken : (new : Reading) (m : StreamMachine) (rest : Bytes) → HasCome new (after m rest) → HasCome new (after m (take (length rest) rest))
all_taken new m rest h = subst (λ (t : Bytes). HasCome new (after m t)) (sym (take-length rest)) h

-- ---- up to the end of a line

pub line_taken : (rest part more : Bytes) → Some (part, more) ≡ cut_at 10 rest → (has_no_lf part ≡ true) × (rest ≡ part ++ 10 ∷ more)
line_taken rest part more e = cut_is 10 rest part more (sym e)

pub no_line_taken : (rest : Bytes) → None ≡ cut_at 10 rest → has_no_lf rest ≡ true
no_line_taken rest e = cut_none 10 rest (sym e)

pub line_size : (rest part more : Bytes) → Some (part, more) ≡ cut_at 10 rest → length part + 1 ≤ length rest
line_size rest part more e =
    let is = (line_taken rest part more e).1 in
    let size = ap length is ∙ length-append part (10 ∷ more) in
    omega (arith, size)

line_front : (rest part more : Bytes) → Some (part, more) ≡ cut_at 10 rest → take (length part + 1) rest ≡ part ++ 10 ∷ []
line_front rest part more e =
    let is = (line_taken rest part more e).1 in
    let again : rest ≡ (part ++ 10 ∷ []) ++ more = is ∙ sym (append_assoc part (10 ∷ []) more) in
    let size : length (part ++ 10 ∷ []) ≡ length part + 1 = length-append part (10 ∷ []) in
    ap (take (length part + 1)) again ∙ take_at (part ++ 10 ∷ []) more (length part + 1) size

-- where a line leads to, once it has come whole
pub line_leads : (standing now : Standing) (known known' : Known) (n come : ℕ) (begun rest part more : Bytes) (leads : Result Place ReadFault)
    → Some (part, more) ≡ cut_at 10 rest
    → ((spelled : List Bytes) → Leads now known' (n + 1) come leads (after_line n (state standing spelled known) (begun ++ part)))
    → (m : StreamMachine) → IsAt standing known n (InLine begun) m → Leads now known' (n + 1) come leads (after m (take (length part + 1) rest))
line_leads standing now known known' n come begun rest part more leads e made m here =
    let parts = line_taken rest part more e in
    subst (λ (x : StreamMachine). Leads now known' (n + 1) come leads x)
    (sym (ap (after m) (line_front rest part more e) ∙ line_end standing known n begun part m parts.0 here)) (made here.0)

pub delimited_leads : (standing now : Standing) (known known' : Known) (n come from : ℕ) (delimiter bytes begun rest part more : Bytes) (leads : Result Place ReadFault)
    → Some (part, more) ≡ cut_at 10 rest
    → ((spelled : List Bytes) → Leads now known' (n + 1) come leads (after_compared n from delimiter bytes (begun ++ part) (state standing spelled known)))
    → (m : StreamMachine) → IsAt standing known n (InDelimited from delimiter bytes begun) m → Leads now known' (n + 1) come leads (after m (take (length part + 1) rest))
delimited_leads standing now known known' n come from delimiter bytes begun rest part more leads e made m here =
    let parts = line_taken rest part more e in
    subst (λ (x : StreamMachine). Leads now known' (n + 1) come leads x)
    (sym (ap (after m) (line_front rest part more e) ∙ delimited_end standing known n from delimiter bytes begun part m parts.0 here)) (made here.0)

-- ---- a block of so many bytes

-- where it leads to, once it has come whole
pub block_leads : (standing now : Standing) (known known' : Known) (n come from more : ℕ) (bytes rest : Bytes) (leads : Result Place ReadFault) → more < length rest
    → ((k : ℕ) → (spelled : List Bytes) → Leads now known' k come leads (At k (After (inside_after true (take (more + 1) rest))) (data_arrived (state standing spelled known) (bytes ++ take (more + 1) rest))))
    → (m : StreamMachine) → IsAt standing known n (InBlock from more bytes) m → Leads now known' (n + count_by is_lf (take (more + 1) rest)) come leads (after m (take (length (take (more + 1) rest)) rest))
block_leads standing now known known' n come from more bytes rest leads less made m here =
    let part = take (more + 1) rest in
    let size : length part ≡ more + 1 = length-take-le (more + 1) rest (omega (arith, less)) in
    subst (λ (x : StreamMachine). Leads now known' (n + count_by is_lf part) come leads x)
    (sym (ap (λ k. after m (take k rest)) size ∙ block_end standing known n from more bytes part m size here)) (made (n + count_by is_lf part) here.0)

-- ---- what is passed over

pub passed : (new : Reading) (standing : Standing) (known : Known) (n come count : ℕ) (p : Place) (rest : Bytes) (m : StreamMachine) → count ≡ length rest
    → new ≡ record { place = p; standing = standing; number = n; known = known; come = come + length rest } → IsIn standing known n (come + length rest) p (after m rest)
    → HasCome new (after m (take count rest))
passed new standing known n come count p rest m size e h =
    subst (λ (k : ℕ). HasCome new (after m (take k rest))) (sym size) (all_taken new m rest (subst (λ (r : Reading). HasCome r (after m rest)) (sym e) h))
