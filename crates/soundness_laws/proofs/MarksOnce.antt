-- No mark occurs twice in what is known: each line and each block keeps it so.
use Rattle.std.proofs.Common.{◌≡◌, ℕ, zero, suc, ◌+◌, ◌<◌, ◌≤◌, Bool, true, false, cond, not, List, [], ◌∷◌, ◌++◌, Option, Some, None, Result, Ok, refl, ap, subst, arith, eqb-true, ne_eqb}
use Rattle.std.specs.Prelude.{◌==◌, option_to_list}
use Rattle.std.specs.List.{list_any}
use Rattle.std.proofs.lemmas.Bool.{not-true, or_parts}
use Rattle.plain_model.specs.declared.fault.Why.{Why}
use Rattle.plain_model.specs.declared.fault.Why.TheVariants.{RepeatedMark, LeftOut}
use Rattle.plain_model.specs.declared.operation.FileOp.TheVariants.{DeleteAll}
use Rattle.plain_model.specs.declared.person.Signed.{Signed}
use Rattle.plain_model.specs.declared.event.PlainEvent.{PlainEvent}
use Rattle.plain_model.specs.declared.event.PlainEvent.TheVariants as plain
use Rattle.plain_model.specs.Fields.{◌>>=◌, mark_in, name_in, person_in}
use Rattle.plain_model.specs.Parts.{has_no_lf}
use Rattle.plain_model.specs.Paths.{Bytes}
use Rattle.plain_model.specs.Streams.{is_among, is_marked}
use Rattle.line_automaton.specs.Limits.{limited_step}
use Rattle.line_automaton.specs.Machine.{Next, outcome, all}
use Rattle.line_automaton.specs.Machine.Next.{More, Block, Until, Over}
use Rattle.line_automaton.specs.Machine.Outcome.{Reads}
use Rattle.stream_grammar.specs.declared.lines.Word.{Word}
use Rattle.stream_grammar.specs.declared.lines.Word.TheVariants as word
use Rattle.stream_grammar.specs.Known.{Known, OpenCommit, Open, alias_marks, closed, closed_commit, ensure, is_empty_list, is_known_mark, next_id, op_after, ref_in, with_data, with_event, with_parent}
use Rattle.stream_grammar.specs.Known.Open.{Nothing, ABlob, ACommit, ATag, AReset, AnAlias}
use Rattle.stream_grammar.specs.Limits.{exceeded, stream_within}
use Rattle.stream_grammar.specs.Lines.{State, aliased, begun_with, changed, commit_on, is_inline_expected, is_left_out_feature, judged, line_step, passed, stream, text_of, with_commit, with_from, with_mark, with_operation, with_tagger, data_arrived, word_of}
use Rattle.field_laws.proofs.FieldSteps.{bind_ok, same_Ok}
use Rattle.soundness_laws.proofs.Carried.{IsAfter, carried}
use Rattle.soundness_laws.proofs.MarkSums.{none_among, none_marked, one, weigh, weight, weight_append}
use Rattle.soundness_laws.proofs.OpsRead.{ensured}
use Rattle.soundness_laws.proofs.Steps.{stepped_by}

-- ---- what is counted

-- the mark of the event that is being read
abbrev open_marks : Open → List ℕ
open_marks Nothing = []
open_marks (ABlob mark) = mark ∷ []
open_marks (ACommit c) = c.mark ∷ []
open_marks (ATag name target tagger mark) = option_to_list mark
open_marks (AReset branch target) = []
open_marks (AnAlias mark) = mark ∷ []

-- how often the mark is in the events, the one that is being read and the aliases
abbrev times : ℕ → Known → ℕ
times m k = weight (one m) k.events + weigh (one m) (open_marks k.current) + weigh (one m) (alias_marks k.aliases)

-- 0 is no mark
abbrev pub IsOnce : Known → Type 0
IsOnce k = (m : ℕ) → 0 < m → times m k ≤ 1

-- no mark comes
abbrev HasNoMore : Known → Known → Type 0
HasNoMore k after = (m : ℕ) → 0 < m → times m after ≤ times m k

no_more : (k after : Known) → HasNoMore k after → IsOnce k → IsOnce after
no_more k after fewer once m is = let before = once m is in let less = fewer m is in omega arith

zero_is_none : (m : ℕ) → 0 < m → one m 0 ≡ 0
zero_is_none m is = ap (λ b. cond b 1 0) (ne_eqb 0 m (λ e. omega arith))

-- one event more
event_more : (m : ℕ) (events : List PlainEvent) (e : PlainEvent) → weight (one m) (with_event events e) ≡ weight (one m) events + weight (one m) (e ∷ [])
event_more m events e = weight_append (one m) events (e ∷ [])

-- ---- the end of an event

commit_closed : (m : ℕ) (events : List PlainEvent) (c : OpenCommit) (committer : Option Signed) → weight (one m) (closed_commit events c committer) ≤ weight (one m) events + one m c.mark
commit_closed m events c None = omega arith
commit_closed m events c (Some who) = go (plain.Commit _ c.mark c.branch _ who c.encoding c.comment c.parents c.ops []) refl
  where
    go : (e : PlainEvent) → weight (one m) (e ∷ []) ≡ one m c.mark + 0 + 0 → weight (one m) (with_event events e) ≤ weight (one m) events + one m c.mark
    go e is = let more = event_more m events e in omega arith

closed_times : (m : ℕ) (events : List PlainEvent) (o : Open) (aliases : List (ℕ × ℕ)) → weight (one m) (closed (record { events = events; current = o; aliases = aliases })) ≤ weight (one m) events + weigh (one m) (open_marks o)
closed_times m events Nothing aliases = omega arith
closed_times m events (ABlob mark) aliases = omega arith
closed_times m events (ACommit c) aliases = let commit = commit_closed m events c c.committer in omega arith
closed_times m events (ATag name target tagger mark) aliases = omega arith
closed_times m events (AReset branch target) aliases = let more = event_more m events (plain.Reset (next_id events) branch target) in omega arith
closed_times m events (AnAlias mark) aliases = omega arith

-- the events have no mark twice, nor one of an alias
pub closed_once : (k : Known) → IsOnce k → (m : ℕ) → 0 < m → weight (one m) (closed k) + weigh (one m) (alias_marks k.aliases) ≤ 1
closed_once k once m is = let now = once m is in let less = closed_times m k.events k.current k.aliases in omega arith

-- ---- lines

begun_once : (k : Known) (o : Open) → ((m : ℕ) → 0 < m → weigh (one m) (open_marks o) ≡ 0) → HasNoMore k (begun_with k o)
begun_once k o none m is = let less = closed_times m k.events k.current k.aliases in let new = none m is in omega arith

passed_once : (k : Known) (line : Bytes) → HasNoMore k (passed k line)
passed_once k line m is = let less = closed_times m k.events k.current k.aliases in let more = event_more m (closed k) (plain.Pass (next_id (closed k)) line) in omega arith

changed_once : (k : Known) (change : Open → Open) → ((o : Open) → open_marks (change o) ≡ open_marks o) → HasNoMore k (changed k change)
changed_once k change same m is = let here : weigh (one m) (open_marks (change k.current)) ≡ weigh (one m) (open_marks k.current) = ap (weigh (one m)) (same k.current) in omega arith

commit_marks : (change : OpenCommit → OpenCommit) → ((c : OpenCommit) → (change c).mark ≡ c.mark) → (o : Open) → open_marks (with_commit change o) ≡ open_marks o
commit_marks change same (ACommit c) = ap (λ mark. mark ∷ []) (same c)
commit_marks change same Nothing = refl
commit_marks change same (ABlob mark) = refl
commit_marks change same (ATag name target tagger mark) = refl
commit_marks change same (AReset branch target) = refl
commit_marks change same (AnAlias mark) = refl

from_marks : (commit : ℕ) (o : Open) → open_marks (with_from commit o) ≡ open_marks o
from_marks commit (ACommit c) = refl
from_marks commit Nothing = refl
from_marks commit (ABlob mark) = refl
from_marks commit (ATag name target tagger mark) = refl
from_marks commit (AReset branch target) = refl
from_marks commit (AnAlias mark) = refl

tagger_marks : (who : Signed) (o : Open) → open_marks (with_tagger who o) ≡ open_marks o
tagger_marks who (ATag name target tagger mark) = refl
tagger_marks who Nothing = refl
tagger_marks who (ABlob mark) = refl
tagger_marks who (ACommit c) = refl
tagger_marks who (AReset branch target) = refl
tagger_marks who (AnAlias mark) = refl

parent_mark : (p : ℕ) (c : OpenCommit) → (with_parent p c).mark ≡ c.mark
parent_mark p c = go (is_empty_list c.parents) (list_any (λ q. q == p) c.parents)
  where
    go : (a b : Bool) → (cond a (record c { parents = p ∷ []; ops = DeleteAll ∷ [] }) (cond b c (record c { parents = c.parents ++ p ∷ [] }))).mark ≡ c.mark
    go true b = refl
    go false true = refl
    go false false = refl

-- a mark is put in place of the one that was there
mark_put : (m mark : ℕ) (o : Open) → weigh (one m) (open_marks (with_mark mark o)) ≤ one m mark
mark_put m mark (ABlob old) = omega arith
mark_put m mark (ACommit c) = omega arith
mark_put m mark (ATag name target tagger old) = omega arith
mark_put m mark (AnAlias old) = omega arith
mark_put m mark Nothing = omega arith
mark_put m mark (AReset branch target) = omega arith

-- a mark that isn't known comes
mark_once : (k : Known) (mark : ℕ) → is_known_mark k mark ≡ false → IsOnce k → IsOnce (changed k (with_mark mark))
mark_once k mark new once m is = go (mark == m) refl
  where
    put : weigh (one m) (open_marks (with_mark mark k.current)) ≤ one m mark
    put = mark_put m mark k.current

    go : (b : Bool) → (mark == m) ≡ b → times m (changed k (with_mark mark)) ≤ 1
    go true e =
        let parts = or_parts (is_marked k.events mark) (is_among (alias_marks k.aliases) mark) new in
        let events : weight (one m) k.events ≡ 0 = subst (λ n. weight (one n) k.events ≡ 0) (eqb-true mark m e) (none_marked mark k.events parts.0) in
        let aliases : weigh (one m) (alias_marks k.aliases) ≡ 0 = subst (λ n. weigh (one n) (alias_marks k.aliases) ≡ 0) (eqb-true mark m e) (none_among mark (alias_marks k.aliases) parts.1) in
        let own : one m mark ≡ 1 = ap (λ b. cond b 1 0) e in
        let here = put in
        omega arith
    go false e =
        let own : one m mark ≡ 0 = ap (λ b. cond b 1 0) e in
        let here = put in
        let before = once m is in
        omega arith

aliased_once : (commit : ℕ) (events : List PlainEvent) (o : Open) (aliases : List (ℕ × ℕ)) → HasNoMore (record { events = events; current = o; aliases = aliases }) (aliased commit (record { events = events; current = o; aliases = aliases }))
aliased_once commit events (AnAlias zero) aliases m is = omega arith
aliased_once commit events (AnAlias (suc mark)) aliases m is = let more = alias_more m (suc mark) commit aliases in omega arith
  where
    alias_more : (m mark commit : ℕ) (aliases : List (ℕ × ℕ)) → weigh (one m) (alias_marks (aliases ++ (mark, commit) ∷ [])) ≡ weigh (one m) (alias_marks aliases) + one m mark
    alias_more m mark commit [] = omega arith
    alias_more m mark commit (a ∷ aliases) = let more = alias_more m mark commit aliases in omega arith
aliased_once commit events Nothing aliases m is = omega arith
aliased_once commit events (ABlob mark) aliases m is = omega arith
aliased_once commit events (ACommit c) aliases m is = omega arith
aliased_once commit events (ATag name target tagger mark) aliases m is = omega arith
aliased_once commit events (AReset branch target) aliases m is = omega arith

operation_once : (line : Bytes) (events : List PlainEvent) (o : Open) (aliases : List (ℕ × ℕ)) (after : Known) → with_operation (record { events = events; current = o; aliases = aliases }) line ≡ Ok after
    → HasNoMore (record { events = events; current = o; aliases = aliases }) after
operation_once line events (ACommit c) aliases after e =
    let k : Known = record { events = events; current = ACommit c; aliases = aliases } in
    let x = bind_ok (op_after events c line) (λ op. Ok (record k { current = ACommit (record c { ops = c.ops ++ op ∷ [] }) })) after e in
    subst (HasNoMore k) (same_Ok (record k { current = ACommit (record c { ops = c.ops ++ x.0 ∷ [] }) }) after x.2) (λ m is. omega arith)
operation_once line events o aliases after e =
    let k : Known = record { events = events; current = o; aliases = aliases } in
    subst (HasNoMore k) (same_Ok k after e) (λ m is. omega arith)

-- one event begins, with no mark yet
new_event : (k after : Known) (o : Open) → ((m : ℕ) → 0 < m → weigh (one m) (open_marks o) ≡ 0) → ◌≡◌ {A = Result Known Why} (Ok (begun_with k o)) (Ok after) → IsOnce k → IsOnce after
new_event k after o none e once = subst IsOnce (same_Ok (begun_with k o) after e) (no_more k (begun_with k o) (begun_once k o none) once)

-- the event that is being read has another field
new_field : (k after : Known) (change : Open → Open) → ((o : Open) → open_marks (change o) ≡ open_marks o) → ◌≡◌ {A = Result Known Why} (Ok (changed k change)) (Ok after) → IsOnce k → IsOnce after
new_field k after change same e once = subst IsOnce (same_Ok (changed k change) after e) (no_more k (changed k change) (changed_once k change same) once)

new_pass : (k after : Known) (line : Bytes) → ◌≡◌ {A = Result Known Why} (Ok (passed k line)) (Ok after) → IsOnce k → IsOnce after
new_pass k after line e once = subst IsOnce (same_Ok (passed k line) after e) (no_more k (passed k line) (passed_once k line) once)

no_mark : (m : ℕ) → 0 < m → weigh (one m) (0 ∷ []) ≡ 0
no_mark m is = let none = zero_is_none m is in omega arith

judged_once : (w : Word) (line : Bytes) (k after : Known) → judged w line k ≡ Ok after → IsOnce k → IsOnce after
judged_once word.Blob line k after e once = new_event k after (ABlob 0) no_mark e once
judged_once word.Commit line k after e once =
    let x = bind_ok (name_in (text_of line)) (λ branch. Ok (begun_with k (commit_on k branch))) after e in
    new_event k after (commit_on k x.0) no_mark x.2 once
judged_once word.Tag line k after e once =
    let x = bind_ok (name_in (text_of line)) (λ name. Ok (begun_with k (ATag name 0 None None))) after e in
    new_event k after (ATag x.0 0 None None) (λ m is. refl) x.2 once
judged_once word.Reset line k after e once =
    let x = bind_ok (name_in (text_of line)) (λ branch. Ok (begun_with k (AReset branch None))) after e in
    new_event k after (AReset x.0 None) (λ m is. refl) x.2 once
judged_once word.Alias line k after e once = new_event k after (AnAlias 0) no_mark e once
judged_once word.Mark line k after e once =
    let m = bind_ok (mark_in (text_of line)) (λ mark. ensure (not (is_known_mark k mark)) RepeatedMark >>= λ new. Ok (changed k (with_mark mark))) after e in
    let u = bind_ok (ensure (not (is_known_mark k m.0)) RepeatedMark) (λ new. Ok (changed k (with_mark m.0))) after m.2 in
    subst IsOnce (same_Ok (changed k (with_mark m.0)) after u.2)
    (mark_once k m.0 (not-true (is_known_mark k m.0) (ensured (not (is_known_mark k m.0)) RepeatedMark u.0 u.1)) once)
judged_once word.Author line k after e once =
    let p = bind_ok (person_in (text_of line)) (λ who. Ok (changed k (with_commit (λ c. record c { author = Some who })))) after e in
    new_field k after (with_commit (λ c. record c { author = Some p.0 })) (commit_marks (λ c. record c { author = Some p.0 }) (λ c. refl)) p.2 once
judged_once word.Committer line k after e once =
    let p = bind_ok (person_in (text_of line)) (λ who. Ok (changed k (with_commit (λ c. record c { committer = Some who })))) after e in
    new_field k after (with_commit (λ c. record c { committer = Some p.0 })) (commit_marks (λ c. record c { committer = Some p.0 }) (λ c. refl)) p.2 once
judged_once word.Encoding line k after e once =
    let change : OpenCommit → OpenCommit = λ (c : OpenCommit). record c { encoding = Some (text_of line) } in
    new_field k after (with_commit change) (commit_marks change (λ c. refl)) e once
judged_once word.Tagger line k after e once =
    let p = bind_ok (person_in (text_of line)) (λ who. Ok (changed k (with_tagger who))) after e in
    new_field k after (with_tagger p.0) (tagger_marks p.0) p.2 once
judged_once word.From line k after e once =
    let c = bind_ok (ref_in k.events k.aliases (text_of line)) (λ commit. Ok (changed k (with_from commit))) after e in
    new_field k after (with_from c.0) (from_marks c.0) c.2 once
judged_once word.Merge line k after e once =
    let c = bind_ok (ref_in k.events k.aliases (text_of line)) (λ commit. Ok (changed k (with_commit (with_parent commit)))) after e in
    new_field k after (with_commit (with_parent c.0)) (commit_marks (with_parent c.0) (parent_mark c.0)) c.2 once
judged_once word.Operation line k after e once = no_more k after (operation_once line k.events k.current k.aliases after e) once
judged_once word.InlineOperation line k after e once = no_more k after (operation_once line k.events k.current k.aliases after e) once
judged_once word.Pass line k after e once =
    let x = bind_ok (ensure (not (is_left_out_feature line)) LeftOut) (λ kept. Ok (passed k line)) after e in
    new_pass k after line x.2 once
judged_once word.FeatureDone line k after e once = new_pass k after line e once
judged_once word.To line k after e once =
    let c = bind_ok (ref_in k.events k.aliases (text_of line)) (λ commit. Ok (aliased commit k)) after e in
    subst IsOnce (same_Ok (aliased c.0 k) after c.2) (no_more k (aliased c.0 k) (aliased_once c.0 k.events k.current k.aliases) once)
judged_once word.Empty line k after e once = subst IsOnce (same_Ok k after e) once
judged_once word.Oid line k after e once = subst IsOnce (same_Ok k after e) once
judged_once word.Data line k after e once = subst IsOnce (same_Ok k after e) once
judged_once word.Done line k after e once = subst IsOnce (same_Ok k after e) once
judged_once word.LeftOut line k after e once = subst IsOnce (same_Ok k after e) once
judged_once word.Other line k after e once = subst IsOnce (same_Ok k after e) once

-- ---- blocks

data_once : (inline : Bool) (bytes : Bytes) (events : List PlainEvent) (o : Open) (aliases : List (ℕ × ℕ)) → HasNoMore (record { events = events; current = o; aliases = aliases }) (with_data inline bytes (record { events = events; current = o; aliases = aliases }))
data_once inline bytes events Nothing aliases m is = omega arith
data_once inline bytes events (ABlob mark) aliases m is = let more = event_more m events (plain.Blob (next_id events) mark bytes) in omega arith
data_once true bytes events (ACommit c) aliases m is = let more = event_more m events (plain.Blob (next_id events) 0 bytes) in let none = no_mark m is in omega arith
data_once false bytes events (ACommit c) aliases m is = omega arith
data_once inline bytes events (ATag name target tagger mark) aliases m is = let more = event_more m events (plain.Tag (next_id events) name target tagger bytes mark) in omega arith
data_once inline bytes events (AReset branch target) aliases m is = omega arith
data_once inline bytes events (AnAlias mark) aliases m is = omega arith

-- ---- the whole stream

abbrev IsOnceIn : State → Type 0
IsOnceIn s = IsOnce s.known

after_step : (next : Next) (s : State) → IsOnceIn s → IsAfter IsOnceIn IsOnceIn IsOnceIn next s
after_step More s h = h
after_step (Block n) s h = h
after_step (Until n) s h = h
after_step Over s h = h

stepped : (s : State) (line : Bytes) (new : State) (next : Next) → IsOnceIn s → has_no_lf line ≡ true → limited_step stream exceeded line (line_step true s line) ≡ Ok (new, next) → IsAfter IsOnceIn IsOnceIn IsOnceIn next new
stepped s line new next once plain e =
    after_step next new (stepped_by (λ t n. IsOnceIn t) s line new next once (λ step. judged_once (word_of line) line s.known new.known step.means once) e)

arrived : (s : State) (bytes : Bytes) → IsOnceIn s → IsOnceIn (data_arrived s bytes)
arrived s bytes once =
    no_more s.known (with_data (is_inline_expected s.standing.expected) bytes s.known) (data_once (is_inline_expected s.standing.expected) bytes s.known.events s.known.current s.known.aliases) once

-- what is known of a stream that is read has no mark twice
pub known_once : (bytes : Bytes) (s : State) → outcome stream_within all bytes ≡ Reads s → IsOnce s.known
known_once bytes s e = carried stream_within IsOnceIn IsOnceIn IsOnceIn stepped arrived (λ s once free. once) (λ m is. omega arith) bytes s e
