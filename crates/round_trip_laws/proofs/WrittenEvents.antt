-- What is written of an event leads from a place between events to one after it.
use Rattle.std.proofs.Common.{◌≡◌, ℕ, Bool, true, false, List, [], ◌∷◌, ◌++◌, Option, Some, None, refl, sym, ap, subst, ◌∙◌, codes, append_assoc, append-nil, IfSome}
use Rattle.std.specs.Prelude.{◌||◌, bytes_eq, IsTrue}
use Rattle.std.specs.List.{list_any}
use Rattle.plain_model.specs.declared.event.PlainEvent.{PlainEvent}
use Rattle.plain_model.specs.declared.event.PlainEvent.TheVariants.{Blob, Tag, Reset, Pass}
use Rattle.plain_model.specs.declared.person.Signed.{Signed}
use Rattle.plain_model.specs.Paths.{Bytes}
use Rattle.plain_model.specs.Soundness.{IsFormedSigned, is_passed_line}
use Rattle.plain_model.specs.Snapshots.{commit_mark, refs}
use Rattle.plain_model.specs.Text.{line, marked, data_block, person, alias_text, event_text, tagger_text, is_feature_done}
use Rattle.plain_model.specs.Marks.{IsMark}
use Rattle.plain_model.specs.Names.{is_name}
use Rattle.plain_model.specs.Streams.{commit_marked}
use Rattle.stream_grammar.specs.declared.lines.Expected.{Expected}
use Rattle.stream_grammar.specs.declared.lines.Expected.TheVariants as expected
use Rattle.stream_grammar.specs.declared.lines.Follow.TheVariants.{Goes}
use Rattle.stream_grammar.specs.declared.lines.Word.TheVariants as word
use Rattle.stream_grammar.specs.Lines.{follows}
use Rattle.stream_grammar.specs.Known.{Open, closed, next_id}
use Rattle.stream_grammar.specs.Known.Open.{Nothing, ABlob, ATag, AReset, AnAlias}
use Rattle.round_trip_laws.proofs.Points.{point, Gives, line_goes, data_goes}
use Rattle.round_trip_laws.proofs.WrittenLines.{is_between, is_known, blob_leads, blob_mark_leads, tag_leads, tag_mark_leads, tag_from_leads, tagger_leads, alias_leads, alias_mark_leads, to_leads, reset_leads, reset_from_leads}
use Rattle.round_trip_laws.proofs.PassedLines.{pass_leads}
use Rattle.round_trip_laws.proofs.FoundAgain.{FindsCommit}

-- ---- between events

-- This is a place between events, after these events. A last line is wanted where one of them promised it.
pub record IsAfter (d : Expected) (wants : Bool) (events : List PlainEvent) (current : Open) (done : List PlainEvent) (aliases : List (ℕ × ℕ)) : Type 0 where
  pub between : is_between d ≡ true
  pub are : closed (record { events = events; current = current; aliases = aliases }) ≡ done
  pub promised : wants ≡ list_any is_feature_done done

-- from each place after these events and aliases on, the rest has this history
abbrev pub GivesAfter : List PlainEvent → List (ℕ × ℕ) → Bytes → List PlainEvent → Type 0
GivesAfter done aliases rest history =
    (d : Expected) (wants : Bool) (events : List PlainEvent) (current : Open) → IsAfter d wants events current done aliases
    → Gives (point d wants events aliases current) rest history

-- a promise among one event more
pub promise_more : (done : List PlainEvent) (e : PlainEvent) → (is_feature_done e || list_any is_feature_done done) ≡ list_any is_feature_done (done ++ e ∷ [])
promise_more [] e = refl
promise_more (x ∷ done) e = swap (is_feature_done e) (is_feature_done x) (list_any is_feature_done done) ∙ ap (λ t. is_feature_done x || t) (promise_more done e)
  where
    swap : (a b c : Bool) → (a || (b || c)) ≡ (b || (a || c))
    swap true true c = refl
    swap true false c = refl
    swap false b c = refl

module _ (d : Expected) (wants : Bool) (events : List PlainEvent) (current : Open) (done : List PlainEvent) (aliases : List (ℕ × ℕ)) (h : IsAfter d wants events current done aliases) (rest : Bytes) (history : List PlainEvent) where
  abbrev from_here : Bytes → Type 0
  from_here text = Gives (point d wants events aliases current) text history

  -- a promise isn't in this event
  promised_still : (e : PlainEvent) → is_feature_done e ≡ false → wants ≡ list_any is_feature_done (done ++ e ∷ [])
  promised_still e none = h.promised ∙ ap (λ t. t || list_any is_feature_done done) (sym none) ∙ promise_more done e

  -- ---- blobs

  blob_grouped : (a b c : Bytes) → a ++ b ++ c ++ rest ≡ a ++ (b ++ (c ++ rest))
  blob_grouped a b c = simp append_assoc

  pub blob_goes : (whole : List PlainEvent) (id mark : ℕ) (bytes : Bytes) → id ≡ next_id done → IsMark mark → is_known done aliases mark ≡ false
      → GivesAfter (done ++ Blob id mark bytes ∷ []) aliases rest history → from_here (event_text whole (refs done) (Blob id mark bytes) ++ rest)
  blob_goes whole id mark bytes place is_mark new k =
      subst from_here (sym (blob_grouped (line (codes "blob")) (line (codes "mark " ++ marked mark)) (data_block bytes)))
      (line_goes (point d wants events aliases current) (point expected.BlobMark wants done aliases (ABlob 0)) (codes "blob") (line (codes "mark " ++ marked mark) ++ (data_block bytes ++ rest)) word.Blob history
      (blob_leads d h.between wants events done aliases current h.are)
      (line_goes (point expected.BlobMark wants done aliases (ABlob 0)) (point expected.BlobOid wants done aliases (ABlob mark)) (codes "mark " ++ marked mark) (data_block bytes ++ rest) word.Mark history
      (blob_mark_leads wants done aliases mark is_mark new)
      (data_goes (point expected.BlobOid wants done aliases (ABlob mark)) (record { expected = expected.Event; wants_done = wants }) bytes refl rest history
      (k expected.Event wants (done ++ Blob (next_id done) mark bytes ∷ []) Nothing
      (record { between = refl; are = ap (λ n. done ++ Blob n mark bytes ∷ []) (sym place); promised = promised_still (Blob id mark bytes) refl })))))

  -- ---- tags

  tag_grouped : (a m b c e : Bytes) → a ++ m ++ b ++ c ++ e ++ rest ≡ a ++ (m ++ (b ++ (c ++ (e ++ rest))))
  tag_grouped a m b c e = simp append_assoc

  -- what is written of a tag after its name and its mark
  abbrev after_mark : List PlainEvent → ℕ → Option Signed → Bytes → Bytes
  after_mark whole target tagger comment = line (codes "from " ++ marked (commit_mark whole target)) ++ (tagger_text whole tagger ++ (data_block comment ++ rest))

  tag_ends : (at : Expected) → follows at word.From ≡ Goes expected.TagOid → (whole : List PlainEvent) (id : ℕ) (name : Bytes) (target : ℕ) (tagger : Option Signed) (comment : Bytes) (mark : Option ℕ)
      → id ≡ next_id done → FindsCommit whole done target → IfSome tagger IsFormedSigned → GivesAfter (done ++ Tag id name target tagger comment mark ∷ []) aliases rest history
      → Gives (point at wants done aliases (ATag name 0 None mark)) (after_mark whole target tagger comment) history
  tag_ends at goes whole id name target None comment mark place found formed k =
      line_goes (point at wants done aliases (ATag name 0 None mark)) (point expected.TagOid wants done aliases (ATag name target None mark)) (codes "from " ++ marked (commit_mark whole target)) (data_block comment ++ rest) word.From history
      (tag_from_leads wants done aliases (commit_mark whole target) target found.0 found.1 at goes name 0 None mark)
      (data_goes (point expected.TagOid wants done aliases (ATag name target None mark)) (record { expected = expected.Event; wants_done = wants }) comment refl rest history
      (k expected.Event wants (done ++ Tag (next_id done) name target None comment mark ∷ []) Nothing
      (record { between = refl; are = ap (λ n. done ++ Tag n name target None comment mark ∷ []) (sym place); promised = promised_still (Tag id name target None comment mark) refl })))
  tag_ends at goes whole id name target (Some who) comment mark place found formed k =
      let tagger_line = codes "tagger " ++ person who in
      let after_tagger = data_block comment ++ rest in
      line_goes (point at wants done aliases (ATag name 0 None mark)) (point expected.TagOid wants done aliases (ATag name target None mark)) (codes "from " ++ marked (commit_mark whole target)) (line tagger_line ++ after_tagger) word.From history
      (tag_from_leads wants done aliases (commit_mark whole target) target found.0 found.1 at goes name 0 None mark)
      (line_goes (point expected.TagOid wants done aliases (ATag name target None mark)) (point expected.TagData wants done aliases (ATag name target (Some who) mark)) tagger_line after_tagger word.Tagger history
      (tagger_leads wants done aliases who formed name target None mark)
      (data_goes (point expected.TagData wants done aliases (ATag name target (Some who) mark)) (record { expected = expected.Event; wants_done = wants }) comment refl rest history
      (k expected.Event wants (done ++ Tag (next_id done) name target (Some who) comment mark ∷ []) Nothing
      (record { between = refl; are = ap (λ n. done ++ Tag n name target (Some who) comment mark ∷ []) (sym place); promised = promised_still (Tag id name target (Some who) comment mark) refl }))))

  pub tag_goes : (whole : List PlainEvent) (id : ℕ) (name : Bytes) (target : ℕ) (tagger : Option Signed) (comment : Bytes) (mark : Option ℕ) → id ≡ next_id done → IsTrue (is_name name) → FindsCommit whole done target → IfSome tagger IsFormedSigned
      → IfSome mark (λ m. IsMark m × (is_known done aliases m ≡ false))
      → GivesAfter (done ++ Tag id name target tagger comment mark ∷ []) aliases rest history → from_here (event_text whole (refs done) (Tag id name target tagger comment mark) ++ rest)
  tag_goes whole id name target tagger comment None place named found formed new k =
      subst from_here (sym (tag_grouped (line (codes "tag " ++ name)) [] (line (codes "from " ++ marked (commit_mark whole target))) (tagger_text whole tagger) (data_block comment)))
      (line_goes (point d wants events aliases current) (point expected.TagMark wants done aliases (ATag name 0 None None)) (codes "tag " ++ name) (after_mark whole target tagger comment) word.Tag history
      (tag_leads d h.between wants events done aliases current h.are name named)
      (tag_ends expected.TagMark refl whole id name target tagger comment None place found formed k))
  tag_goes whole id name target tagger comment (Some mark) place named found formed new k =
      let mark_line = codes "mark " ++ marked mark in
      subst from_here (sym (tag_grouped (line (codes "tag " ++ name)) (line mark_line) (line (codes "from " ++ marked (commit_mark whole target))) (tagger_text whole tagger) (data_block comment)))
      (line_goes (point d wants events aliases current) (point expected.TagMark wants done aliases (ATag name 0 None None)) (codes "tag " ++ name) (line mark_line ++ after_mark whole target tagger comment) word.Tag history
      (tag_leads d h.between wants events done aliases current h.are name named)
      (line_goes (point expected.TagMark wants done aliases (ATag name 0 None None)) (point expected.TagFrom wants done aliases (ATag name 0 None (Some mark))) mark_line (after_mark whole target tagger comment) word.Mark history
      (tag_mark_leads wants done aliases mark new.0 new.1 name)
      (tag_ends expected.TagFrom refl whole id name target tagger comment (Some mark) place found formed k)))

  -- ---- aliases

  alias_grouped : (a b c : Bytes) → a ++ b ++ c ++ rest ≡ a ++ (b ++ (c ++ rest))
  alias_grouped a b c = simp append_assoc

  -- a further mark of the commit that has this mark
  pub alias_goes : (mark c alias : ℕ) → IsMark mark → commit_marked done mark ≡ Some c → IsMark alias → is_known done aliases alias ≡ false
      → GivesAfter done (aliases ++ (alias, c) ∷ []) rest history → from_here (alias_text mark alias ++ rest)
  alias_goes mark c alias is_mark found is_alias new k =
      let mark_line = codes "mark " ++ marked alias in
      let to_line = codes "to " ++ marked mark in
      subst from_here (sym (alias_grouped (line (codes "alias")) (line mark_line) (line to_line)))
      (line_goes (point d wants events aliases current) (point expected.AliasMark wants done aliases (AnAlias 0)) (codes "alias") (line mark_line ++ (line to_line ++ rest)) word.Alias history
      (alias_leads d h.between wants events done aliases current h.are)
      (line_goes (point expected.AliasMark wants done aliases (AnAlias 0)) (point expected.AliasTo wants done aliases (AnAlias alias)) mark_line (line to_line ++ rest) word.Mark history
      (alias_mark_leads wants done aliases alias is_alias new)
      (line_goes (point expected.AliasTo wants done aliases (AnAlias alias)) (point expected.Event wants done (aliases ++ (alias, c) ∷ []) Nothing) to_line rest word.To history
      (to_leads wants done aliases mark c is_mark found alias is_alias)
      (k expected.Event wants done Nothing (record { between = refl; are = refl; promised = h.promised })))))

  -- ---- resets

  pub reset_goes : (whole : List PlainEvent) (id : ℕ) (branch : Bytes) (target : Option ℕ) → id ≡ next_id done → IsTrue (is_name branch) → IfSome target (FindsCommit whole done)
      → GivesAfter (done ++ Reset id branch target ∷ []) aliases rest history → from_here (event_text whole (refs done) (Reset id branch target) ++ rest)
  reset_goes whole id branch None place named found k =
      subst from_here (sym (ap (λ (t : Bytes). t ++ rest) (append-nil (line (codes "reset " ++ branch)))))
      (line_goes (point d wants events aliases current) (point expected.ResetFrom wants done aliases (AReset branch None)) (codes "reset " ++ branch) rest word.Reset history
      (reset_leads d h.between wants events done aliases current h.are branch named)
      (k expected.ResetFrom wants done (AReset branch None)
      (record { between = refl; are = ap (λ n. done ++ Reset n branch None ∷ []) (sym place); promised = promised_still (Reset id branch None) refl })))
  reset_goes whole id branch (Some c) place named found k =
      let from_line = codes "from " ++ marked (commit_mark whole c) in
      subst from_here (sym (append_assoc (line (codes "reset " ++ branch)) (line from_line) rest))
      (line_goes (point d wants events aliases current) (point expected.ResetFrom wants done aliases (AReset branch None)) (codes "reset " ++ branch) (line from_line ++ rest) word.Reset history
      (reset_leads d h.between wants events done aliases current h.are branch named)
      (line_goes (point expected.ResetFrom wants done aliases (AReset branch None)) (point expected.ResetEnd wants done aliases (AReset branch (Some c))) from_line rest word.From history
      (reset_from_leads wants done aliases (commit_mark whole c) c found.0 found.1 branch None)
      (k expected.ResetEnd wants done (AReset branch (Some c))
      (record { between = refl; are = ap (λ n. done ++ Reset n branch (Some c) ∷ []) (sym place); promised = promised_still (Reset id branch (Some c)) refl }))))

  -- ---- lines that are passed through

  pub pass_goes : (whole : List PlainEvent) (id : ℕ) (text : Bytes) → id ≡ next_id done → IsTrue (is_passed_line text)
      → GivesAfter (done ++ Pass id text ∷ []) aliases rest history → from_here (event_text whole (refs done) (Pass id text) ++ rest)
  pass_goes whole id text place passed k =
      let l = pass_leads d h.between wants events done aliases current h.are text passed in
      let promised = bytes_eq text (codes "feature done") || wants in
      line_goes (point d wants events aliases current) (point expected.Event promised (done ++ Pass (next_id done) text ∷ []) aliases Nothing) text rest l.0 history l.1
      (k expected.Event promised (done ++ Pass (next_id done) text ∷ []) Nothing
      (record {
        between = refl;
        are = ap (λ n. done ++ Pass n text ∷ []) (sym place);
        promised = ap (λ t. bytes_eq text (codes "feature done") || t) h.promised ∙ promise_more done (Pass id text);
      }))
