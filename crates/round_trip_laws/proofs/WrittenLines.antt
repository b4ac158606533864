-- Each line that is written leads on, by its own rule.
use Rattle.std.proofs.Common.{◌≡◌, inl, inr, ℕ, zero, suc, Result, Bool, true, false, not, List, [], ◌∷◌, ◌++◌, length, Some, None, Ok, Err, refl, ap, ◌∙◌, arith, codes, decimal, option_to_list, Option, ne_eqb, ◌⊎◌}
use Rattle.std.specs.Prelude.{◌==◌, ◌&&◌, ◌||◌, IsTrue}
use Rattle.std.specs.List.{list_all, list_any}
use Rattle.std.specs.Map.{lookup}
use Rattle.std.proofs.lemmas.Bool.{cond-true, and_parts, or_from, cond-false}
use Rattle.std.proofs.Math.Bool.{and-false}
use Rattle.plain_model.specs.declared.fault.Why.{Why}
use Rattle.plain_model.specs.declared.fault.Why.TheVariants.{BadName, RepeatedMark, UnknownMark, LeftOut}
use Rattle.plain_model.specs.declared.event.PlainEvent.{PlainEvent}
use Rattle.plain_model.specs.declared.person.Signed.{Signed}
use Rattle.plain_model.specs.Fields.{◌>>=◌, name_in, mark_in, person_in, or_defect, is_any_hex}
use Rattle.plain_model.specs.Paths.{Bytes}
use Rattle.plain_model.specs.Text.{marked, person}
use Rattle.plain_model.specs.Marks.{IsMark}
use Rattle.plain_model.specs.Numbers.{is_digit}
use Rattle.plain_model.specs.Names.{is_name}
use Rattle.plain_model.specs.Streams.{commit_marked, is_among, is_marked}
use Rattle.plain_model.specs.Trees.{at}
use Rattle.plain_model.specs.Snapshots.{refs}
use Rattle.plain_model.specs.Soundness.{IsFormedSigned}
use Rattle.plain_model.specs.People.{IsNamePart, IsZone, is_clean}
use Rattle.plain_model.specs.Parts.{has_no_lf}
use Rattle.field_laws.proofs.Written.{plain_name, plain_mark, mark_numeral, SignedFits, person_written, plain_join, plain_digits}
use Rattle.field_laws.proofs.FieldSteps.{ok_then, or_defect_found}
use Rattle.field_laws.proofs.FieldsAgain.{mark_again, person_again}
use Rattle.line_automaton.specs.Machine.Next.{More, Over}
use Rattle.stream_grammar.specs.declared.lines.Expected.{Expected}
use Rattle.stream_grammar.specs.declared.lines.Expected.TheVariants as expected
use Rattle.stream_grammar.specs.declared.lines.Follow.TheVariants.{Finished, Goes}
use Rattle.stream_grammar.specs.declared.lines.Word.{Word}
use Rattle.stream_grammar.specs.declared.lines.Word.TheVariants as word
use Rattle.stream_grammar.specs.Known.{Known, Open, OpenCommit, alias_marks, commit_with, ref_in, with_parent, is_left_out_ref, ensure, closed}
use Rattle.stream_grammar.specs.Known.Open.{Nothing, ABlob, ACommit, ATag, AReset, AnAlias}
use Rattle.stream_grammar.specs.Lines.{judged, aliased, gone_on, with_from, with_mark, begun_with, commit_on, follows}
use Rattle.field_laws.proofs.Persons.{digit_at_most}
use Rattle.round_trip_laws.proofs.Points.{Point, point, Leads}

-- ---- between events

-- an event is over here, or may be
abbrev pub is_between : Expected → Bool
is_between expected.Event = true
is_between expected.ResetFrom = true
is_between expected.ResetEnd = true
is_between _ = false

-- a line that no reset goes on with begins an event there
pub finishes : (d : Expected) (w : Word) → is_between d ≡ true → follows expected.ResetFrom w ≡ Finished → follows d w ≡ Finished
finishes expected.Event w h e = refl
finishes expected.ResetFrom w h e = e
finishes expected.ResetEnd w h e = refl
finishes _ w h e = absurd cc

-- ---- lines of a name

name_read : (name : Bytes) → IsTrue (is_name name) → name_in name ≡ Ok name
unfolding name_in
name_read name h = cond-true (is_name name) (Ok name) (Err BadName) h

-- a line that begins an event, where these events are after
module _ (d : Expected) (between : is_between d ≡ true) (wants : Bool) (events done : List PlainEvent) (aliases : List (ℕ × ℕ)) (current : Open) (are : closed (record { events = events; current = current; aliases = aliases }) ≡ done) where
  abbrev here : Point
  here = point d wants events aliases current

  pub blob_leads : Leads here (codes "blob") word.Blob More (point expected.BlobMark wants done aliases (ABlob 0))
  blob_leads = record {
    plain = refl;
    no_comment = refl;
    word_is = refl;
    stands = ap (gone_on here.standing word.Blob) (finishes d word.Blob between refl);
    follows = refl;
    fits = ap (λ (l : List PlainEvent). Ok (record { events = l; current = ABlob 0; aliases = aliases })) are;
  }

  -- a name
  module _ (name : Bytes) (named : IsTrue (is_name name)) where
    -- a commit begins after its branch's tip
    abbrev pub commit_begun : OpenCommit
    commit_begun = record {
      branch = name;
      mark = 0;
      author = None;
      committer = None;
      encoding = None;
      comment = [];
      parents = option_to_list (at (refs done) name);
      ops = [];
    }

    pub commit_leads : Leads here (codes "commit " ++ name) word.Commit More (point expected.CommitMark wants done aliases (ACommit commit_begun))
    commit_leads = record {
      plain = plain_name name named;
      no_comment = refl;
      word_is = refl;
      stands = ap (gone_on here.standing word.Commit) (finishes d word.Commit between refl);
      follows = refl;
      fits = ok_then (name_in name) (λ branch. Ok (begun_with here.known (commit_on here.known branch))) name (Ok (begun_with here.known (commit_on here.known name))) (name_read name named) refl
          ∙ ap (λ (l : List PlainEvent). Ok (record {
            events = l;
            current = ACommit (record {
              branch = name;
              mark = 0;
              author = None;
              committer = None;
              encoding = None;
              comment = [];
              parents = option_to_list (at (refs l) name);
              ops = [];
            });
            aliases = aliases;
          })) are;
    }

    pub tag_leads : Leads here (codes "tag " ++ name) word.Tag More (point expected.TagMark wants done aliases (ATag name 0 None None))
    tag_leads = record {
      plain = plain_name name named;
      no_comment = refl;
      word_is = refl;
      stands = ap (gone_on here.standing word.Tag) (finishes d word.Tag between refl);
      follows = refl;
      fits = ok_then (name_in name) (λ n. Ok (begun_with here.known (ATag n 0 None None))) name (Ok (begun_with here.known (ATag name 0 None None))) (name_read name named) refl
          ∙ ap (λ (l : List PlainEvent). Ok (record { events = l; current = ATag name 0 None None; aliases = aliases })) are;
    }

    pub reset_leads : Leads here (codes "reset " ++ name) word.Reset More (point expected.ResetFrom wants done aliases (AReset name None))
    reset_leads = record {
      plain = plain_name name named;
      no_comment = refl;
      word_is = refl;
      stands = ap (gone_on here.standing word.Reset) (finishes d word.Reset between refl);
      follows = refl;
      fits = ok_then (name_in name) (λ n. Ok (begun_with here.known (AReset n None))) name (Ok (begun_with here.known (AReset name None))) (name_read name named) refl
          ∙ ap (λ (l : List PlainEvent). Ok (record { events = l; current = AReset name None; aliases = aliases })) are;
    }

  pub alias_leads : Leads here (codes "alias") word.Alias More (point expected.AliasMark wants done aliases (AnAlias 0))
  alias_leads = record {
    plain = refl;
    no_comment = refl;
    word_is = refl;
    stands = ap (gone_on here.standing word.Alias) (finishes d word.Alias between refl);
    follows = refl;
    fits = ap (λ (l : List PlainEvent). Ok (record { events = l; current = AnAlias 0; aliases = aliases })) are;
  }

  -- the line that ends a stream
  pub done_leads : Leads here (codes "done") word.Done Over (point expected.Event false events aliases current)
  done_leads = record {
    plain = refl;
    no_comment = refl;
    word_is = refl;
    stands = ap (gone_on here.standing word.Done) (finishes d word.Done between refl);
    follows = refl;
    fits = refl;
  }

-- ---- marks

-- some event or alias has the mark
abbrev pub is_known : List PlainEvent → List (ℕ × ℕ) → ℕ → Bool
is_known done aliases mark = is_marked done mark || is_among (alias_marks aliases) mark

-- a line of a mark that isn't there yet
module _ (wants : Bool) (done : List PlainEvent) (aliases : List (ℕ × ℕ)) (mark : ℕ) (is_mark : IsMark mark) (new : is_known done aliases mark ≡ false) where
  mark_fits : (event : Open) → judged word.Mark (codes "mark " ++ marked mark) (record { events = done; current = event; aliases = aliases }) ≡ Ok (record { events = done; current = with_mark mark event; aliases = aliases })
  mark_fits event =
      ok_then (mark_in (marked mark)) (λ m. ensure (not (is_known done aliases m)) RepeatedMark >>= λ fresh. Ok (record { events = done; current = with_mark m event; aliases = aliases })) mark (Ok (record { events = done; current = with_mark mark event; aliases = aliases })) (mark_again mark is_mark)
      (ok_then (ensure (not (is_known done aliases mark)) RepeatedMark) (λ fresh. Ok (record { events = done; current = with_mark mark event; aliases = aliases })) tt (Ok (record { events = done; current = with_mark mark event; aliases = aliases })) (ap (λ t. ensure (not t) RepeatedMark) new) refl)

  pub blob_mark_leads : Leads (point expected.BlobMark wants done aliases (ABlob 0)) (codes "mark " ++ marked mark) word.Mark More (point expected.BlobOid wants done aliases (ABlob mark))
  blob_mark_leads = record { plain = plain_mark mark is_mark; no_comment = refl; word_is = refl; stands = refl; follows = refl; fits = mark_fits (ABlob 0) }

  pub tag_mark_leads : (name : Bytes) → Leads (point expected.TagMark wants done aliases (ATag name 0 None None)) (codes "mark " ++ marked mark) word.Mark More (point expected.TagFrom wants done aliases (ATag name 0 None (Some mark)))
  tag_mark_leads name = record { plain = plain_mark mark is_mark; no_comment = refl; word_is = refl; stands = refl; follows = refl; fits = mark_fits (ATag name 0 None None) }

  pub alias_mark_leads : Leads (point expected.AliasMark wants done aliases (AnAlias 0)) (codes "mark " ++ marked mark) word.Mark More (point expected.AliasTo wants done aliases (AnAlias mark))
  alias_mark_leads = record { plain = plain_mark mark is_mark; no_comment = refl; word_is = refl; stands = refl; follows = refl; fits = mark_fits (AnAlias 0) }

  pub commit_mark_leads : (c : OpenCommit) → Leads (point expected.CommitMark wants done aliases (ACommit c)) (codes "mark " ++ marked mark) word.Mark More (point expected.CommitOid wants done aliases (ACommit (record c { mark = mark })))
  commit_mark_leads c = record { plain = plain_mark mark is_mark; no_comment = refl; word_is = refl; stands = refl; follows = refl; fits = mark_fits (ACommit c) }

-- ---- references

-- what holds of no digit
none_of_digits : (test : ℕ → Bool) → ((b : ℕ) → is_digit b ≡ true → test b ≡ false) → (digits : Bytes) → list_all is_digit digits ≡ true → list_any test digits ≡ false
none_of_digits test h [] e = refl
none_of_digits test h (b ∷ bs) e =
    let parts = and_parts (is_digit b) (list_all is_digit bs) e in
    or_from (test b) (list_any test bs) (h b parts.0) (none_of_digits test h bs parts.1)

-- a mark is none of the references that are left out
mark_kept : (mark : ℕ) → IsMark mark → is_left_out_ref (marked mark) ≡ false
mark_kept mark h =
    let digits = decimal mark in
    or_from (list_any (λ b. (b == 94) || (b == 126)) (marked mark)) (((length (marked mark) == 40) || (length (marked mark) == 64)) && list_all is_any_hex (marked mark))
    (none_of_digits (λ b. (b == 94) || (b == 126)) (λ b d. let low = digit_at_most b d in or_from (b == 94) (b == 126) (ne_eqb b 94 (λ e. absurd (omega arith))) (ne_eqb b 126 (λ e. absurd (omega arith)))) digits (mark_numeral mark h).all)
    (and-false ((length (marked mark) == 40) || (length (marked mark) == 64)))

-- the commit that its mark names
pub ref_again : (done : List PlainEvent) (aliases : List (ℕ × ℕ)) (mark c : ℕ) → IsMark mark → commit_marked done mark ≡ Some c → ref_in done aliases (marked mark) ≡ Ok c
ref_again done aliases mark c h found =
    let named = mark_in (marked mark) >>= λ m. or_defect UnknownMark (commit_with done aliases m) in
    cond-false (is_left_out_ref (marked mark)) (Err LeftOut) named (mark_kept mark h)
    ∙ ok_then (mark_in (marked mark)) (λ m. or_defect UnknownMark (commit_with done aliases m)) mark (Ok c) (mark_again mark h) (or_defect_found UnknownMark (commit_with done aliases mark) c (named_by (commit_marked done mark) found))
  where
    named_by : (o : Option ℕ) → o ≡ Some c → elim o [ Some commit ↦ Some commit | None ↦ lookup (λ a. a == mark) aliases ] ≡ Some c
    named_by (Some x) e = e
    named_by None e = absurd cc

-- a line of such a mark
module _ (wants : Bool) (done : List PlainEvent) (aliases : List (ℕ × ℕ)) (mark c : ℕ) (is_mark : IsMark mark) (found : commit_marked done mark ≡ Some c) where
  from_fits : (event : Open) → judged word.From (codes "from " ++ marked mark) (record { events = done; current = event; aliases = aliases }) ≡ Ok (record { events = done; current = with_from c event; aliases = aliases })
  from_fits event = ok_then (ref_in done aliases (marked mark)) (λ x. Ok (record { events = done; current = with_from x event; aliases = aliases })) c (Ok (record { events = done; current = with_from c event; aliases = aliases })) (ref_again done aliases mark c is_mark found) refl

  pub commit_from_leads : (o : OpenCommit) → Leads (point expected.CommitFrom wants done aliases (ACommit o)) (codes "from " ++ marked mark) word.From More (point expected.CommitMerge wants done aliases (ACommit (record o { parents = c ∷ [] })))
  commit_from_leads o = record { plain = plain_mark mark is_mark; no_comment = refl; word_is = refl; stands = refl; follows = refl; fits = from_fits (ACommit o) }

  pub tag_from_leads : (at : Expected) → follows at word.From ≡ Goes expected.TagOid → (name : Bytes) (old : ℕ) (tagger : Option Signed) (own : Option ℕ) → Leads (point at wants done aliases (ATag name old tagger own)) (codes "from " ++ marked mark) word.From More (point expected.TagOid wants done aliases (ATag name c tagger own))
  tag_from_leads at goes name old tagger own = record { plain = plain_mark mark is_mark; no_comment = refl; word_is = refl; stands = ap (gone_on (record { expected = at; wants_done = wants }) word.From) goes; follows = refl; fits = from_fits (ATag name old tagger own) }

  pub to_leads : (alias : ℕ) → IsMark alias → Leads (point expected.AliasTo wants done aliases (AnAlias alias)) (codes "to " ++ marked mark) word.To More (point expected.Event wants done (aliases ++ (alias, c) ∷ []) Nothing)
  to_leads alias is_alias = record {
    plain = plain_mark mark is_mark;
    no_comment = refl;
    word_is = refl;
    stands = refl;
    follows = refl;
    fits = ok_then (ref_in done aliases (marked mark)) (λ x. Ok (aliased x (record { events = done; current = AnAlias alias; aliases = aliases }))) c (Ok (record { events = done; current = Nothing; aliases = aliases ++ (alias, c) ∷ [] })) (ref_again done aliases mark c is_mark found) (names alias is_alias);
  }
    where
      names : (alias : ℕ) → IsMark alias → ◌≡◌ {A = Result Known Why} (Ok (aliased c (record { events = done; current = AnAlias alias; aliases = aliases }))) (Ok (record { events = done; current = Nothing; aliases = aliases ++ (alias, c) ∷ [] }))
      names zero h = absurd (omega (arith, h.0))
      names (suc m) h = refl

  pub reset_from_leads : (branch : Bytes) (old : Option ℕ) → Leads (point expected.ResetFrom wants done aliases (AReset branch old)) (codes "from " ++ marked mark) word.From More (point expected.ResetEnd wants done aliases (AReset branch (Some c)))
  reset_from_leads branch old = record { plain = plain_mark mark is_mark; no_comment = refl; word_is = refl; stands = refl; follows = refl; fits = from_fits (AReset branch old) }

  pub merge_leads : (o : OpenCommit) → Leads (point expected.CommitMerge wants done aliases (ACommit o)) (codes "merge " ++ marked mark) word.Merge More (point expected.CommitMerge wants done aliases (ACommit (with_parent c o)))
  merge_leads o = record {
    plain = plain_mark mark is_mark;
    no_comment = refl;
    word_is = refl;
    stands = refl;
    follows = refl;
    fits = ok_then (ref_in done aliases (marked mark)) (λ x. Ok (record { events = done; current = ACommit (with_parent x o); aliases = aliases })) c (Ok (record { events = done; current = ACommit (with_parent c o); aliases = aliases })) (ref_again done aliases mark c is_mark found) refl;
  }

-- ---- people

formed_fits : (who : Signed) → IsFormedSigned who → SignedFits who
formed_fits who (clean, time, digits) =
    let a = and_parts (is_clean who.person.name && has_no_lf who.person.name && is_clean who.person.email) (has_no_lf who.person.email) clean in
    let b = and_parts (is_clean who.person.name && has_no_lf who.person.name) (is_clean who.person.email) a.0 in
    let c = and_parts (is_clean who.person.name) (has_no_lf who.person.name) b.0 in
    record { clean_name = c.0; clean_email = b.1; plain_name = c.1; plain_email = a.1; in_time = time; four_digits = digits }

part_plain : (part name : Bytes) → IsNamePart part name → has_no_lf name ≡ true → has_no_lf part ≡ true
part_plain part name (inl e) h = ap has_no_lf e.0
part_plain part name (inr e) h = ap has_no_lf e ∙ plain_join name (32 ∷ []) h refl

zone_plain : (text : Bytes) (minus : Bool) (offset : ℕ) → IsZone text minus offset → has_no_lf text ≡ true
zone_plain text minus offset z = ap has_no_lf z.is ∙ go z.signed
  where
    go : ((z.sign ≡ 43) × (minus ≡ false)) ⊎ ((z.sign ≡ 45) × (minus ≡ true)) → has_no_lf (z.sign ∷ z.digits) ≡ true
    go (inl e) = ap (λ b. has_no_lf (b ∷ z.digits)) e.0 ∙ plain_digits z.digits z.numeral.all
    go (inr e) = ap (λ b. has_no_lf (b ∷ z.digits)) e.0 ∙ plain_digits z.digits z.numeral.all

-- who and when have no LF
person_plain : (who : Signed) → IsFormedSigned who → has_no_lf (person who) ≡ true
person_plain who h =
    let fits = formed_fits who h in
    let s = person_written who fits in
    ap has_no_lf s.is
    ∙ plain_join s.part (60 ∷ (who.person.email ++ 62 ∷ 32 ∷ (s.digits ++ 32 ∷ s.zone))) (part_plain s.part who.person.name s.name fits.plain_name)
    (plain_join who.person.email (62 ∷ 32 ∷ (s.digits ++ 32 ∷ s.zone)) fits.plain_email
    (plain_join s.digits (32 ∷ s.zone) (plain_digits s.digits s.seconds.all) (zone_plain s.zone who.when.minus who.when.offset s.offset)))

-- a line of who and when
module _ (wants : Bool) (done : List PlainEvent) (aliases : List (ℕ × ℕ)) (who : Signed) (formed : IsFormedSigned who) where
  pub author_leads : (c : OpenCommit) → Leads (point expected.CommitOid wants done aliases (ACommit c)) (codes "author " ++ person who) word.Author More (point expected.CommitCommitter wants done aliases (ACommit (record c { author = Some who })))
  author_leads c = record {
    plain = person_plain who formed;
    no_comment = refl;
    word_is = refl;
    stands = refl;
    follows = refl;
    fits = ok_then (person_in (person who)) (λ x. Ok (record { events = done; current = ACommit (record c { author = Some x }); aliases = aliases })) who (Ok (record { events = done; current = ACommit (record c { author = Some who }); aliases = aliases })) (person_again who formed) refl;
  }

  pub committer_leads : (c : OpenCommit) → Leads (point expected.CommitCommitter wants done aliases (ACommit c)) (codes "committer " ++ person who) word.Committer More (point expected.CommitEncoding wants done aliases (ACommit (record c { committer = Some who })))
  committer_leads c = record {
    plain = person_plain who formed;
    no_comment = refl;
    word_is = refl;
    stands = refl;
    follows = refl;
    fits = ok_then (person_in (person who)) (λ x. Ok (record { events = done; current = ACommit (record c { committer = Some x }); aliases = aliases })) who (Ok (record { events = done; current = ACommit (record c { committer = Some who }); aliases = aliases })) (person_again who formed) refl;
  }

  pub tagger_leads : (name : Bytes) (target : ℕ) (old : Option Signed) (own : Option ℕ) → Leads (point expected.TagOid wants done aliases (ATag name target old own)) (codes "tagger " ++ person who) word.Tagger More (point expected.TagData wants done aliases (ATag name target (Some who) own))
  tagger_leads name target old own = record {
    plain = person_plain who formed;
    no_comment = refl;
    word_is = refl;
    stands = refl;
    follows = refl;
    fits = ok_then (person_in (person who)) (λ x. Ok (record { events = done; current = ATag name target (Some x) own; aliases = aliases })) who (Ok (record { events = done; current = ATag name target (Some who) own; aliases = aliases })) (person_again who formed) refl;
  }

-- ---- other lines of a commit

pub encoding_leads : (wants : Bool) (done : List PlainEvent) (aliases : List (ℕ × ℕ)) (c : OpenCommit) (encoding : Bytes) → has_no_lf encoding ≡ true
    → Leads (point expected.CommitEncoding wants done aliases (ACommit c)) (codes "encoding " ++ encoding) word.Encoding More (point expected.CommitData wants done aliases (ACommit (record c { encoding = Some encoding })))
encoding_leads wants done aliases c encoding h = record { plain = h; no_comment = refl; word_is = refl; stands = refl; follows = refl; fits = refl }

-- a commit can end here
abbrev pub may_end : Expected → Bool
may_end expected.CommitFrom = true
may_end expected.CommitMerge = true
may_end expected.CommitOperation = true
may_end _ = false

ends_empty : (d : Expected) → may_end d ≡ true → follows d word.Empty ≡ Finished
ends_empty expected.CommitFrom h = refl
ends_empty expected.CommitMerge h = refl
ends_empty expected.CommitOperation h = refl
ends_empty _ h = absurd cc

pub empty_leads : (d : Expected) → may_end d ≡ true → (wants : Bool) (done : List PlainEvent) (aliases : List (ℕ × ℕ)) (current : Open) → Leads (point d wants done aliases current) [] word.Empty More (point expected.Event wants done aliases current)
empty_leads d h wants done aliases current = record {
  plain = refl;
  no_comment = refl;
  word_is = refl;
  stands = ap (gone_on (record { expected = d; wants_done = wants }) word.Empty) (ends_empty d h);
  follows = refl;
  fits = refl;
}
