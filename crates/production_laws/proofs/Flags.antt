-- Where the automaton expects the data of an operation: after a line with `inline`.
use Rattle.std.proofs.Common.{◌≡◌, Bool, true, false, Result, Ok, Err, refl, sym, ◌∙◌, ap}
use Rattle.plain_model.specs.declared.fault.Why.{Why}
use Rattle.stream_grammar.specs.declared.lines.Expected.{Expected}
use Rattle.stream_grammar.specs.declared.lines.Expected.TheVariants as expected
use Rattle.stream_grammar.specs.declared.lines.Follow.{Follow}
use Rattle.stream_grammar.specs.declared.lines.Follow.TheVariants.{Goes, Missing, Finished}
use Rattle.stream_grammar.specs.declared.lines.Standing.{Standing}
use Rattle.stream_grammar.specs.declared.lines.Word.{Word}
use Rattle.stream_grammar.specs.declared.lines.Word.TheVariants as word
use Rattle.stream_grammar.specs.Lines.{follows, begun_by, gone_on, after_word, is_inline_expected}
use Rattle.production_laws.specs.Meanings.{is_inline_word}
use Rattle.production_laws.proofs.Standings.{goes_on_by}

abbrev pub awaits_inline : Expected → Bool
awaits_inline expected.InlineData = true
awaits_inline _ = false

-- the place where the line goes has this flag
abbrev HasFlag : (Expected → Bool) → Bool → Follow → Type 0
HasFlag flag b (Goes e) = flag e ≡ b
HasFlag flag b Missing = ◌≡◌ {A = Bool} b b
HasFlag flag b Finished = ◌≡◌ {A = Bool} b b

flags : (d : Expected) (w : Word) → HasFlag awaits_inline (is_inline_word w) (follows d w)
flags expected.Event word.Empty = refl
flags expected.Event _ = refl
flags expected.BlobMark word.Empty = refl
flags expected.BlobMark _ = refl
flags expected.BlobOid word.Empty = refl
flags expected.BlobOid _ = refl
flags expected.BlobData word.Empty = refl
flags expected.BlobData _ = refl
flags expected.CommitMark word.Empty = refl
flags expected.CommitMark _ = refl
flags expected.CommitOid word.Empty = refl
flags expected.CommitOid _ = refl
flags expected.CommitAuthor word.Empty = refl
flags expected.CommitAuthor _ = refl
flags expected.CommitCommitter word.Empty = refl
flags expected.CommitCommitter _ = refl
flags expected.CommitEncoding word.Empty = refl
flags expected.CommitEncoding _ = refl
flags expected.CommitData word.Empty = refl
flags expected.CommitData _ = refl
flags expected.CommitFrom word.Empty = refl
flags expected.CommitFrom _ = refl
flags expected.CommitMerge word.Empty = refl
flags expected.CommitMerge _ = refl
flags expected.CommitOperation word.Empty = refl
flags expected.CommitOperation _ = refl
flags expected.InlineData word.Empty = refl
flags expected.InlineData _ = refl
flags expected.TagMark word.Empty = refl
flags expected.TagMark _ = refl
flags expected.TagFrom word.Empty = refl
flags expected.TagFrom _ = refl
flags expected.TagOid word.Empty = refl
flags expected.TagOid _ = refl
flags expected.TagTagger word.Empty = refl
flags expected.TagTagger _ = refl
flags expected.TagData word.Empty = refl
flags expected.TagData _ = refl
flags expected.ResetFrom word.Empty = refl
flags expected.ResetFrom _ = refl
flags expected.ResetEnd word.Empty = refl
flags expected.ResetEnd _ = refl
flags expected.AliasMark word.Empty = refl
flags expected.AliasMark _ = refl
flags expected.AliasTo word.Empty = refl
flags expected.AliasTo _ = refl

data_flags : (d : Expected) → HasFlag is_inline_expected (awaits_inline d) (follows d word.Data)
data_flags expected.Event = refl
data_flags _ = refl

abbrev flag_or : (Expected → Bool) → Result Standing Why → Bool
flag_or flag (Ok t) = flag t.expected
flag_or flag (Err why) = false

begun_flag : (s t : Standing) (w : Word) → begun_by s w ≡ Ok t → awaits_inline t.expected ≡ is_inline_word w
begun_flag s t word.InlineOperation e = absurd cc
begun_flag s t word.Empty e = sym (ap (flag_or awaits_inline) e)
begun_flag s t _ e = sym (ap (flag_or awaits_inline) e)

pub line_flag : (s t : Standing) (w : Word) → after_word s w ≡ Ok t → is_inline_word w ≡ awaits_inline t.expected
line_flag s t w e = go (follows s.expected w) (flags s.expected w) (goes_on_by s t w e)
  where
    go : (f : Follow) → HasFlag awaits_inline (is_inline_word w) f → gone_on s w f ≡ Ok t → is_inline_word w ≡ awaits_inline t.expected
    go (Goes d) h e = sym h ∙ ap (flag_or awaits_inline) e
    go Missing h e = absurd cc
    go Finished h e = sym (begun_flag s t w e)

pub data_flag : (s t : Standing) → after_word s word.Data ≡ Ok t → is_inline_expected t.expected ≡ awaits_inline s.expected
data_flag s t e = go (follows s.expected word.Data) (data_flags s.expected) (goes_on_by s t word.Data e)
  where
    go : (f : Follow) → HasFlag is_inline_expected (awaits_inline s.expected) f → gone_on s word.Data f ≡ Ok t → is_inline_expected t.expected ≡ awaits_inline s.expected
    go (Goes d) h e = sym (ap (flag_or is_inline_expected) e) ∙ h
    go Missing h e = absurd cc
    go Finished h e = absurd cc
