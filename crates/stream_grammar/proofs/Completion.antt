-- Each state of a stream can be completed: after the lines that were read, whatever their fields, the lines that are
-- still expected can follow. So a stream's first refusal is its first defect.
use Rattle.std.proofs.Common.{◌≡◌, ℕ, Bool, true, false, List, [], ◌∷◌, ◌++◌, refl, codes}
use Rattle.plain_model.specs.Fields.{extent_in, data_text}
use Rattle.plain_model.specs.Parts.{number_of}
use Rattle.plain_model.specs.Paths.{Bytes}
use Rattle.line_automaton.specs.Machine.{outcome_from, none, Completes}
use Rattle.line_automaton.specs.Machine.Mode.{InLine}
use Rattle.line_automaton.specs.Machine.Machine.{At}
use Rattle.line_automaton.specs.Machine.Outcome.{Reads}
use Rattle.stream_grammar.specs.declared.lines.Expected.{Expected}
use Rattle.stream_grammar.specs.declared.lines.Expected.TheVariants as expected
use Rattle.stream_grammar.specs.Known.{Known}
use Rattle.stream_grammar.specs.Lines.{State, stream}

abbrev lf : Bytes → Bytes
lf line = line ++ 10 ∷ []

abbrev no_data : Bytes
no_data = lf (codes "data 0") ++ 10 ∷ []

-- the lines that are still expected, with any fields
abbrev still_expected : Expected → Bytes
still_expected expected.Event = []
still_expected expected.BlobMark = no_data
still_expected expected.BlobOid = no_data
still_expected expected.BlobData = no_data
still_expected expected.CommitMark = lf (codes "committer") ++ no_data
still_expected expected.CommitOid = lf (codes "committer") ++ no_data
still_expected expected.CommitAuthor = lf (codes "committer") ++ no_data
still_expected expected.CommitCommitter = lf (codes "committer") ++ no_data
still_expected expected.CommitEncoding = no_data
still_expected expected.CommitData = no_data
still_expected expected.CommitFrom = []
still_expected expected.CommitMerge = []
still_expected expected.CommitOperation = []
still_expected expected.InlineData = no_data
still_expected expected.TagMark = lf (codes "from") ++ no_data
still_expected expected.TagFrom = lf (codes "from") ++ no_data
still_expected expected.TagOid = no_data
still_expected expected.TagTagger = no_data
still_expected expected.TagData = no_data
still_expected expected.ResetFrom = []
still_expected expected.ResetEnd = []
still_expected expected.AliasMark = lf (codes "mark") ++ lf (codes "to")
still_expected expected.AliasTo = lf (codes "to")

abbrev ending : Bool → Bytes
ending true = lf (codes "done")
ending false = []

completes_at : (n : ℕ) (d : Expected) (wants : Bool) (spelled : List Bytes) (known : Known)
    → (last : State) × (outcome_from stream none (At n (InLine []) (record { standing = record { expected = d; wants_done = wants }; spelled = spelled; known = known })) (still_expected d ++ ending wants) ≡ Reads last)
unfolding extent_in data_text number_of
completes_at n expected.Event true spelled known = (_, refl)
completes_at n expected.Event false spelled known = (_, refl)
completes_at n expected.BlobMark true spelled known = (_, refl)
completes_at n expected.BlobMark false spelled known = (_, refl)
completes_at n expected.BlobOid true spelled known = (_, refl)
completes_at n expected.BlobOid false spelled known = (_, refl)
completes_at n expected.BlobData true spelled known = (_, refl)
completes_at n expected.BlobData false spelled known = (_, refl)
completes_at n expected.CommitMark true spelled known = (_, refl)
completes_at n expected.CommitMark false spelled known = (_, refl)
completes_at n expected.CommitOid true spelled known = (_, refl)
completes_at n expected.CommitOid false spelled known = (_, refl)
completes_at n expected.CommitAuthor true spelled known = (_, refl)
completes_at n expected.CommitAuthor false spelled known = (_, refl)
completes_at n expected.CommitCommitter true spelled known = (_, refl)
completes_at n expected.CommitCommitter false spelled known = (_, refl)
completes_at n expected.CommitEncoding true spelled known = (_, refl)
completes_at n expected.CommitEncoding false spelled known = (_, refl)
completes_at n expected.CommitData true spelled known = (_, refl)
completes_at n expected.CommitData false spelled known = (_, refl)
completes_at n expected.CommitFrom true spelled known = (_, refl)
completes_at n expected.CommitFrom false spelled known = (_, refl)
completes_at n expected.CommitMerge true spelled known = (_, refl)
completes_at n expected.CommitMerge false spelled known = (_, refl)
completes_at n expected.CommitOperation true spelled known = (_, refl)
completes_at n expected.CommitOperation false spelled known = (_, refl)
completes_at n expected.InlineData true spelled known = (_, refl)
completes_at n expected.InlineData false spelled known = (_, refl)
completes_at n expected.TagMark true spelled known = (_, refl)
completes_at n expected.TagMark false spelled known = (_, refl)
completes_at n expected.TagFrom true spelled known = (_, refl)
completes_at n expected.TagFrom false spelled known = (_, refl)
completes_at n expected.TagOid true spelled known = (_, refl)
completes_at n expected.TagOid false spelled known = (_, refl)
completes_at n expected.TagTagger true spelled known = (_, refl)
completes_at n expected.TagTagger false spelled known = (_, refl)
completes_at n expected.TagData true spelled known = (_, refl)
completes_at n expected.TagData false spelled known = (_, refl)
completes_at n expected.ResetFrom true spelled known = (_, refl)
completes_at n expected.ResetFrom false spelled known = (_, refl)
completes_at n expected.AliasMark true spelled known = (_, refl)
completes_at n expected.AliasMark false spelled known = (_, refl)
completes_at n expected.AliasTo true spelled known = (_, refl)
completes_at n expected.AliasTo false spelled known = (_, refl)
completes_at n expected.ResetEnd true spelled known = (_, refl)
completes_at n expected.ResetEnd false spelled known = (_, refl)

pub stream_completes : Completes stream
stream_completes = record {
  complete = λ s. still_expected s.standing.expected ++ ending s.standing.wants_done;
  completes = λ n s. completes_at n s.standing.expected s.standing.wants_done s.spelled s.known;
}
