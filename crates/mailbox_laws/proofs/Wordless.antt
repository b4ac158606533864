-- Histories with other words are alike, and have the same references.
use Rattle.std.proofs.Common.{◌≡◌, ℕ, List, [], ◌∷◌, length, map, Some, None, refl, sym, ap, ◌∙◌}
use Rattle.std.specs.Prelude.{bytes_eq, not}
use Rattle.plain_model.specs.declared.event.PlainEvent.{PlainEvent}
use Rattle.plain_model.specs.declared.event.PlainEvent.TheVariants.{Blob, Commit, Tag, Reset, Pass}
use Rattle.plain_model.specs.Histories.{nodes}
use Rattle.plain_model.specs.Lookups.{alias_count, id_of}
use Rattle.plain_model.specs.Snapshots.{refs, refs_after}
use Rattle.plain_model.specs.Trees.{TreeOf, put, where_path}
use Rattle.mailbox_laws.specs.Words.{HaveOtherWords, KeepsAllElse, wordless}
use Rattle.mailbox_laws.proofs.Bare.{AreAlike, alike_by, aliases_same, bare, count_same, find_mark_kept, ids_same, kept, nodes_same, shown_kept, trees_kept}

-- ---- other words

bare_wordless : (e : PlainEvent) → bare (wordless e) ≡ bare e
bare_wordless (Blob id mark bytes) = refl
bare_wordless (Commit id mark branch author committer encoding comment parents ops aliases) = refl
bare_wordless (Tag id name target tagger comment mark) = refl
bare_wordless (Reset id branch target) = refl
bare_wordless (Pass id line) = refl

pub words_alike : (old new : List PlainEvent) → HaveOtherWords old new → AreAlike old new
words_alike old new same = alike_by wordless bare_wordless old new same

-- ---- references

refs_same : (t : TreeOf ℕ) (es : List PlainEvent) → refs_after t (map wordless es) ≡ refs_after t es
refs_same t [] = refl
refs_same t (Commit id mark branch author committer encoding comment parents ops aliases ∷ es) = refs_same (put branch id t) es
refs_same t (Blob id mark bytes ∷ es) = refs_same t es
refs_same t (Tag id name target tagger comment mark ∷ es) = refs_same t es
refs_same t (Reset id branch (Some c) ∷ es) = refs_same (put branch c t) es
refs_same t (Reset id branch None ∷ es) = refs_same (where_path (λ b. not (bytes_eq branch b)) t) es
refs_same t (Pass id line ∷ es) = refs_same t es

-- people, dates and comments alone are others
pub all_else : (old new : List PlainEvent) → HaveOtherWords old new → KeepsAllElse old new
all_else old new words =
    let same = words_alike old new words in
    record {
      count = kept length count_same old new same;
      ids = kept (map id_of) ids_same old new same;
      marks = find_mark_kept old new same;
      aliases = kept alias_count aliases_same old new same;
      commits = kept nodes nodes_same old new same;
      refs = sym (refs_same [] new) ∙ ap refs words ∙ refs_same [] old;
      trees = trees_kept old new same;
      shown = shown_kept old new same;
    }
