use Rattle.std.proofs.Common.{◌≡◌, ◌∙◌, ◌++◌, option_to_list, sym}
use Rattle.event_arena.proofs.KeptMarkLemmas.{same_mark_lists, same_mark_options}
use Rattle.event_arena.proofs.kept_marks.has_same_marks.Goals as goal

pub returns-then-eq : goal.returns-then-eq
returns-then-eq c same =
    let mark : c.marks-mark.result.0 ≡ c.marks-other.result.0 = same_mark_options _ _ (sym c.eq.ensures ∙ c.if-eq.true) in
    let aliases : c.marks-mark.result.1.now ≡ c.marks-other.result.1.now = same_mark_lists _ _ (sym c.eq-then-eq.ensures ∙ same) in
    c.marks-other.ensures ∙ (λ i. option_to_list (sym mark i) ++ sym aliases i) ∙ sym c.marks-mark.ensures
