use Rattle.std.proofs.Common.{◌∙◌, List, ℕ, Some, ap, sym}
use Rattle.std.specs.Prelude.{option_map}
use Rattle.graft_unite.specs.Dates.{last_of, latest_in}
use Rattle.graft_unite.proofs.DateLemmas.{entries_before, last_behind}
use Rattle.graft_unite.proofs.dates.Dates.latest.Goals as goal

pub returns : goal.returns
returns c =
    let entries = c.self.inside.by_second.entries in
    ap Some c.new.ensures
    ∙ sym (ap (λ (es : List (ℕ × ℕ)). option_map (λ e. e.1) (latest_in es c.args.seconds)) (sym c.self.view_is)
    ∙ ap (λ (es : List (ℕ × ℕ)). option_map (λ e. e.1) (last_of es)) (sym (entries_before entries c.args.seconds) ∙ sym (c.range.ensures.between tt) ∙ c.in_ok-number.ensures.steps)
    ∙ ap (option_map (λ (e : ℕ × ℕ). e.1)) (last_behind c.next_back.new.self (c.in_ok-number.field-0-0.now, c.in_ok-number.number.now)))
