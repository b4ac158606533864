use Rattle.std.proofs.Common.{ℕ, List, ◌++◌, sym, ap, ◌∙◌, append_assoc, add-one}
use Rattle.history_machine.specs.Sessions.{repo_line}
use Rattle.surgeon_session.proofs.Sessions.{line_next}
use Rattle.surgeon_session.proofs.session.Session.load_list_text.Goals as goal

pub loop-place-preserved : goal.loop-place-preserved
loop-place-preserved c =
    let list = c.self.inside.list in
    let next = line_next list.choice list.repos c.loop-place.place c.name.result.now c.name.ensures in
    rw (c.in_ok-push_repository.ensures, c.choice.ensures, ← c.self.view_is, add-one) (
    append_assoc c.loop-place.text (repo_line list.choice c.name.result.now) _
    ∙ ap (λ (l : List ℕ). c.loop-place.text ++ l) (sym next)
    ∙ rw (← c.self.view_is) at c.loop-place.invariant)
