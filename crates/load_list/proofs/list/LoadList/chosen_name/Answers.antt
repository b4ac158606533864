use Rattle.std.proofs.Common.{◌≡◌, subst, sym, ◌∙◌}
use Rattle.std.proofs.lemmas.Result.{IfOk-weaker}
use Rattle.plain_model.specs.Paths.{Bytes}
use Rattle.graft_laws.specs.Joined.{AreNameBytes}
use Rattle.history_machine.specs.Sessions.{Repo}
use Rattle.load_list.specs.Lists.{IfFound}
use Rattle.load_list.proofs.NamedEntries.{named_at}
use Rattle.load_list.proofs.Places.{chosen_entry}
use Rattle.load_list.proofs.list.LoadList.chosen_name.Goals as goal

pub returns-clause-name : goal.returns-clause-name
returns-clause-name c =
    let entry = c.unwrap.result in
    rw (← c.self.view_is)
    (IfOk-weaker c.of.result (λ (text : Bytes). text ≡ c.as_slice.result.now) _ (λ text is.
    subst (IfFound (λ (repo : Repo). repo.name ≡ text))
    (sym (chosen_entry c.self.inside.by_name.entries c.self.inside.choice c.args.place (rw (← c.self.view_is) at c.requires) (entry.0.now, entry.1.now) (sym (rw c.unwrap.ensures at c.get_index.ensures.entry))))
    (sym (is ∙ c.as_slice.ensures.value))) c.of.ensures)

pub returns-clause-bytes : goal.returns-clause-bytes
returns-clause-bytes c =
    let entry = c.unwrap.result in
    IfOk-weaker c.of.result (λ (text : Bytes). text ≡ c.as_slice.result.now) AreNameBytes (λ text is.
    subst AreNameBytes (sym (is ∙ c.as_slice.ensures.value))
    (named_at c.self.inside.by_name.entries c.args.place (entry.0.now, entry.1.now) (sym (rw c.unwrap.ensures at c.get_index.ensures.entry)) c.self.invariant)) c.of.ensures
