use Rattle.std.proofs.Common.{Vec, Global, Some, ap, ◌∙◌}
use Rattle.std.specs.Prelude.{option_map}
use Rattle.plain_model.specs.declared.id.AnyId.{AnyId}
use Rattle.selection_eval.proofs.NameSteps.{found}
use Rattle.selection_eval.proofs.names.Names.get.Goals as goal

pub returns-in-Some : goal.returns-in-Some
returns-in-Some c =
    rw (← c.self.view_is)
    (ap Some c.as_slice.ensures.value
    ∙ ap (option_map (λ (l : Vec AnyId Global). l.items)) c.in-Some.ensures.value
    ∙ found c.args.name.now c.self.inside.by_name.entries)

pub returns-in-None : goal.returns-in-None
returns-in-None c =
    rw (← c.self.view_is)
    (ap (option_map (λ (l : Vec AnyId Global). l.items)) c.in-None.ensures.value
    ∙ found c.args.name.now c.self.inside.by_name.entries)
