use Rattle.std.proofs.Common.{◌∙◌, ap, sym}
use Rattle.std.specs.List.{list_any}
use Rattle.std.specs.Prelude.{bytes_eq}
use Rattle.graft_unite.proofs.NameLemmas.{any_mapped}
use Rattle.graft_unite.proofs.used.Names.has.Goals as goal

pub returns : goal.returns
returns c =
    c.contains.ensures
    ∙ sym (any_mapped (λ key. key.items) (bytes_eq c.args.name.now) c.self.inside.set.keys)
    ∙ ap (list_any (bytes_eq c.args.name.now)) c.self.view_is
