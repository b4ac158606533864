use Rattle.std.proofs.Common.{subst, Some}
use Rattle.plain_model.specs.Trees.{Tree}
use Rattle.path_tree.specs.Folders.{flat}
use Rattle.path_tree.specs.Inside.{all_rows, member_of}
use Rattle.path_tree.specs.Setting.{PutsUnder}
use Rattle.path_tree.proofs.Keys.{flat_in_order}
use Rattle.path_tree.proofs.Exchanges.{exchange_sound, exchange_puts}
use Rattle.path_tree.proofs.folder.Folder.put.Goals as goal

pub recounted-self-inside-requires : goal.recounted-self-inside-requires
recounted-self-inside-requires c = (exchange_sound c.in_ok-change.ensures.exchanged c.requires c.self.invariant.rows).all_fit

pub invariant_of-self-2 : goal.invariant_of-self-2
invariant_of-self-2 c =
    let new = Some (member_of c.args.node) in
    record {
      rows = exchange_sound c.in_ok-change.ensures.exchanged c.requires c.self.invariant.rows;
      filled = c.in_ok-change.ensures.filled;
      extent = c.recounted-self-inside.ensures c.args.key.now new (all_rows c.self.inside.children) c.self.invariant.extent c.in_ok-change.ensures.exchanged;
    }

pub returns-clause-done : goal.returns-clause-done
returns-clause-done c =
    subst (λ (t : Tree). PutsUnder c.args.key.now (Some (member_of c.args.node)) t (flat (all_rows c.put.new.children))) c.self.view_is
    (exchange_puts c.in_ok-change.ensures.exchanged c.requires c.self.invariant.rows)

pub returns-clause-order : goal.returns-clause-order
returns-clause-order c =
    flat_in_order (all_rows c.put.new.children) (exchange_sound c.in_ok-change.ensures.exchanged c.requires c.self.invariant.rows)
