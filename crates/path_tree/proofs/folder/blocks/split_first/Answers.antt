use Rattle.std.proofs.Common.{◌≡◌, drop, ap, ◌∙◌, List, arith}
use Rattle.path_tree.specs.declared.folder.Child.{Child}
use Rattle.path_tree.specs.Inside.{rows_of}
use Rattle.path_tree.proofs.Blocks.{split_first_rows, split_first_filled, long_rows, rows_at}
use Rattle.path_tree.proofs.folder.blocks.split_first.Goals as goal

pub returns-clause-rows : goal.returns-clause-rows
returns-clause-rows c =
    let cs = c.args.children.now in
    let back : rows_at c.in_ok-new.field-0 ≡ rows_of (drop 16 cs.first.items) =
    ap (λ (v : _). rows_of v.items) c.in_ok-new.ensures.ok ∙ c.in_ok-last.ensures ∙ ap rows_of c.split_at.ensures.back ∙ ap (λ (l : List Child). rows_of (drop 16 l)) c.as_slice.ensures.value in
    split_first_rows cs.first.items c.truncate.new.self.items cs.rest.items c.insert.new.self.items 16 c.in_ok-new.field-0 c.truncate.ensures.items c.in_ok-insert.ensures.items back

pub returns-clause-filled : goal.returns-clause-filled
returns-clause-filled c =
    let cs = c.args.children.now in
    let back : rows_at c.in_ok-new.field-0 ≡ rows_of (drop 16 cs.first.items) =
    ap (λ (v : _). rows_of v.items) c.in_ok-new.ensures.ok ∙ c.in_ok-last.ensures ∙ ap rows_of c.split_at.ensures.back ∙ ap (λ (l : List Child). rows_of (drop 16 l)) c.as_slice.ensures.value in
    split_first_filled cs.rest.items c.insert.new.self.items c.in_ok-new.field-0 c.in_ok-insert.ensures.items
    (long_rows cs.first.items 16 (rows_at c.in_ok-new.field-0) (omega (arith, c.len.ensures)) back) c.requires
