use Rattle.std.proofs.Common.{◌+◌, ◌++◌, arith, sym, ap, subst, ◌∙◌, List, None}
use Rattle.std.proofs.lemmas.List.{take-set, drop-set-lt}
use Rattle.std.proofs.lemmas.Result.{MatchResult-from_err}
use Rattle.plain_model.specs.Trees.{TreeOf}
use Rattle.path_tree.specs.Folders.{Member, AreSound}
use Rattle.path_tree.specs.Inside.{all_rows, rows_of, blocks_of, AreFilled}
use Rattle.path_tree.specs.Rows.{IsExchange}
use Rattle.path_tree.proofs.Blocks.{sound_first, sound_at, filled_same, filled_take, filled_drop, same_block, exchange_first, exchange_at, rows_at, Block}
use Rattle.path_tree.proofs.folder.blocks.remove.Goals as goal

pub remove_child-requires : goal.remove_child-requires
remove_child-requires c = sound_first c.args.key.now c.args.children.now c.requires.sound

pub remove_in-requires : goal.remove_in-requires
remove_in-requires c =
    subst (λ (b : Block). AreSound (rows_at b)) (sym c.index_mut.ensures.value)
    (sound_at c.args.key.now c.args.children.now c.in-Some.index c.index_mut.result.now c.in-Some.ensures.within c.requires.sound)

pub returns-in_err-change-in-Some-clause-filled : goal.returns-in_err-change-in-Some-clause-filled
returns-in_err-change-in-Some-clause-filled c =
    filled_same c.args.children.now.rest.items c.in-Some.index c.index_mut.result.now c.remove_in.new.block c.in-Some.ensures.within c.requires.filled
    (c.in_err-change-in-Some.ensures.unchanged ∙ ap rows_at c.index_mut.ensures.value)

pub returns-in_err-change-in-Some-clause-unchanged :
    goal.returns-in_err-change-in-Some-clause-unchanged
returns-in_err-change-in-Some-clause-unchanged c =
    MatchResult-from_err c.from_residual.result _ _ c.from_residual.ensures.0
    (λ _. same_block c.args.key.now c.args.children.now c.in-Some.index c.index_mut.result.now c.remove_in.new.block c.in-Some.ensures.within
    (c.in_err-change-in-Some.ensures.unchanged ∙ ap rows_at c.index_mut.ensures.value))

pub drop_empty-requires-clause-filled : goal.drop_empty-requires-clause-filled
drop_empty-requires-clause-filled c =
    let bs = c.args.children.now.rest.items in
    let i = c.in-Some.index in
    subst (λ (l : List Block). AreFilled (blocks_of l)) (sym (take-set bs i c.remove_in.new.block)) (filled_take bs i c.requires.filled)

pub drop_empty-requires-clause-filled_after : goal.drop_empty-requires-clause-filled_after
drop_empty-requires-clause-filled_after c =
    let bs = c.args.children.now.rest.items in
    let i = c.in-Some.index in
    subst (λ (l : List Block). AreFilled (blocks_of l)) (sym (drop-set-lt (i + 1) bs i c.remove_in.new.block (omega arith))) (filled_drop bs (i + 1) c.requires.filled)

pub returns-in-None-clause-exchanged : goal.returns-in-None-clause-exchanged
returns-in-None-clause-exchanged c =
    exchange_first c.args.key.now c.args.children.now None c.remove_child.result c.remove_child.new.children.items c.in-None.ensures c.remove_child.ensures

pub returns-in_ok-change-in-Some-clause-exchanged :
    goal.returns-in_ok-change-in-Some-clause-exchanged
returns-in_ok-change-in-Some-clause-exchanged c =
    let key = c.args.key.now in
    let cs = c.args.children.now in
    let change = c.in_ok-change-in-Some.change in
    subst (λ (l : TreeOf Member). IsExchange key None change (all_rows cs) (rows_of cs.first.items ++ l)) (sym c.drop_empty.ensures.rows)
    (exchange_at key cs None change c.in-Some.index c.index_mut.result.now c.remove_in.new.block c.in-Some.ensures
    (subst (λ (b : Block). IsExchange key None change (rows_at b) (rows_at c.remove_in.new.block)) c.index_mut.ensures.value c.in_ok-change-in-Some.ensures.exchanged))
