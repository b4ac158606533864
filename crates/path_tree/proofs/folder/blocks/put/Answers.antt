use Rattle.std.proofs.Common.{◌<◌, ◌++◌, length, sym, ap, subst, ◌∙◌, Some}
use Rattle.std.specs.Prelude.{slice_set}
use Rattle.plain_model.specs.Trees.{TreeOf}
use Rattle.path_tree.specs.Folders.{Member, AreSound}
use Rattle.path_tree.specs.Inside.{rows_of, rows_in, member_of}
use Rattle.path_tree.specs.Rows.{IsExchange}
use Rattle.path_tree.proofs.Looking.{if_ok}
use Rattle.path_tree.proofs.Blocks.{sound_first, sound_at, filled_set, filled_at, filled_take, filled_drop, same_block, exchange_first, exchange_at, on_err, put_some, rows_at, Block}
use Rattle.path_tree.proofs.folder.blocks.put.Goals as goal

pub put_child-requires-clause-sound : goal.put_child-requires-clause-sound
put_child-requires-clause-sound c =
    sound_first c.args.key.now c.make_room.new.children (subst (λ (l : TreeOf Member). AreSound l) (sym c.make_room.ensures.rows) c.requires.sound)

pub put_in-requires-clause-sound : goal.put_in-requires-clause-sound
put_in-requires-clause-sound c =
    subst (λ (b : Block). AreSound (rows_at b)) (sym c.index_mut.ensures.value)
    (sound_at c.args.key.now c.make_room.new.children c.in-Some.index c.index_mut.result.now c.in-Some.ensures.within
    (subst (λ (l : TreeOf Member). AreSound l) (sym c.make_room.ensures.rows) c.requires.sound))

pub returns-in-None-clause-exchanged : goal.returns-in-None-clause-exchanged
returns-in-None-clause-exchanged c =
    let key = c.args.key.now in
    let cs = c.make_room.new.children in
    let new = Some (member_of c.args.node) in
    if_ok c.put_child.result c.put_child.ensures.exchanged
    (λ change x. subst (λ (l : TreeOf Member). IsExchange key new change l (rows_of c.put_child.new.children.items ++ rows_in cs.rest.items)) c.make_room.ensures.rows
    (exchange_first key cs new change c.put_child.new.children.items c.in-None.ensures x))

pub returns-in-Some-clause-exchanged : goal.returns-in-Some-clause-exchanged
returns-in-Some-clause-exchanged c =
    let key = c.args.key.now in
    let cs = c.make_room.new.children in
    let new = Some (member_of c.args.node) in
    let b = c.put_in.new.block in
    if_ok c.put_in.result c.put_in.ensures.exchanged
    (λ change x. subst (λ (l : TreeOf Member). IsExchange key new change l (rows_of cs.first.items ++ rows_in (slice_set cs.rest.items c.in-Some.index b))) c.make_room.ensures.rows
    (exchange_at key cs new change c.in-Some.index c.index_mut.result.now b c.in-Some.ensures
    (subst (λ (o : Block). IsExchange key new change (rows_at o) (rows_at b)) c.index_mut.ensures.value x)))

pub returns-in-Some-clause-filled : goal.returns-in-Some-clause-filled
returns-in-Some-clause-filled c =
    let bs = c.make_room.new.children.rest.items in
    let i = c.in-Some.index in
    let b = c.put_in.new.block in
    let was : 0 < length (rows_at c.index_mut.result.now) =
    subst (λ (o : Block). 0 < length (rows_at o)) (sym c.index_mut.ensures.value) (filled_at bs i c.index_mut.result.now c.in-Some.ensures.within c.make_room.ensures.filled) in
    filled_set bs i b
    (put_some c.args.key.now (member_of c.args.node) (rows_at c.index_mut.result.now) (rows_at b) c.put_in.result c.put_in.ensures.exchanged c.put_in.ensures.unchanged was)
    (filled_take bs i c.make_room.ensures.filled) (filled_drop bs _ c.make_room.ensures.filled)

pub returns-in-Some-clause-unchanged : goal.returns-in-Some-clause-unchanged
returns-in-Some-clause-unchanged c =
    on_err c.put_in.result c.put_in.ensures.unchanged
    (λ same. same_block c.args.key.now c.make_room.new.children c.in-Some.index c.index_mut.result.now c.put_in.new.block c.in-Some.ensures.within
    (same ∙ ap rows_at c.index_mut.ensures.value) ∙ c.make_room.ensures.rows)
