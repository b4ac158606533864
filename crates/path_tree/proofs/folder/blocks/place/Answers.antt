use Rattle.std.proofs.Common.{rules, of_calls, ◌≡◌, List, true, false, subst, sym, arith}
use Rattle.std.specs.List.Sorted.{IsPartitionPoint}
use Rattle.std.proofs.lemmas.List.Sorted.{IsPartitionPoint-from_clause}
use Rattle.path_tree.specs.Inside.{rows_of}
use Rattle.path_tree.specs.Rows.{begins_by}
use Rattle.path_tree.specs.Inside.{rows_in, blocks_of, AreFilled}
use Rattle.path_tree.specs.PathMaps.{IsInOrder}
use Rattle.path_tree.proofs.Blocks.{blocks_parted, first_place, later_place, order_second, rows_at, Block}
use Rattle.path_tree.proofs.folder.blocks.place.Goals as goal

pub returns-then-count-eq0 : goal.returns-then-count-eq0
returns-then-count-eq0 c =
    let key = c.args.key.now in
    let cs = c.args.children.now in
    let slice_is = c.as_slice-rest.ensures.value in
    let parted = blocks_parted key c.as_slice-rest.result.now
    (subst (λ (l : List Block). IsInOrder (rows_in l)) (sym slice_is) (order_second (rows_of cs.first.items) (rows_in cs.rest.items) c.requires.order))
    (subst (λ (l : List Block). AreFilled (blocks_of l)) (sym slice_is) c.requires.filled) in
    let point = IsPartitionPoint-from_clause (λ (b : Block). begins_by key (rows_at b)) _ _ c.partition_point-count.ensures.partitioned parted (λ a r q k. search (rules, of_calls)) in
    let here : IsPartitionPoint (λ (b : Block). begins_by key (rows_at b) ≡ true) (λ (b : Block). begins_by key (rows_at b) ≡ false) cs.rest.items c.partition_point-count.result =
    subst (λ (l : List Block). IsPartitionPoint (λ (b : Block). begins_by key (rows_at b) ≡ true) (λ (b : Block). begins_by key (rows_at b) ≡ false) l c.partition_point-count.result) slice_is point in
    first_place key cs c.requires.order c.requires.filled
    (subst (λ n. IsPartitionPoint (λ (b : Block). begins_by key (rows_at b) ≡ true) (λ (b : Block). begins_by key (rows_at b) ≡ false) cs.rest.items n) (omega arith) here)

pub returns-else-count-eq0 : goal.returns-else-count-eq0
returns-else-count-eq0 c =
    let key = c.args.key.now in
    let cs = c.args.children.now in
    let slice_is = c.as_slice-rest.ensures.value in
    let parted = blocks_parted key c.as_slice-rest.result.now
    (subst (λ (l : List Block). IsInOrder (rows_in l)) (sym slice_is) (order_second (rows_of cs.first.items) (rows_in cs.rest.items) c.requires.order))
    (subst (λ (l : List Block). AreFilled (blocks_of l)) (sym slice_is) c.requires.filled) in
    let point = IsPartitionPoint-from_clause (λ (b : Block). begins_by key (rows_at b)) _ _ c.partition_point-count.ensures.partitioned parted (λ a r q k. search (rules, of_calls)) in
    let here : IsPartitionPoint (λ (b : Block). begins_by key (rows_at b) ≡ true) (λ (b : Block). begins_by key (rows_at b) ≡ false) cs.rest.items c.partition_point-count.result =
    subst (λ (l : List Block). IsPartitionPoint (λ (b : Block). begins_by key (rows_at b) ≡ true) (λ (b : Block). begins_by key (rows_at b) ≡ false) l c.partition_point-count.result) slice_is point in
    later_place key cs _ c.partition_point-count.result (omega arith) (search rules) c.requires.order c.requires.filled here
