use Rattle.std.proofs.Common.{rules, of_calls}
use Rattle.std.proofs.lemmas.Fn.{always_returns_same}
use Rattle.path_tree.proofs.Searching.{against, found_by, absent_by}
use Rattle.path_tree.proofs.folder.block.search.Goals as goal

pub returns-clause-found : goal.returns-clause-found
returns-clause-found c =
    found_by c.args.key.now c.args.children.now c.binary_search_by.result c.binary_search_by.ensures.bound
    (c.binary_search_by.ensures.position (against c.args.key.now) (always_returns_same _ _ _ (λ a r f k. search (rules, of_calls))))

pub returns-clause-absent : goal.returns-clause-absent
returns-clause-absent c =
    absent_by c.args.key.now c.args.children.now c.binary_search_by.result c.requires c.binary_search_by.ensures.bound
    (c.binary_search_by.ensures.position (against c.args.key.now) (always_returns_same _ _ _ (λ a r f k. search (rules, of_calls))))
