use Rattle.std.proofs.Common.{ap}
use Rattle.std.specs.Prelude.{is_some}
use Rattle.manifest_cache.proofs.KeptTrees.{lookup_used}
use Rattle.manifest_cache.proofs.UsedTrees.{used_none_new, used_one_leaves, used_room}
use Rattle.manifest_cache.proofs.laws.a_used_tree_is_kept.Goals as goal

pub returns-clause-own : goal.returns-clause-own
returns-clause-own c = λ d t kept. ap is_some (lookup_used kept d t)

pub returns-clause-none_new : goal.returns-clause-none_new
returns-clause-none_new c = λ d t kept k. used_none_new d t kept k

pub returns-clause-one_leaves : goal.returns-clause-one_leaves
returns-clause-one_leaves c = λ d t kept few. used_one_leaves d t kept few

pub returns-clause-room : goal.returns-clause-room
returns-clause-room c = λ d t kept k room h. used_room d t kept k room h
