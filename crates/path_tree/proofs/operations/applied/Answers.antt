use Rattle.std.proofs.Common.{sym, subst}
use Rattle.std.proofs.lemmas.Result.{on_ok_weaker}
use Rattle.plain_model.specs.Paths.{Bytes, IsPath}
use Rattle.plain_model.specs.Trees.Change.{Put, Remove, CopyTo, MoveTo}
use Rattle.history_laws.proofs.KeptPaths.{change_paths}
use Rattle.path_tree.proofs.PathEnds.{no_slash_at_end}
use Rattle.path_tree.proofs.operations.applied.Goals as goal

pub modify-requires-clause-is_file : goal.modify-requires-clause-is_file
modify-requires-clause-is_file c =
    no_slash_at_end c.as_bytes.result.now (subst (λ (x : Bytes). IsPath x) (sym c.as_bytes.ensures.value) c.as_bytes.ensures.form)

pub delete-requires-clause-is_file : goal.delete-requires-clause-is_file
delete-requires-clause-is_file c =
    no_slash_at_end c.as_bytes-in-Delete.result.now (subst (λ (x : Bytes). IsPath x) (sym c.as_bytes-in-Delete.ensures.value) c.as_bytes-in-Delete.ensures.form)

pub move_to-requires-clause-source_is_file : goal.move_to-requires-clause-source_is_file
move_to-requires-clause-source_is_file c =
    no_slash_at_end c.as_bytes-in-Copy.result.now (subst (λ (x : Bytes). IsPath x) (sym c.as_bytes-in-Copy.ensures.value) c.as_bytes-in-Copy.ensures.form)

pub move_to-requires-clause-is_file : goal.move_to-requires-clause-is_file
move_to-requires-clause-is_file c =
    no_slash_at_end c.as_bytes-in-Copy-2.result.now (subst (λ (x : Bytes). IsPath x) (sym c.as_bytes-in-Copy-2.ensures.value) c.as_bytes-in-Copy-2.ensures.form)

pub move_to-requires-in-Rename-clause-source_is_file : goal.move_to-requires-in-Rename-clause-source_is_file
move_to-requires-in-Rename-clause-source_is_file c =
    no_slash_at_end c.as_bytes-in-Rename.result.now (subst (λ (x : Bytes). IsPath x) (sym c.as_bytes-in-Rename.ensures.value) c.as_bytes-in-Rename.ensures.form)

pub move_to-requires-in-Rename-clause-is_file : goal.move_to-requires-in-Rename-clause-is_file
move_to-requires-in-Rename-clause-is_file c =
    no_slash_at_end c.as_bytes-in-Rename-2.result.now
    (subst (λ (x : Bytes). IsPath x) (sym c.as_bytes-in-Rename-2.ensures.value) c.as_bytes-in-Rename-2.ensures.form)

pub returns-in-Modify-clause-paths : goal.returns-in-Modify-clause-paths
returns-in-Modify-clause-paths c =
    on_ok_weaker c.modify.result
    (λ done. change_paths
    (Put (record { mode = c.in-Modify.mode; content = c.in-Modify.content }) c.as_bytes.result.now) c.args.root.now.value c.modify.new.root.value
    (subst (λ (x : Bytes). IsPath x) (sym c.as_bytes.ensures.value) c.as_bytes.ensures.form) done)
    c.modify.ensures.done

pub returns-in-Delete-clause-paths : goal.returns-in-Delete-clause-paths
returns-in-Delete-clause-paths c =
    on_ok_weaker c.delete.result
    (λ done. change_paths (Remove c.as_bytes-in-Delete.result.now) c.args.root.now.value c.delete.new.root.value tt done)
    c.delete.ensures.done

pub returns-in-Copy-clause-paths : goal.returns-in-Copy-clause-paths
returns-in-Copy-clause-paths c =
    on_ok_weaker c.move_to.result
    (λ done. change_paths (CopyTo c.as_bytes-in-Copy.result.now c.as_bytes-in-Copy-2.result.now) c.args.root.now.value c.move_to.new.root.value
    (subst (λ (x : Bytes). IsPath x) (sym c.as_bytes-in-Copy-2.ensures.value) c.as_bytes-in-Copy-2.ensures.form) done)
    c.move_to.ensures.done

pub returns-in-Rename-clause-paths : goal.returns-in-Rename-clause-paths
returns-in-Rename-clause-paths c =
    on_ok_weaker c.move_to-in-Rename.result
    (λ done. change_paths
    (MoveTo c.as_bytes-in-Rename.result.now c.as_bytes-in-Rename-2.result.now) c.args.root.now.value c.move_to-in-Rename.new.root.value
    (subst (λ (x : Bytes). IsPath x) (sym c.as_bytes-in-Rename-2.ensures.value) c.as_bytes-in-Rename-2.ensures.form) done)
    c.move_to-in-Rename.ensures.done
