use Rattle.std.proofs.Common.{◌∙◌, ◌++◌, List, filter, not, ap, append_assoc}
use Rattle.std.proofs.lemmas.Result.{on_ok_weaker}
use Rattle.plain_model.specs.declared.operation.FileOp.{FileOp}
use Rattle.plain_model.specs.Trees.{Tree, at, subtree}
use Rattle.expunge_laws.specs.Replaced.{deletes_of, has_entry, restricted}
use Rattle.expunge_laws.specs.Matching.{Matches, matched_by}
use Rattle.path_expunge.specs.Written.{gone_of}
use Rattle.path_expunge.proofs.WrittenLemmas.{written}
use Rattle.path_expunge.proofs.rewriting.push_rewritten.Goals as goal
use Rattle.edit_laws.specs.Puts.{puts_of}

pub returns-clause-made : goal.returns-clause-made
returns-clause-made c =
    let m = matched_by c.args.matching.now in
    let old = c.args.old.now in
    let new = c.args.new.now in
    let target = c.args.target.now in
    let come : List Matches → Tree → List FileOp = λ ms es. puts_of (filter (λ e. not (has_entry (at old e.0) e.1)) (restricted (matched_by ms) es)) in
    on_ok_weaker c.push_new_entries.result (λ is.
    is
    ∙ ap (λ (es : Tree). c.push_deletes.new.made ++ come c.push_deletes.new.matching es) (c.as_slice-2.ensures ∙ c.in_ok-is.ensures)
    ∙ ap (λ (ms : List Matches). c.push_deletes.new.made ++ come ms (subtree target new)) c.push_deletes.ensures.same
    ∙ ap (λ (ops : List FileOp). ops ++ come c.args.matching.now (subtree target new))
    (c.in_ok-push_deletes.ensures.made ∙ ap (λ (es : Tree). c.args.made.now ++ deletes_of (gone_of m new es)) c.as_slice.ensures ∙ ap (λ (es : Tree). c.args.made.now ++ deletes_of es) (c.in_ok-was.ensures m))
    ∙ append_assoc c.args.made.now (deletes_of (gone_of m new old)) (come c.args.matching.now (subtree target new))
    ∙ ap (λ (ops : List FileOp). c.args.made.now ++ ops) (written c.args.source.now target old new c.requires.tree m c.args.copied c.requires.applied)) c.push_new_entries.ensures.made
