use Rattle.std.proofs.Common.{◌∷◌, true, sym, subst}
use Rattle.std.proofs.lemmas.Result.{on_ok_weaker}
use Rattle.plain_model.specs.declared.operation.FileOp.{FileOp}
use Rattle.coalesce_simplify.specs.Voiding.{Known, Knows}
use Rattle.coalesce_simplify.proofs.Noting.{noted_anew, noted_deletion, noted_put}
use Rattle.coalesce_simplify.proofs.voiding.Later.note.Goals as goal

pub returns-in-Modify : goal.returns-in-Modify
returns-in-Modify c =
    let old : Known = record { anew = c.self.inside.anew; put = c.self.inside.put; deleted = c.self.inside.deleted } in
    let new : Known = record { anew = c.self.inside.anew; put = c.add.new.self; deleted = c.self.inside.deleted } in
    on_ok_weaker c.add.result (λ adds later k.
    subst (λ (op : FileOp). Knows (op ∷ later) new) (sym c.in-Modify.is)
    (noted_put later old c.in-Modify.mode c.in-Modify.content c.in-Modify.path c.add.new.self (subst (Knows later) (sym c.self.view_is) k) adds)) (rw c.as_bytes.ensures.value at c.add.ensures)

pub returns-in-Delete : goal.returns-in-Delete
returns-in-Delete c =
    let inside = c.self-in-Delete.inside in
    let old : Known = record { anew = inside.anew; put = inside.put; deleted = inside.deleted } in
    let new : Known = record { anew = inside.anew; put = inside.put; deleted = c.add-in-Delete.new.self } in
    on_ok_weaker c.add-in-Delete.result (λ adds later k.
    subst (λ (op : FileOp). Knows (op ∷ later) new) (sym c.in-Delete.is)
    (noted_deletion later old c.in-Delete.path c.add-in-Delete.new.self (subst (Knows later) (sym c.self-in-Delete.view_is) k) adds)) (rw c.as_bytes-in-Delete.ensures.value at c.add-in-Delete.ensures)

pub returns-in-DeleteAll : goal.returns-in-DeleteAll
returns-in-DeleteAll c later k =
    let inside = c.self-in-DeleteAll.inside in
    let old : Known = record { anew = inside.anew; put = inside.put; deleted = inside.deleted } in
    let new : Known = record { anew = true; put = inside.put; deleted = inside.deleted } in
    subst (λ (op : FileOp). Knows (op ∷ later) new) (sym c.in-DeleteAll.is)
    (noted_anew later old (subst (Knows later) (sym c.self-in-DeleteAll.view_is) k))
