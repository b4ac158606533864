use Rattle.std.proofs.Common.{◌≡◌, ◌<◌, length, sym, ap, subst, ◌∙◌, Some, None, true, arith}
use Rattle.plain_model.specs.Paths.{Bytes}
use Rattle.plain_model.specs.Trees.{at}
use Rattle.path_tree.specs.declared.folder.Node.{Node}
use Rattle.path_tree.specs.Folders.{key_of, is_folder_key}
use Rattle.path_tree.specs.Folders.Member.{file, folder}
use Rattle.path_tree.specs.Inside.{all_rows, member_of}
use Rattle.path_tree.specs.Falls.{key_long}
use Rattle.path_tree.proofs.Looking.{looked, fits_at, rest_shorter, at_file_end, at_file_more}
use Rattle.path_tree.proofs.folder.Folder.+get.Goals as goal

pub get-requires : goal.get-requires
get-requires t c =
    let rows = all_rows c.self.inside.children in
    let path = c.args.path.now in
    let is_key = c.split_at.ensures.front ∙ c.key_len-len.ensures.key in
    let is_rest = c.split_at.ensures.back ∙ c.key_len-len.ensures.rest in
    let found : Some (folder c.in-Some-Subfolder.below.value) ≡ at rows c.split_at.result.0.now =
    (ap (λ (n : Node). Some (member_of n)) (sym c.in-Some-Subfolder.field-0-is) ∙ c.in-Some-Subfolder.ensures) in
    let fit = fits_at (c.split_at.result.0.now) (folder c.in-Some-Subfolder.below.value) rows c.self.invariant.rows.all_fit (sym found) in
    let long : 0 < length (key_of path) = key_long (key_of path) (subst (λ (k : Bytes). is_folder_key k ≡ true) is_key fit.0) in
    let less : length c.split_at.result.1.now < length path = rw is_rest (rest_shorter path long) in
    (omega (arith, less, c.decreases), tt)

pub returns-in-None : goal.returns-in-None
returns-in-None t c =
    let rows = all_rows c.self.inside.children in
    let path = c.args.path.now in
    let is_key = c.split_at.ensures.front ∙ c.key_len-len.ensures.key in
    let is_rest = c.split_at.ensures.back ∙ c.key_len-len.ensures.rest in
    looked c.args.self.now rows path c.split_at.result.0.now c.split_at.result.1.now (None) c.self.view_is c.self.invariant.rows is_key is_rest
    c.in-None.ensures

pub returns-then-is_empty : goal.returns-then-is_empty
returns-then-is_empty t c =
    let rows = all_rows c.self.inside.children in
    let path = c.args.path.now in
    let is_key = c.split_at.ensures.front ∙ c.key_len-len.ensures.key in
    let is_rest = c.split_at.ensures.back ∙ c.key_len-len.ensures.rest in
    let found : Some (file c.in-Some-File.entry) ≡ at rows c.split_at.result.0.now =
    (ap (λ (n : Node). Some (member_of n)) (sym c.in-Some-File.field-0-is) ∙ c.in-Some-File.ensures) in
    at_file_end c.split_at.result.1.now c.in-Some-File.entry c.if-is_empty.ensures
    ∙ looked c.args.self.now rows path c.split_at.result.0.now c.split_at.result.1.now
    (Some (file c.in-Some-File.entry)) c.self.view_is c.self.invariant.rows is_key is_rest found

pub returns-else-is_empty : goal.returns-else-is_empty
returns-else-is_empty t c =
    let rows = all_rows c.self.inside.children in
    let path = c.args.path.now in
    let is_key = c.split_at.ensures.front ∙ c.key_len-len.ensures.key in
    let is_rest = c.split_at.ensures.back ∙ c.key_len-len.ensures.rest in
    let found : Some (file c.in-Some-File.entry) ≡ at rows c.split_at.result.0.now =
    (ap (λ (n : Node). Some (member_of n)) (sym c.in-Some-File.field-0-is) ∙ c.in-Some-File.ensures) in
    at_file_more c.split_at.result.1.now c.in-Some-File.entry c.if-is_empty.ensures
    ∙ looked c.args.self.now rows path c.split_at.result.0.now c.split_at.result.1.now
    (Some (file c.in-Some-File.entry)) c.self.view_is c.self.invariant.rows is_key is_rest found

pub returns-in-Some-Subfolder : goal.returns-in-Some-Subfolder
returns-in-Some-Subfolder t c =
    let rows = all_rows c.self.inside.children in
    let path = c.args.path.now in
    let is_key = c.split_at.ensures.front ∙ c.key_len-len.ensures.key in
    let is_rest = c.split_at.ensures.back ∙ c.key_len-len.ensures.rest in
    let found : Some (folder c.in-Some-Subfolder.below.value) ≡ at rows c.split_at.result.0.now =
    (ap (λ (n : Node). Some (member_of n)) (sym c.in-Some-Subfolder.field-0-is) ∙ c.in-Some-Subfolder.ensures) in
    rw (c.get.ensures, c.deref.ensures)
    (looked c.args.self.now rows path c.split_at.result.0.now c.split_at.result.1.now
    (Some (folder c.in-Some-Subfolder.below.value)) c.self.view_is c.self.invariant.rows is_key is_rest found)
