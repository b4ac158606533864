-- Lists of files as maps.
use Rattle.std.proofs.Common.{◌≡◌, ℕ, List, ◌++◌, length, take, Bool, true, false, cond, Option, Some, None, refl, sym, ap, subst, arith, ◌∙◌}
use Rattle.std.proofs.lemmas.List.{take_all}
use Rattle.std.specs.Prelude.{[], ◌∷◌, map, nat_eq, unwrap_or}
use Rattle.std.specs.FinMap.{get, insert, same_map, get-insert, nat_cmp-IsAntisymmetric, slice_cmp-IsAntisymmetric}
use Rattle.std.specs.Ordering.{eq_by_cmp}
use Rattle.std.proofs.lemmas.Cmp.{eq_by_cmp_equiv}
use Rattle.std.specs.Cmp.Lexicographic.{nat_list_cmp_total}
use Rattle.std.specs.FinMap.{find, get-from_entries}
use Rattle.std.specs.Cmp.Lexicographic.{pointwise, texts_ties}
use Rattle.surgeon_store.specs.declared.entry.FileEntry.{FileEntry}
use Rattle.plain_model.specs.Files.{Files, name_cmp}
use Rattle.std.specs.Prelude.{IfSome}
use Rattle.surgeon_store.specs.Entries.{bytes_in, appended, files_of, grown, lookup}
use Rattle.surgeon_store.specs.Memory.{begun_name}

find_file : (es : List FileEntry) (q : List ℕ) → find name_cmp q (map (λ e. (e.name, e.bytes)) es) ≡ lookup q es
find_file [] q = refl
find_file (e ∷ es) q =
    ap (λ b. cond b (Some e.bytes) (find name_cmp q (map (λ (f : FileEntry). (f.name, f.bytes)) es))) (sym (texts_ties q e.name))
    ∙ ap (cond (pointwise nat_eq q e.name) (Some e.bytes)) (find_file es q)

-- a file's bytes are those of the first entry with its name
pub get_file : (es : List FileEntry) (q : List ℕ) → get (files_of es) q ≡ lookup q es
get_file es q = get-from_entries nat_list_cmp_total (map (λ e. (e.name, e.bytes)) es) q ∙ find_file es q

-- the entry is looked for in one list, and then in the other
abbrev pub or_else : Option (List ℕ) → Option (List ℕ) → Option (List ℕ)
or_else (Some bytes) other = Some bytes
or_else None other = other

or_else_cond : (b : Bool) (bytes : List ℕ) (one other : Option (List ℕ)) → cond b (Some bytes) (or_else one other) ≡ or_else (cond b (Some bytes) one) other
or_else_cond true bytes one other = refl
or_else_cond false bytes one other = refl

pub lookup_append : (es fs : List FileEntry) (q : List ℕ) → lookup q (es ++ fs) ≡ or_else (lookup q es) (lookup q fs)
lookup_append [] fs q = refl
lookup_append (e ∷ es) fs q =
    ap (cond (pointwise nat_eq q e.name) (Some e.bytes)) (lookup_append es fs q)
    ∙ or_else_cond (pointwise nat_eq q e.name) e.bytes (lookup q es) (lookup q fs)

-- the bytes of a file are put in twice
insert_insert : (files : Files) (name v w : List ℕ) → insert (insert files name v) name w ≡ insert files name w
insert_insert files name v w =
    same_map nat_list_cmp_total (slice_cmp-IsAntisymmetric nat_cmp-IsAntisymmetric) _ _ (λ q.
    get-insert nat_list_cmp_total (insert files name v) name w q
    ∙ ap (cond (eq_by_cmp name_cmp q name) (Some w)) (get-insert nat_list_cmp_total files name v q)
    ∙ once (eq_by_cmp name_cmp q name) (get files q)
    ∙ sym (get-insert nat_list_cmp_total files name w q))
  where
    once : (b : Bool) (o : Option (List ℕ)) → cond b (Some w) (cond b (Some v) o) ≡ cond b (Some w) o
    once true o = refl
    once false o = refl

-- the file that was put in last has more bytes
pub appended_insert : (files : Files) (name v bytes : List ℕ) → appended (insert files name v) name bytes ≡ insert files name (v ++ bytes)
appended_insert files name v bytes =
    insert_insert files name v (bytes_in (insert files name v) name ++ bytes)
    ∙ ap (λ (o : Option (List ℕ)). insert files name (unwrap_or o [] ++ bytes)) held
  where
    held : get (insert files name v) name ≡ Some v
    held = get-insert nat_list_cmp_total files name v name
        ∙ ap (λ b. cond b (Some v) (get files name)) ((eq_by_cmp_equiv nat_list_cmp_total).refl name)

files_grown : (is_begun : Bool) (made given : List FileEntry) (bytes : List ℕ)
    → IfSome (begun_name is_begun made) (λ name. Some (files_of (grown bytes made ++ given)) ≡ Some (appended (files_of (made ++ given)) name bytes))
files_grown is_begun [] given bytes = tt
files_grown true (e ∷ es) given bytes = ap (λ (files : Files). Some files) (sym (appended_insert (files_of (es ++ given)) e.name e.bytes bytes))
files_grown false (e ∷ es) given bytes = tt

-- the file that is written has all bytes of a piece more
pub files_grown_whole : (is_begun : Bool) (made given : List FileEntry) (bytes : List ℕ)
    → IfSome (begun_name is_begun made) (λ name. Some (files_of (grown bytes made ++ given)) ≡ Some (appended (files_of (made ++ given)) name (take (length bytes) bytes)))
files_grown_whole is_begun made given bytes =
    subst (λ (part : List ℕ). IfSome (begun_name is_begun made) (λ name. Some (files_of (grown bytes made ++ given)) ≡ Some (appended (files_of (made ++ given)) name part)))
    (sym (take_all (length bytes) bytes (omega arith))) (files_grown is_begun made given bytes)

pub begun_grown : (is_begun : Bool) (made : List FileEntry) (bytes : List ℕ) → begun_name is_begun (grown bytes made) ≡ begun_name is_begun made
begun_grown is_begun [] bytes = refl
begun_grown is_begun (e ∷ es) bytes = refl
