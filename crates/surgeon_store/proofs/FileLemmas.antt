-- Files after a write.
use Rattle.std.proofs.Common.{◌≡◌, ℕ, List, ◌++◌, Bool, true, false, cond, Option, Some, None, refl, sym, ap, ◌∙◌}
use Rattle.std.specs.Prelude.{[]}
use Rattle.std.specs.Prelude.{unwrap_or, is_some, IfSome, option_and_then, take, Result, Ok, Err, IfOk, OnErr}
use Rattle.surgeon_store.specs.declared.outside.WriteFault.{WriteFault}
use Rattle.std.specs.Option.{option_map}
use Rattle.std.specs.FinMap.{get, insert, same_map, get-insert, get-remove, nat_cmp-IsAntisymmetric, slice_cmp-IsAntisymmetric}
use Rattle.std.specs.Ordering.{eq_by_cmp}
use Rattle.std.proofs.lemmas.Cmp.{eq_by_cmp_equiv}
use Rattle.std.specs.Cmp.Lexicographic.{nat_list_cmp_total}
use Rattle.surgeon_store.specs.Entries.{bytes_in, appended}
use Rattle.plain_model.specs.Files.{Files, name_cmp}
use Rattle.std.specs.Borrow.{GName}
use Rattle.surgeon_store.specs.Outside.{StoreState, Writes, Appends, sink_of, others}

twice : (b : Bool) (v : List ℕ) (o : Option (List ℕ)) → cond b None (cond b (Some v) o) ≡ cond b None o
twice true v o = refl
twice false v o = refl

-- the other files stay
pub others_insert : (files : Files) (name v : List ℕ) → others (insert files name v) name ≡ others files name
others_insert files name v =
    same_map nat_list_cmp_total (slice_cmp-IsAntisymmetric nat_cmp-IsAntisymmetric) _ _ (λ q.
    get-remove nat_list_cmp_total (insert files name v) name q
    ∙ ap (cond (eq_by_cmp name_cmp q name) None) (get-insert nat_list_cmp_total files name v q)
    ∙ twice (eq_by_cmp name_cmp q name) v (get files q)
    ∙ sym (get-remove nat_list_cmp_total files name q))

-- the bytes of the file that is written
abbrev pub reported : Option Files → Option (List ℕ) → Option (List ℕ)
reported files writing = option_and_then (λ fs. option_and_then (get fs) writing) files

abbrev pub beside : Option Files → Option (List ℕ) → Option Files
beside files writing = option_and_then (λ fs. option_map (others fs) writing) files

get_appended : (files : Files) (name bytes : List ℕ) → get (appended files name bytes) name ≡ Some (bytes_in files name ++ bytes)
get_appended files name bytes =
    get-insert nat_list_cmp_total files name (bytes_in files name ++ bytes) name
    ∙ ap (λ b. cond b (Some (bytes_in files name ++ bytes)) (get files name)) ((eq_by_cmp_equiv nat_list_cmp_total).refl name)

grown : (bytes : List ℕ) (o found : Option (List ℕ)) → found ≡ Some (unwrap_or o [] ++ bytes) → IfSome o (λ w. found ≡ Some (w ++ bytes))
grown bytes None found e = tt
grown bytes (Some w) found e = e

pub reported_appended : (files news : Option Files) (writing : Option (List ℕ)) (bytes : List ℕ)
    → IfSome files (λ fs. IfSome writing (λ name. news ≡ Some (appended fs name bytes)))
    → IfSome (reported files writing) (λ w. reported news writing ≡ Some (w ++ bytes))
reported_appended None news writing bytes h = tt
reported_appended (Some fs) news None bytes h = tt
reported_appended (Some fs) news (Some name) bytes h =
    grown bytes (get fs name) (reported news (Some name)) (ap (λ (o : Option Files). reported o (Some name)) h ∙ get_appended fs name bytes)

pub beside_appended : (files news : Option Files) (writing : Option (List ℕ)) (bytes : List ℕ)
    → IfSome files (λ fs. IfSome writing (λ name. news ≡ Some (appended fs name bytes)))
    → is_some news ≡ is_some files
    → beside news writing ≡ beside files writing
beside_appended None None writing bytes h t = refl
beside_appended None (Some ns) writing bytes h t = absurd cc
beside_appended (Some fs) None writing bytes h t = absurd cc
beside_appended (Some fs) (Some ns) None bytes h t = refl
beside_appended (Some fs) (Some ns) (Some name) bytes h t =
    ap (λ (o : Option Files). beside o (Some name)) h ∙ ap (λ (o : Files). Some o) (others_insert fs name (bytes_in fs name ++ bytes))

module _ (place : GName) (old new : StoreState) (r : Result ℕ WriteFault) (piece : List ℕ) (appends : IfOk r (λ n. Appends old (take n piece) new)) (writing : new.writing ≡ old.writing) where
  pub sink_appends : IfOk r (λ n. IfSome (sink_of place old).written (λ w. (sink_of place new).written ≡ Some (w ++ take n piece)))
  sink_appends = at r appends
    where
      at : (q : Result ℕ WriteFault) → IfOk q (λ n. Appends old (take n piece) new) → IfOk q (λ n. IfSome (sink_of place old).written (λ w. (sink_of place new).written ≡ Some (w ++ take n piece)))
      at (Ok n) h = rw writing (reported_appended old.files new.files old.writing (take n piece) h)
      at (Err e) h = tt

  pub sink_around : OnErr r (new.files ≡ old.files) → Writes old new → (sink_of place new).around ≡ (sink_of place old).around
  sink_around kept frame =
      let files = at r appends kept in
      λ i. record { files = files i; writing = writing i; read_faults = frame.read_faults i; misses = frame.misses i; place = Some place }
    where
      at : (q : Result ℕ WriteFault) → IfOk q (λ n. Appends old (take n piece) new) → OnErr q (new.files ≡ old.files) → beside new.files new.writing ≡ beside old.files old.writing
      at (Ok n) h k = ap (beside new.files) writing ∙ beside_appended old.files new.files old.writing (take n piece) h frame.reports
      at (Err e) h k = ap (beside new.files) writing ∙ ap (λ (o : Option Files). beside o old.writing) k
