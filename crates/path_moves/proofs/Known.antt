-- Operations that were tried and are known to be right.
use Rattle.std.proofs.Common.{◌≡◌, ◌∙◌, ◌+◌, Bool, List, [], ◌∷◌, ◌++◌, true, false, cond, is_some, length, refl, sym, ap, subst, Option, Some, None, Result, Ok, Err}
use Rattle.std.specs.Prelude.{IsOk}
use Rattle.plain_model.specs.declared.operation.Mode.{Mode}
use Rattle.plain_model.specs.declared.operation.Content.{Content}
use Rattle.plain_model.specs.declared.operation.Entry.{Entry}
use Rattle.plain_model.specs.declared.operation.FileOp.{FileOp}
use Rattle.plain_model.specs.declared.operation.FileOp.TheVariants.{Copy, Delete, DeleteAll, Modify, Rename}
use Rattle.plain_model.specs.Paths.{Bytes}
use Rattle.plain_model.specs.Trees.{Refusal, Tree, apply, at, cleared_for, has, put, subtree, without}
use Rattle.history_laws.proofs.TreeLaws.{at_put}
use Rattle.history_laws.proofs.TreeMaps.{itself, within_ok}
use Rattle.path_move_laws.specs.Images.{image}
use Rattle.path_move_laws.specs.MovedOps.{is_path, mapped_op, names_paths}
use Rattle.path_move_laws.specs.Steady.{GoesAlong, IsRight}
use Rattle.path_move_laws.proofs.Quick
use Rattle.path_moves.specs.Pairs.{ArePaired, IsAt, IsTried, LeadsOn}

module _ (f : Bytes → Bytes) (op : FileOp) (old its new made : Tree) (mapped : FileOp) (paired : ArePaired f old its) (tried : IsTried f op its mapped made) (applied : apply op old ≡ Ok new) where
  -- the mapped form of what the operation is
  done : (o : FileOp) → op ≡ o → apply (mapped_op f o) (image f old) ≡ Ok made
  done o is = (λ i. apply (mapped_op f (sym is i)) (sym paired.image i)) ∙ tried.done

  names : (o : FileOp) → op ≡ o → names_paths (mapped_op f o) ≡ true
  names o is = ap (λ (x : FileOp). names_paths (mapped_op f x)) (sym is) ∙ tried.names

  did : (o : FileOp) → op ≡ o → apply o old ≡ Ok new
  did o is = ap (λ (x : FileOp). apply x old) (sym is) ∙ applied

  back : (o : FileOp) → op ≡ o → IsRight f o old new made → IsRight f op old new made
  back o is right = subst (λ (x : FileOp). IsRight f x old new made) (sym is) right

  pub delete_there : (p : Bytes) → op ≡ Delete p → has old p ≡ true → IsRight f op old new made
  delete_there p is h = back (Delete p) is (Quick.delete_there f old paired.moves p new (did (Delete p) is) made (names (Delete p) is) (done (Delete p) is) h)

  pub delete_along : (p : Bytes) → op ≡ Delete p → GoesAlong f p → length new + length its ≡ length made + length old → IsRight f op old new made
  delete_along p is along even =
      back (Delete p) is (Quick.delete_along f old paired.moves p new (did (Delete p) is) made (names (Delete p) is) (done (Delete p) is) along
      (ap (λ (u : Tree). length new + length u) (sym paired.image) ∙ even))

  pub delete_nothing : (p : Bytes) → op ≡ Delete p → length new ≡ length old → length made ≡ length its → IsRight f op old new made
  delete_nothing p is same same_too =
      let still : new ≡ old = Quick.nothing_gone p old new paired.moves.form.in_order (did (Delete p) is) same in
      back (Delete p) is (subst (λ (u : Tree). IsRight f (Delete p) old u made) (sym still)
      (Quick.nothing_right f old paired.moves p made (names (Delete p) is) (did (Delete p) is ∙ ap (λ (u : Tree). Ok u) still) (done (Delete p) is) (same_too ∙ ap length paired.image)))

  pub copy_there : (s g : Bytes) → op ≡ Copy s g → GoesAlong f s → GoesAlong f g → length (subtree s old) ≡ length (subtree (f s) its) → has old g ≡ true → IsRight f op old new made
  copy_there s g is from_s from_g many h =
      back (Copy s g) is (Quick.copy_there f old paired.moves s g from_s from_g (many ∙ ap (λ (u : Tree). length (subtree (f s) u)) paired.image) new made (names (Copy s g) is) (did (Copy s g) is) (done (Copy s g) is) h)

  pub copy_free : (s g : Bytes) → op ≡ Copy s g → GoesAlong f s → GoesAlong f g → length (subtree s old) ≡ length (subtree (f s) its) → length new ≡ length old + length (subtree s old) → length made ≡ length its + length (subtree s old)
      → IsRight f op old new made
  copy_free s g is from_s from_g many one two =
      back (Copy s g) is (Quick.copy_free f old paired.moves s g from_s from_g (many ∙ ap (λ (u : Tree). length (subtree (f s) u)) paired.image) new made (names (Copy s g) is) (did (Copy s g) is) (done (Copy s g) is) one
      (two ∙ ap (λ (u : Tree). length u + length (subtree s old)) paired.image))

  pub rename_there : (s g : Bytes) → op ≡ Rename s g → GoesAlong f s → GoesAlong f g → length (subtree s old) ≡ length (subtree (f s) its) → has old g ≡ true → IsRight f op old new made
  rename_there s g is from_s from_g many h =
      back (Rename s g) is (Quick.rename_there f old paired.moves s g from_s from_g (many ∙ ap (λ (u : Tree). length (subtree (f s) u)) paired.image) new made (names (Rename s g) is) (did (Rename s g) is) (done (Rename s g) is) h)

  pub rename_free : (s g : Bytes) → op ≡ Rename s g → GoesAlong f s → GoesAlong f g → length (subtree s old) ≡ length (subtree (f s) its) → length new ≡ length old → length made ≡ length its → IsRight f op old new made
  rename_free s g is from_s from_g many one two =
      back (Rename s g) is (Quick.rename_free f old paired.moves s g from_s from_g (many ∙ ap (λ (u : Tree). length (subtree (f s) u)) paired.image) new made (names (Rename s g) is) (did (Rename s g) is) (done (Rename s g) is) one
      (two ∙ ap length paired.image))

-- a put at a path that is there
pub put_there : (f : Bytes → Bytes) (op : FileOp) (old its new : Tree) (mode : Mode) (content : Content) (p : Bytes) → op ≡ Modify mode content p → ArePaired f old its → apply op old ≡ Ok new → has old p ≡ true
    → names_paths (mapped_op f op) ≡ true → IsRight f op old new (image f new)
put_there f op old its new mode content p is paired applied there names =
    subst (λ (x : FileOp). IsRight f x old new (image f new)) (sym is)
    (Quick.put_there f old paired.moves mode content p new (ap (λ (x : FileOp). names_paths (mapped_op f x)) (sym is) ∙ names) (ap (λ (x : FileOp). apply x old) (sym is) ∙ applied) there)

pub found_op : (o : Option FileOp) (b : Bool) (p x : FileOp) → o ≡ cond b (Some p) None → o ≡ Some x → (b ≡ true) × (x ≡ p)
found_op o true p x is found = let same : ◌≡◌ {A = Option FileOp} (Some x) (Some p) = sym found ∙ is in (refl, cc)
found_op o false p x is found = let same : ◌≡◌ {A = Option FileOp} (Some x) None = sym found ∙ is in absurd cc

pub is_ok : (r : Result Tree Refusal) (t : Tree) → r ≡ Ok t → IsOk r
is_ok (Ok x) t h = refl
is_ok (Err e) t h = absurd cc

pub same_ok : (t u : Tree) → ◌≡◌ {A = Result Tree Refusal} (Ok t) (Ok u) → t ≡ u
same_ok t u h = cc

-- where no operation was found
pub no_op : (o : Option FileOp) (b : Bool) (p : FileOp) → o ≡ cond b (Some p) None → ((x : FileOp) → o ≡ Some x → ⊥) → b ≡ false
no_op o true p is none = absurd (none p is)
no_op o false p is none = refl

-- what is right leads on
pub leads : (f : Bytes → Bytes) (op : FileOp) (old new its : Tree) (before after : List FileOp) (mapped : FileOp) → apply op old ≡ Ok new → IsRight f op old new its → mapped ≡ mapped_op f op → after ≡ before ++ mapped ∷ []
    → LeadsOn f op old before new its after
leads f op old new its before after mapped applied right same is = record {
  applied = applied;
  paired = record { moves = right.moves; image = right.image };
  grown = is ∙ ap (λ (l : List FileOp). before ++ l) (ap (λ (x : FileOp). x ∷ []) same ∙ sym right.only);
}

-- ---- a path that is there

pub there_right : (f : Bytes → Bytes) (op : FileOp) (p : Bytes) (old its new : Tree) → IsAt p op → ArePaired f old its → apply op old ≡ Ok new → has old p ≡ true → names_paths (mapped_op f op) ≡ true
    → IsRight f op old new (image f new)
there_right f (Modify mode content q) p old its new at paired applied there names =
    Quick.put_there f old paired.moves mode content q new names applied (ap (has old) at ∙ there)
there_right f (Delete q) p old its new at paired applied there names =
    let right = Quick.delete_there f old paired.moves q new applied (without (f q) (image f old)) names refl (ap (has old) at ∙ there) in
    subst (λ (x : Tree). IsRight f (Delete q) old new x) right.image right
there_right f (Copy source target) p old its new at paired applied there names = absurd at
there_right f (Rename source target) p old its new at paired applied there names = absurd at
there_right f DeleteAll p old its new at paired applied there names = absurd at

-- what is mapped does to the image what it should
pub there_applies : (f : Bytes → Bytes) (op : FileOp) (old its new : Tree) (mapped : FileOp) → its ≡ image f old → mapped ≡ mapped_op f op → IsRight f op old new (image f new) → apply mapped its ≡ Ok (image f new)
there_applies f op old its new mapped is same right = (λ i. apply (same i) (is i)) ∙ right.done

-- ---- a path that isn't there

module _ (f : Bytes → Bytes) (op : FileOp) (old its new : Tree) (mode : Mode) (content : Content) (p : Bytes) (is : op ≡ Modify mode content p) (paired : ArePaired f old its) (applied : apply op old ≡ Ok new) where
  does : apply (Modify mode content p) old ≡ Ok new
  does = ap (λ (x : FileOp). apply x old) (sym is) ∙ applied

  abbrev entry : Entry
  entry = record { mode = mode; content = content }

  pub put_is_there : has new p ≡ true
  put_is_there =
      ap (λ (t : Tree). has t p) (sym (within_ok (put p entry (cleared_for p old)) new does).0)
      ∙ ap is_some (at_put p p entry (cleared_for p old) ∙ ap (λ b. cond b (Some entry) (at (cleared_for p old) p)) (itself p))

  module _ (names : names_paths (mapped_op f op) ≡ true) (one : length new ≡ length old + 1) (mapped : FileOp) (same : mapped ≡ mapped_op f op) where
    named : is_path (f p) ≡ true
    named = ap (λ (x : FileOp). names_paths (mapped_op f x)) (sym is) ∙ names

    as_put : (made : Tree) → apply mapped its ≡ Ok made → apply (Modify mode content (f p)) (image f old) ≡ Ok made
    as_put made h = sym (λ i. apply ((same ∙ ap (mapped_op f) is) i) (paired.image i)) ∙ h

    pub put_free : (made : Tree) → apply mapped its ≡ Ok made → length made ≡ length its + 1 → IsRight f op old new made
    put_free made h more =
        subst (λ (x : FileOp). IsRight f x old new made) (sym is)
        (Quick.put_free f old paired.moves mode content p new named does made (as_put made h) one (more ∙ ap (λ (t : Tree). length t + 1) paired.image))

    pub put_fails : ((made : Tree) → apply mapped its ≡ Ok made → length made ≡ length its + 1 → ⊥) → (others : Tree) → ArePaired f new others → ⊥
    put_fails none others pair =
        let must = Quick.put_must f old paired.moves mode content p new named does one pair.moves.apart in
        none (image f new) ((λ i. apply ((same ∙ ap (mapped_op f) is) i) (paired.image i)) ∙ must.0)
        (must.1 ∙ ap (λ (t : Tree). length t + 1) (sym paired.image))
