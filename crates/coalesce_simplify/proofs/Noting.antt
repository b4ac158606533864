-- What is known of operations goes on from the last one to the first.
use Rattle.std.proofs.Common.{◌≡◌, ◌∙◌, ℕ, zero, suc, ◌≤◌, Bool, true, false, cond, inl, inr, List, [], ◌∷◌, ◌++◌, length, drop, get_or, replicate, Option, Some, refl, sym, ap, subst, arith, append_assoc}
use Rattle.std.proofs.Math.ListN.{set}
use Rattle.std.proofs.lemmas.Bool.{cases_eq, or_parts}
use Rattle.std.proofs.lemmas.List.{get_or-set_other, get_or-set_same, length-replicate, length-set}
use Rattle.std.proofs.lemmas.Option.{slice_get_within}
use Rattle.std.specs.List.{list_any}
use Rattle.std.specs.Prelude.{◌||◌, bytes_eq, slice_get}
use Rattle.plain_model.specs.declared.operation.FileOp.{FileOp}
use Rattle.plain_model.specs.declared.operation.FileOp.TheVariants.{Modify, Delete, Copy, Rename, DeleteAll}
use Rattle.plain_model.specs.declared.operation.Content.{Content}
use Rattle.plain_model.specs.declared.operation.Mode.{Mode}
use Rattle.plain_model.specs.Paths.{Bytes}
use Rattle.event_arena.proofs.ListLemmas.{drop_item}
use Rattle.simplify_laws.specs.Simplify.{is_void, simpler}
use Rattle.coalesce_simplify.specs.Voiding.{AreVoid, Known, Knows, void_by}

-- ---- lists

none_after : (n : ℕ) (xs : List FileOp) → length xs ≤ n → drop n xs ≡ []
none_after zero [] h = refl
none_after (suc n) [] h = refl
none_after zero (x ∷ xs) h = absurd (omega arith)
none_after (suc n) (x ∷ xs) h = none_after n xs (omega arith)

-- ---- one operation before others

pub noted_put : (later : List FileOp) (old : Known) (mode : Mode) (content : Content) (path : Bytes) (put : List Bytes) → Knows later old →
    ((p : Bytes) → list_any (bytes_eq p) put ≡ bytes_eq p path || list_any (bytes_eq p) old.put) → Knows (Modify mode content path ∷ later) (record { anew = old.anew; put = put; deleted = old.deleted })
noted_put later old mode content path put k adds = record {
  anew = k.anew;
  put = λ p. adds p ∙ ap (λ b. bytes_eq p path || b) (k.put p);
  deleted = k.deleted;
}

pub noted_deletion : (later : List FileOp) (old : Known) (path : Bytes) (deleted : List Bytes) → Knows later old →
    ((p : Bytes) → list_any (bytes_eq p) deleted ≡ bytes_eq p path || list_any (bytes_eq p) old.deleted) → Knows (Delete path ∷ later) (record { anew = old.anew; put = old.put; deleted = deleted })
noted_deletion later old path deleted k adds = record {
  anew = k.anew;
  put = k.put;
  deleted = λ p. adds p ∙ ap (λ b. bytes_eq p path || b) (k.deleted p);
}

pub noted_anew : (later : List FileOp) (old : Known) → Knows later old → Knows (DeleteAll ∷ later) (record { anew = true; put = old.put; deleted = old.deleted })
noted_anew later old k = record { anew = refl; put = k.put; deleted = k.deleted }

-- what is known says whether it is void
pub void_known : (later : List FileOp) (known : Known) (op : FileOp) → Knows later known → void_by known op ≡ is_void op later
void_known later known (Modify mode content path) k = λ i. k.anew i || k.put path i
void_known later known (Delete path) k = λ i. k.anew i || k.put path i || k.deleted path i
void_known later known (Copy source target) k = k.anew
void_known later known (Rename source target) k = k.anew
void_known later known DeleteAll k = k.anew

-- ---- the pass

pub pass_begins : (ops : List FileOp) (n : ℕ) (known : Known) (flags : List Bool) → n ≡ length ops → Knows [] known → flags ≡ replicate (length ops) false →
    Knows (drop n ops) known × AreVoid ops n flags
pass_begins ops n known flags all k none = (
  subst (λ (l : List FileOp). Knows l known) (sym (none_after n ops (omega arith))) k,
  record {
    count = ap length none ∙ length-replicate (length ops) false;
    flag = λ j op at low. let high = slice_get_within ops j op at in absurd (omega arith);
  },
)

pub pass_goes_on : (ops : List FileOp) (k : ℕ) (op : FileOp) (old new : Known) (flags : List Bool) (flag : Bool) → slice_get ops k ≡ Some op →
    Knows (drop (suc k) ops) old → AreVoid ops (suc k) flags → flag ≡ void_by old op → (Knows (drop (suc k) ops) old → Knows (op ∷ drop (suc k) ops) new) →
    Knows (drop k ops) new × AreVoid ops k (set flags k flag)
pass_goes_on ops k op old new flags flag at knows are is more = (
  subst (λ (l : List FileOp). Knows l new) (sym (drop_item ops k op at)) (more knows),
  record { count = length-set flags k flag ∙ are.count; flag = each },
)
  where
    each : (j : ℕ) (x : FileOp) → slice_get ops j ≡ Some x → k ≤ j → get_or (set flags k flag) j false ≡ is_void x (drop (suc j) ops)
    each j x here low = elim (cases_eq k j) [
      | inl same ↦
          let own : ◌≡◌ {A = Option FileOp} (Some op) (Some x) = sym at ∙ ap (slice_get ops) same ∙ here in
          let is_x : op ≡ x = cc in
          ap (λ i. get_or (set flags k flag) i false) (sym same) ∙ get_or-set_same flags k flag false (let high = slice_get_within ops k op at in let count = are.count in omega arith)
          ∙ is ∙ void_known (drop (suc k) ops) old op knows ∙ (λ i. is_void (is_x i) (drop (suc (same i)) ops))
      | inr other ↦
          let high : suc k ≤ j = omega (arith, other) in
          get_or-set_other flags k j flag false (λ e. other (sym e)) ∙ are.flag j x here high
    ]

-- the operations that stay, one more or not
pub stays_next : (ops left new : List FileOp) (k : ℕ) (op : FileOp) (flags : List Bool) → AreVoid ops 0 flags → slice_get ops k ≡ Some op → get_or flags k false ≡ false →
    left ++ simpler (drop k ops) ≡ simpler ops → new ≡ left ++ op ∷ [] → new ++ simpler (drop (suc k) ops) ≡ simpler ops
stays_next ops left new k op flags are at stays so_far is =
    let void : is_void op (drop (suc k) ops) ≡ false = sym (are.flag k op at (omega arith)) ∙ stays in
    ap (λ (l : List FileOp). l ++ simpler (drop (suc k) ops)) is
    ∙ append_assoc left (op ∷ []) (simpler (drop (suc k) ops))
    ∙ ap (λ (l : List FileOp). left ++ l) (sym (ap simpler (drop_item ops k op at) ∙ ap (λ b. cond b (simpler (drop (suc k) ops)) (op ∷ simpler (drop (suc k) ops))) void))
    ∙ so_far

pub goes_next : (ops left : List FileOp) (k : ℕ) (op : FileOp) (flags : List Bool) → AreVoid ops 0 flags → slice_get ops k ≡ Some op → get_or flags k false ≡ true →
    left ++ simpler (drop k ops) ≡ simpler ops → left ++ simpler (drop (suc k) ops) ≡ simpler ops
goes_next ops left k op flags are at goes so_far =
    let void : is_void op (drop (suc k) ops) ≡ true = sym (are.flag k op at (omega arith)) ∙ goes in
    ap (λ (l : List FileOp). left ++ l) (sym (ap simpler (drop_item ops k op at) ∙ ap (λ b. cond b (simpler (drop (suc k) ops)) (op ∷ simpler (drop (suc k) ops))) void))
    ∙ so_far

-- ---- no flag

no_flag_at : (flags : List Bool) (k : ℕ) → list_any (λ flag. flag) flags ≡ false → get_or flags k false ≡ false
no_flag_at [] k h = refl
no_flag_at (b ∷ flags) zero h = (or_parts b (list_any (λ flag. flag) flags) h).0
no_flag_at (b ∷ flags) (suc k) h = no_flag_at flags k (or_parts b (list_any (λ flag. flag) flags) h).1

none_void : (ops : List FileOp) → ((k : ℕ) (op : FileOp) → slice_get ops k ≡ Some op → is_void op (drop (suc k) ops) ≡ false) → simpler ops ≡ ops
none_void [] h = refl
none_void (op ∷ ops) h =
    ap (λ b. cond b (simpler ops) (op ∷ simpler ops)) (h 0 op refl)
    ∙ ap (λ (l : List FileOp). op ∷ l) (none_void ops (λ k x at. h (suc k) x at))

pub all_stay : (ops : List FileOp) (flags : List Bool) → AreVoid ops 0 flags → list_any (λ flag. flag) flags ≡ false → simpler ops ≡ ops
all_stay ops flags are none = none_void ops (λ k op at. sym (are.flag k op at (omega arith)) ∙ no_flag_at flags k none)
