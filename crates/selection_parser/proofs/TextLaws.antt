-- The texts of a selection that a text of UTF-8 spells are UTF-8.
use Rattle.std.proofs.Common.{◌≡◌, ℕ, zero, suc, ◌+◌, ◌<◌, ◌==◌, Bool, true, List, [], ◌∷◌, ◌++◌, length, take, drop, get_or, replicate, refl, sym, ◌∙◌, ap}
use Rattle.std.proofs.Common.{subst, inl, inr, append_assoc, append-nil, arith, lit<, cond, drop-cons, IsUtf8, IsCharBoundary}
use Rattle.std.specs.Prelude.{codes}
use Rattle.std.specs.List.{list_all}
use Rattle.std.specs.Str.{is_utf8}
use Rattle.std.proofs.lemmas.Bool.{and_from, and_parts, eqb-true, cases_Bool}
use Rattle.std.proofs.lemmas.Bool.Decides.{nat_tests}
use Rattle.std.proofs.lemmas.Str.{IsUtf8-append, IsUtf8-take, IsUtf8-drop, IsUtf8-from_ascii, IsCharBoundary-before_ascii, IsCharBoundary-after_ascii}
use Rattle.std.proofs.lemmas.Str.{is_utf8-from_IsUtf8}
use Rattle.plain_model.specs.Paths.{Bytes}
use Rattle.plain_model.specs.declared.limit.TheConstants.{MAX_NESTING}
use Rattle.plain_model.specs.Blanks.{is_blank}
use Rattle.selection_parser.specs.declared.item.Item.{Item}
use Rattle.selection_parser.specs.declared.item.Item.TheVariants.{One, Span}
use Rattle.selection_parser.specs.declared.item.Spot.{Spot}
use Rattle.selection_parser.specs.declared.item.Spot.TheVariants.{Number, Marked, Last, Named}
use Rattle.selection_parser.specs.Plain.{PlainSelection, in_order, union_of, both_of, near}
use Rattle.selection_parser.specs.Spelling.{SpellsFrom, SpellsEach, SpellsSpot, SpellsItem, SpellsPrimary, SpellsNear, SpellsBoth, SpellsUnion, SpellsTerm}
use Rattle.selection_parser.specs.Spelling.{Nothing, escaped, whole_mark, name_of, ends_here, IsSelection}
use Rattle.selection_parser.specs.Spelling.SpellsPrimary.{group, call, kinds, search, at_path, at_pattern, items}
use Rattle.selection_parser.proofs.RightAnswers.{take_drop}
use Rattle.selection_parser.specs.Texts.{is_text_spot, is_text_item, has_utf8_texts, have_utf8_texts}

-- ---- cuts at an ASCII byte

at_seam : (xs ys : Bytes) (b : ℕ) → get_or (xs ++ b ∷ ys) (length xs) 0 ≡ b
at_seam [] ys b = refl
at_seam (x ∷ xs) ys b = at_seam xs ys b

take_seam : (xs ys : Bytes) → take (length xs) (xs ++ ys) ≡ xs
take_seam [] ys = refl
take_seam (x ∷ xs) ys = ap (λ t. x ∷ t) (take_seam xs ys)

length_seam : (xs ys : Bytes) (b : ℕ) → length xs < length (xs ++ b ∷ ys)
length_seam [] ys b = omega arith
length_seam (x ∷ xs) ys b = let ih = length_seam xs ys b in omega arith

small_seam : (xs ys : Bytes) (b : ℕ) → b < 128 → get_or (xs ++ b ∷ ys) (length xs) 0 < 128
small_seam xs ys b small = let here = at_seam xs ys b in omega arith

-- what is before such a byte
before_ascii : (xs ys : Bytes) (b : ℕ) → b < 128 → IsUtf8 (xs ++ b ∷ ys) → IsUtf8 xs
before_ascii xs ys b small h =
    subst IsUtf8 (take_seam xs (b ∷ ys))
    (IsUtf8-take (xs ++ b ∷ ys) (length xs) h (IsCharBoundary-before_ascii (xs ++ b ∷ ys) (length xs) (length_seam xs ys b) (small_seam xs ys b small)))

drop_more : (xs ys : Bytes) (b : ℕ) → drop (length xs + 1) (xs ++ b ∷ ys) ≡ ys
drop_more [] ys b = refl
drop_more (x ∷ xs) ys b =
    let e : suc (length xs) + 1 ≡ suc (length xs + 1) = omega arith in
    ap (λ n. drop n (x ∷ xs ++ b ∷ ys)) e ∙ drop_more xs ys b

-- what is after it
after_ascii : (xs ys : Bytes) (b : ℕ) → b < 128 → IsUtf8 (xs ++ b ∷ ys) → IsUtf8 ys
after_ascii xs ys b small h =
    subst IsUtf8 (drop_more xs ys b)
    (IsUtf8-drop (xs ++ b ∷ ys) (length xs + 1) h (IsCharBoundary-after_ascii (xs ++ b ∷ ys) (length xs) h (length_seam xs ys b) (small_seam xs ys b small)))

slash_utf8 : IsUtf8 (47 ∷ [])
slash_utf8 = IsUtf8-from_ascii (47 ∷ []) ascii
  where
    ascii : (i : ℕ) → get_or (47 ∷ []) i 0 < 128
    ascii zero = lit< tt
    ascii (suc i) = lit< tt

-- a pattern without its escapes
unescaped : (pattern front : Bytes) → IsUtf8 (front ++ escaped pattern) → IsUtf8 (front ++ pattern)
unescaped [] front h = h
unescaped (b ∷ bs) front h =
    elim (cases_Bool (b == 47)) [
      | inl slash ↦
          let here : IsUtf8 (front ++ 92 ∷ 47 ∷ escaped bs) = subst (λ t. IsUtf8 (front ++ cond t (92 ∷ 47 ∷ escaped bs) (b ∷ escaped bs))) slash h in
          let rest = after_ascii [] (escaped bs) 47 (lit< tt) (after_ascii front (47 ∷ escaped bs) 92 (lit< tt) here) in
          let whole : IsUtf8 (front ++ 47 ∷ bs) =
          subst IsUtf8 (append_assoc front (47 ∷ []) bs)
          (IsUtf8-append (front ++ 47 ∷ []) bs (IsUtf8-append front (47 ∷ []) (before_ascii front (47 ∷ escaped bs) 92 (lit< tt) here) slash_utf8)
          (unescaped bs [] rest)) in
          subst (λ c. IsUtf8 (front ++ c ∷ bs)) (sym (eqb-true b 47 slash)) whole
      | inr other ↦
          let here : IsUtf8 (front ++ b ∷ escaped bs) = subst (λ t. IsUtf8 (front ++ cond t (92 ∷ 47 ∷ escaped bs) (b ∷ escaped bs))) other h in
          subst IsUtf8 (append_assoc front (b ∷ []) bs)
          (unescaped bs (front ++ b ∷ []) (subst IsUtf8 (sym (append_assoc front (b ∷ []) (escaped bs))) here))
    ]

-- ---- parts with an ASCII byte between them

module _ {A : Type 0} (byte : ℕ) (small : byte < 128) (Spells : Bytes → A → Type 0) (p : A → Bool)
    (each : (text : Bytes) (x : A) → Spells text x → IsUtf8 text → p x ≡ true) where
  from_each : (xs : List A) (x : A) (text : Bytes) → SpellsFrom byte Spells x xs text → IsUtf8 text → list_all p (x ∷ xs) ≡ true
  from_each [] x text h u = and_from (p x) true (each text x h u) refl
  from_each (y ∷ ys) x text h u =
      let whole = subst IsUtf8 h.4 u in
      and_from (p x) (list_all p (y ∷ ys)) (each h.0 x h.2 (before_ascii h.0 h.1 byte small whole))
      (from_each ys y h.1 h.3 (after_ascii h.0 h.1 byte small whole))

  all_each : (xs : List A) (text : Bytes) → SpellsEach byte Spells xs text → IsUtf8 text → list_all p xs ≡ true
  all_each [] text h u = absurd h
  all_each (x ∷ xs) text h u = from_each xs x text h u

-- ---- items

spot_text : (text : Bytes) (s : Spot) → SpellsSpot text s → IsUtf8 text → is_text_spot s ≡ true
spot_text text (Number n) h u = refl
spot_text text (Marked n) h u = refl
spot_text text Last h u = refl
spot_text text (Named name) h u =
    is_utf8-from_IsUtf8 name (before_ascii name [] 62 (lit< tt) (after_ascii [] (name ++ 62 ∷ []) 60 (lit< tt) (subst IsUtf8 h.1 u)))

item_text : (text : Bytes) (item : Item) → SpellsItem text item → IsUtf8 text → is_text_item item ≡ true
item_text text (One s) h u = spot_text text s h u
item_text text (Span start end) h u =
    let whole : IsUtf8 (h.0 ++ 46 ∷ 46 ∷ h.1) = subst IsUtf8 (h.4 ∙ append_assoc h.0 (codes "..") h.1) u in
    and_from (is_text_spot start) (is_text_spot end)
    (spot_text h.0 start h.2 (before_ascii h.0 (46 ∷ h.1) 46 (lit< tt) whole))
    (spot_text h.1 end h.3 (after_ascii [] h.1 46 (lit< tt) (after_ascii h.0 (46 ∷ h.1) 46 (lit< tt) whole)))

-- ---- selections

listed : (xs : List PlainSelection) → list_all has_utf8_texts xs ≡ true → have_utf8_texts (in_order xs) ≡ true
listed [] h = refl
listed (x ∷ xs) h =
    let p = and_parts (has_utf8_texts x) (list_all has_utf8_texts xs) h in
    and_from (has_utf8_texts x) (have_utf8_texts (in_order xs)) p.0 (listed xs p.1)

union_texts : (xs : List PlainSelection) → list_all has_utf8_texts xs ≡ true → has_utf8_texts (union_of xs) ≡ true
union_texts [] h = refl
union_texts (x ∷ []) h = (and_parts (has_utf8_texts x) true h).0
union_texts (x ∷ y ∷ xs) h = listed (x ∷ y ∷ xs) h

both_texts : (xs : List PlainSelection) → list_all has_utf8_texts xs ≡ true → has_utf8_texts (both_of xs) ≡ true
both_texts [] h = refl
both_texts (x ∷ []) h = (and_parts (has_utf8_texts x) true h).0
both_texts (x ∷ y ∷ xs) h = listed (x ∷ y ∷ xs) h

near_texts : (times : ℕ) (x : PlainSelection) → has_utf8_texts x ≡ true → has_utf8_texts (near times x) ≡ true
near_texts zero x h = h
near_texts (suc times) x h = h

-- what is spelled so has texts of UTF-8
abbrev HasTexts : (Bytes → PlainSelection → Type 0) → Type 0
HasTexts Spelled = (text : Bytes) (x : PlainSelection) → Spelled text x → IsUtf8 text → has_utf8_texts x ≡ true

pattern_text : (front pattern later : Bytes) → IsUtf8 (front ++ 47 ∷ escaped pattern ++ 47 ∷ later) → is_utf8 pattern ≡ true
pattern_text front pattern later u =
    let inner = after_ascii front (escaped pattern ++ 47 ∷ later) 47 (lit< tt) (subst IsUtf8 (append_assoc front (47 ∷ escaped pattern) (47 ∷ later)) u) in
    is_utf8-from_IsUtf8 pattern (unescaped pattern [] (before_ascii (escaped pattern) later 47 (lit< tt) inner))

primary_texts : (Inner : Bytes → PlainSelection → Type 0) → HasTexts Inner → HasTexts (SpellsPrimary Inner)
primary_texts Inner each text x (group inner h e) u =
    each inner x h (before_ascii inner [] 41 (lit< tt) (after_ascii [] (inner ++ 41 ∷ []) 40 (lit< tt) (subst IsUtf8 e u)))
primary_texts Inner each text x (call f inner y h e is) u =
    let whole : IsUtf8 ((64 ∷ name_of f) ++ 40 ∷ (inner ++ 41 ∷ [])) =
    subst IsUtf8 (e ∙ append_assoc (64 ∷ name_of f ++ 40 ∷ []) inner (41 ∷ []) ∙ append_assoc (64 ∷ name_of f) (40 ∷ []) (inner ++ 41 ∷ [])) u in
    ap has_utf8_texts is ∙ each inner y h (before_ascii inner [] 41 (lit< tt) (after_ascii (64 ∷ name_of f) (inner ++ 41 ∷ []) 40 (lit< tt) whole))
primary_texts Inner each text x (kinds b letters set h e is) u = ap has_utf8_texts is
primary_texts Inner each text x (search pattern letters fields h k e is) u =
    ap has_utf8_texts is ∙ pattern_text [] pattern letters (subst IsUtf8 (e ∙ append_assoc (47 ∷ escaped pattern) (codes "/") letters) u)
primary_texts Inner each text x (at_path path h k e is) u =
    ap has_utf8_texts is
    ∙ is_utf8-from_IsUtf8 path (before_ascii path [] 93 (lit< tt) (after_ascii [] (path ++ 93 ∷ []) 91 (lit< tt) (subst IsUtf8 e u)))
primary_texts Inner each text x (at_pattern pattern trees h e is) u =
    ap has_utf8_texts is
    ∙ pattern_text (91 ∷ []) pattern (whole_mark trees ++ 93 ∷ [])
    (subst IsUtf8 (e ∙ ap (λ t. t ++ codes "]") (append_assoc (91 ∷ 47 ∷ escaped pattern) (codes "/") (whole_mark trees))
    ∙ append_assoc (91 ∷ 47 ∷ escaped pattern) (47 ∷ whole_mark trees) (codes "]")) u)
primary_texts Inner each text x (items list h is) u =
    ap has_utf8_texts is ∙ all_each 44 (lit< tt) SpellsItem is_text_item item_text list text h u

near_spelled : (Inner : Bytes → PlainSelection → Type 0) → HasTexts Inner → HasTexts (SpellsNear Inner)
near_spelled Inner each text x h u =
    ap has_utf8_texts h.5 ∙ near_texts h.1 h.2 (primary_texts Inner each h.0 h.2 h.3 (go h.1 (subst IsUtf8 h.4 u)))
  where
    go : (times : ℕ) → IsUtf8 (h.0 ++ replicate times 63) → IsUtf8 h.0
    go zero k = subst IsUtf8 (append-nil h.0) k
    go (suc times) k = before_ascii h.0 (replicate times 63) 63 (lit< tt) k

union_spelled : (Term : Bytes → PlainSelection → Type 0) → HasTexts Term → HasTexts (SpellsUnion Term)
union_spelled Term each text x h u =
    ap has_utf8_texts h.2 ∙ union_texts h.0 (all_each 124 (lit< tt) (SpellsBoth Term) has_utf8_texts both h.0 text h.1 u)
  where
    both : HasTexts (SpellsBoth Term)
    both part y k v = ap has_utf8_texts k.2 ∙ both_texts k.0 (all_each 38 (lit< tt) Term has_utf8_texts each k.0 part k.1 v)

term_texts : (deep : ℕ) → HasTexts (SpellsTerm deep)
unfolding SpellsTerm
term_texts zero text x h u = near_spelled Nothing (λ t y k v. absurd k) text x h u
term_texts (suc deep) text x h u =
    elim h [
      | inl not ↦ ap has_utf8_texts not.4 ∙ term_texts deep not.0 not.1 not.2 (after_ascii [] not.0 126 (lit< tt) (subst IsUtf8 not.3 u))
      | inr plain ↦ near_spelled (SpellsUnion (SpellsTerm deep)) (union_spelled (SpellsTerm deep) (term_texts deep)) text x plain u
    ]

blank_small : (b : ℕ) → is_blank b ≡ true → b < 128
blank_small b h = grind (arith, nat_tests)

front_text : (front rest : Bytes) → ends_here rest ≡ true → IsUtf8 (front ++ rest) → IsUtf8 front
front_text front [] h u = subst IsUtf8 (append-nil front) u
front_text front (b ∷ bs) h u = before_ascii front bs b (blank_small b h) u

-- a selection at the front of a text of UTF-8
pub selection_texts : (text : Bytes) (n : ℕ) (x : PlainSelection) → IsSelection text n x → IsUtf8 text → has_utf8_texts x ≡ true
selection_texts text n x h u =
    union_spelled (SpellsTerm MAX_NESTING) (term_texts MAX_NESTING) (take n text) x h.spelled
    (front_text (take n text) (drop n text) h.ends (subst IsUtf8 (sym (take_drop n text)) u))

-- after such a selection the text may be cut
pub cut_there : (text : Bytes) (n : ℕ) (x : PlainSelection) → IsSelection text n x → IsCharBoundary text n
cut_there text n x h = (h.within, λ more large. (IsCharBoundary-before_ascii text n more (small more)).1 more large)
  where
    small : n < length text → get_or text n 0 < 128
    small more =
        let next : drop n text ≡ get_or text n 0 ∷ drop (suc n) text = drop-cons text n 0 more in
        blank_small (get_or text n 0) (subst (λ rest. ends_here rest ≡ true) next h.ends)
