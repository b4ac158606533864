-- Fields that are looked at one after another.
use Rattle.std.proofs.Common.{◌≡◌, Option, Some, None, Result, Ok, Err, refl, ap, ◌∙◌}
use Rattle.plain_model.specs.declared.fault.Why.{Why}
use Rattle.plain_model.specs.Fields.{◌>>=◌, or_defect}

-- the value of a field that had no defect, and what came of it
pub bind_ok : {A B : Type 0} (r : Result A Why) (f : A → Result B Why) (y : B) → (r >>= f) ≡ Ok y → (x : A) × (r ≡ Ok x) × (f x ≡ Ok y)
bind_ok (Ok x) f y e = (x, refl, e)
bind_ok (Err why) f y e = absurd (cc)

-- a field without a defect, and the next
pub ok_then : {A B : Type 0} (r : Result A Why) (f : A → Result B Why) (x : A) (y : Result B Why) → r ≡ Ok x → f x ≡ y → (r >>= f) ≡ y
ok_then r f x y e h = ap (λ q. q >>= f) e ∙ h

pub or_defect_is : {A : Type 0} (why : Why) (o : Option A) (x : A) → or_defect why o ≡ Ok x → o ≡ Some x
or_defect_is why (Some y) x e = cc
or_defect_is why None x e = absurd (cc)

pub or_defect_found : {A : Type 0} (why : Why) (o : Option A) (x : A) → o ≡ Some x → or_defect why o ≡ Ok x
or_defect_found why o x e = ap (or_defect why) e

pub same_Ok : {A : Type 0} (x y : A) → ◌≡◌ {A = Result A Why} (Ok x) (Ok y) → x ≡ y
same_Ok x y e = cc
