-- What is answered, if it isn't a refusal.
use Rattle.std.proofs.Common.{◌≡◌, List, [], ◌∷◌, Option, Some, None, Result, Ok, Err, refl}
use Rattle.plain_model.specs.declared.fault.Fault.{Fault}
use Rattle.script_lines.specs.Answering.{◌>>=◌}
use Rattle.script_lines.specs.Texts.{or_at_fault}
use Rattle.script_lines.specs.declared.word.Word.{Word}
use Rattle.script_reader.specs.Forms.{alone}

abbrev pub IfAnswered : {A : Type 0} → (A → Type 0) → Result A Fault → Type 0
IfAnswered P (Ok x) = P x
IfAnswered P (Err why) = Unit {0}

pub bound : {A B : Type 0} (P : B → Type 0) (m : Result A Fault) (f : A → Result B Fault) → ((x : A) → m ≡ Ok x → IfAnswered P (f x)) → IfAnswered P (m >>= f)
bound P (Ok x) f h = h x refl
bound P (Err why) f h = tt

pub found : {A : Type 0} (P : A → Type 0) (word : Word) (o : Option A) → ((x : A) → o ≡ Some x → P x) → IfAnswered P (or_at_fault word o)
found P word (Some x) h = h x refl
found P word None h = tt

pub lone : {A : Type 0} (P : A → Type 0) (x : A) (words : List Word) → P x → IfAnswered P (alone x words)
lone P x [] h = h
lone P x (word ∷ words) h = tt
