-- What holds of an answer.
use Rattle.std.specs.Prelude.{Result, Ok, Err, OnOk}

-- what follows of a call that is done
pub on_ok : {T E : Type 0} (r : Result T E) (P Q : Type 0) → (P → Q) → OnOk r P → OnOk r Q
on_ok (Ok x) P Q f h = f h
on_ok (Err e) P Q f h = tt
