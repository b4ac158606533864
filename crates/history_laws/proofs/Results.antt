-- What holds of an answer.
use Rattle.std.specs.Prelude.{Result, Ok, Err, OnErr}

-- what holds anyway holds of a refused call
pub on_err : {X E : Type 0} (r : Result X E) (P : Type 0) → P → OnErr r P
on_err (Ok x) P h = tt
on_err (Err e) P h = h
