-- Bytes that a reader takes, one after another.
use Rattle.std.proofs.Common.{◌≡◌, ℕ, [], ◌∷◌, ◌++◌, Option, Some, None, ◌∙◌, ap}
use Rattle.plain_model.specs.Paths.{Bytes}
use Rattle.selection_parser.specs.Reading.{Reader, Next, step}
use Rattle.selection_parser.specs.Reading.Next.{Goes, Ends, Stops}

-- the reader after a byte, if it takes it
abbrev pub gone : Next → Option Reader
gone (Goes r) = Some r
gone (Ends x) = None
gone Stops = None

abbrev pub onto : Option Reader → (Reader → Option Reader) → Option Reader
onto (Some r) f = f r
onto None f = None

-- the reader after bytes, if it takes all of them
abbrev pub run : Reader → Bytes → Option Reader
run r [] = Some r
run r (b ∷ bs) = onto (gone (step r b)) (λ next. run next bs)

pub run_goes : (r next : Reader) (b : ℕ) (bs : Bytes) → step r b ≡ Goes next → run r (b ∷ bs) ≡ run next bs
run_goes r next b bs h = ap (λ s. onto (gone s) (λ n. run n bs)) h

after : (s : Next) (f g : Reader → Option Reader) (mid : Reader) (goal : Option Reader)
    → ((n : Reader) → f n ≡ Some mid → g n ≡ goal) → onto (gone s) f ≡ Some mid → onto (gone s) g ≡ goal
after (Goes n) f g mid goal ih h = ih n h
after (Ends x) f g mid goal ih h = absurd cc
after Stops f g mid goal ih h = absurd cc

pub run_append : (r mid : Reader) (x y : Bytes) → run r x ≡ Some mid → run r (x ++ y) ≡ run mid y
run_append r mid [] y h = let same : r ≡ mid = cc in ap (λ s. run s y) same
run_append r mid (b ∷ bs) y h =
    after (step r b) (λ n. run n bs) (λ n. run n (bs ++ y)) mid (run mid y) (λ n. run_append n mid bs y) h

-- two runs, one after the other
pub run_joined : (r mid last : Reader) (x y : Bytes) → run r x ≡ Some mid → run mid y ≡ Some last → run r (x ++ y) ≡ Some last
run_joined r mid last x y h k = run_append r mid x y h ∙ k

-- a run, and one byte more
pub run_push : (r mid next : Reader) (x : Bytes) (b : ℕ) → run r x ≡ Some mid → step mid b ≡ Goes next
    → run r (x ++ b ∷ []) ≡ Some next
run_push r mid next x b h k = run_append r mid x (b ∷ []) h ∙ run_goes mid next b [] k
