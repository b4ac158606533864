-- How far a block of data goes, and where it ends in a text.
use Rattle.std.specs.Prelude.{◌≡◌, ◌⊎◌, ℕ, ◌+◌, ◌≤◌, ◌<◌, ◌∷◌, ◌++◌, length, take, drop, Result, Ok, Err, IsTrue}
use Rattle.plain_model.specs.declared.fault.Why.{Why}
use Rattle.plain_model.specs.Fields.{Extent as Said}
use Rattle.plain_model.specs.Fields.Extent.{Counted, Delimited}
use Rattle.plain_model.specs.Paths.{Bytes}
use Rattle.plain_model.specs.Parts.{has_no_lf}
use Rattle.stream_fields.specs.declared.data.Extent.{Extent}
use Rattle.stream_fields.specs.declared.data.Extent.TheVariants as kind

-- so many bytes are the first line of a text, and so many are before what follows it
pub record IsFirstLine (text : Bytes) (size next : ℕ) : Type 0 where
  pub plain : IsTrue (has_no_lf (take size text))
  pub within : size ≤ length text
  pub ends : ((next ≡ size + 1) × (text ≡ take size text ++ 10 ∷ drop next text)) ⊎ ((next ≡ length text) × (size ≡ length text))

-- so many bytes are the block, and so many are before what follows it; or there is a defect
abbrev pub EndsAt : Bytes → Result (ℕ × ℕ) Why → Result (Bytes × Bytes) Why → Type 0
EndsAt text (Ok x) block = (block ≡ Ok (take x.0 text, drop x.1 text)) × (x.0 ≤ length text) × (x.1 ≤ length text)
EndsAt text (Err why) block = block ≡ Err why

-- how far a line says that a block goes, where a count is at most so great; or the line's defect
abbrev pub SaysExtent : ℕ → Result Extent Why → Result Said Why → Type 0
SaysExtent most (Ok (kind.Counted n)) extent = (extent ≡ Ok (Counted n)) × (n ≤ most)
SaysExtent most (Ok kind.Longer) extent = (n : ℕ) × (most < n) × (extent ≡ Ok (Counted n))
SaysExtent most (Ok (kind.Delimited d)) extent = (extent ≡ Ok (Delimited d.now)) × (1 ≤ length d.now)
SaysExtent most (Err why) extent = extent ≡ Err why
