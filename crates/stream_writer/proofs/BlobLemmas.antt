-- A blob's lines, its bytes and their LF are its text.
use Rattle.std.proofs.Common.{◌≡◌, ℕ, ◌^◌, ◌<◌, ◌++◌, length, ap, sym, subst, ◌∙◌, append_assoc}
use Rattle.std.specs.Prelude.{codes, decimal}
use Rattle.field_laws.proofs.Decimals.{decimal_of_is}
use Rattle.plain_model.specs.Paths.{Bytes}
use Rattle.plain_model.specs.Text.{line, marked}
use Rattle.surgeon_store.specs.Outside.{SinkState, Puts, PutsSome}
use Rattle.stream_writer.specs.Parts.{blob_head, blob_text}
use Rattle.stream_writer.specs.Sending.{SendsFirst}
use Rattle.stream_writer.proofs.SendingLemmas.{puts_both, puts_front, puts_one_and_part, puts_whole}

pub blob_is : (mark : ℕ) (bytes : Bytes) → length bytes < 10 ^ 64 → blob_text mark bytes ≡ blob_head mark (length bytes) ++ line bytes
blob_is mark bytes fits =
    rw (decimal_of_is (length bytes) fits) (sym (append_assoc (line (codes "blob") ++ line (codes "mark " ++ marked mark)) (line (codes "data " ++ decimal (length bytes))) (line bytes)))

-- what is gathered is sent with the lines of a blob, then its bytes; an end is left
module _ (old mid new : SinkState) (before text head bytes end gathered : Bytes) (its : text ≡ head ++ (bytes ++ end)) (is : gathered ≡ before ++ head) where
  parts : before ++ text ≡ (gathered ++ bytes) ++ end
  parts = ap (λ (l : Bytes). before ++ l) its ∙ sym (ap (λ (l : Bytes). (l ++ bytes) ++ end) is ∙ append_assoc (before ++ head) bytes end ∙ append_assoc before head (bytes ++ end))

  pub lines_broken : PutsSome old gathered mid → PutsSome old (before ++ text) mid
  lines_broken part = subst (λ (l : Bytes). PutsSome old l mid) (sym (parts ∙ append_assoc gathered bytes end)) (puts_front old mid gathered (bytes ++ end) part)

  pub bytes_broken : Puts old gathered mid → PutsSome mid bytes new → PutsSome old (before ++ text) new
  bytes_broken put part = subst (λ (l : Bytes). PutsSome old l new) (sym parts) (puts_one_and_part old mid new gathered bytes put end part)

  pub end_left : Puts old gathered mid → Puts mid bytes new → SendsFirst old (before ++ text) new end
  end_left put last = (gathered ++ bytes, parts, puts_both old mid new gathered bytes put last)

  pub all_but_end : Puts old gathered mid → Puts mid bytes new → PutsSome old (before ++ text) new
  all_but_end put last = bytes_broken put (puts_whole mid new bytes last)
