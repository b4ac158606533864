use Rattle.std.proofs.Common.{◌≡◌, ◌∙◌, true, cond, List, ℕ, Bor, ap, sym}
use Rattle.std.specs.List.{list_any}
use Rattle.std.specs.Prelude.{bytes_eq}
use Rattle.byte_sets.proofs.Sets.{any_mapped, or_cond, turned}
use Rattle.byte_sets.proofs.set.ByteSet.add.Goals as goal

pub returns : goal.returns
returns c p =
    let text = c.args.text.now in
    let now : Bor (List ℕ) → List ℕ = λ key. key.now in
    let old_is : list_any (λ (key : Bor (List ℕ)). bytes_eq p key.now) c.self.inside.set.keys ≡ list_any (bytes_eq p) c.args.self.now =
    sym (any_mapped now (bytes_eq p) c.self.inside.set.keys) ∙ ap (list_any (bytes_eq p)) c.self.view_is in
    any_mapped now (bytes_eq p) c.insert.new.self.keys
    ∙ c.in_ok-insert.ensures.updates.0 (record { ref_ptr = c.args.text.ref_ptr; now = p })
    ∙ (λ i. cond (turned text p i) true (old_is i))
    ∙ or_cond (bytes_eq p text) (list_any (bytes_eq p) c.args.self.now)
