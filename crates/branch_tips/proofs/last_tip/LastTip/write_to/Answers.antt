use Rattle.std.proofs.Common.{◌≡◌, ◌∙◌, ap, sym, is_some, true≢false, Some, None}
use Rattle.std.specs.Prelude.{option_map}
use Rattle.std.specs.Option.{option_copied_mut}
use Rattle.plain_model.specs.Trees.{at}
use Rattle.branch_tips.specs.Entries.{tips_in, tips_with, is_among}
use Rattle.branch_tips.proofs.TipEntries.{at_tips, set_tips}
use Rattle.branch_tips.proofs.last_tip.LastTip.write_to.Goals as goal
use Rattle.branch_tips.proofs.last_tip.LastTip.write_to.Goals.{in-Some+in-Some-get_mut, in-Some+in_default-get_mut, in_default}

pub returns-clause-tips : goal.returns-clause-tips
returns-clause-tips c =
    let tips = tips_in c.args.by_branch.now.entries in
    let branch = c.self.inside.branch.items in
    elim c.match-take.branch [
      | in-Some+in-Some-get_mut w ↦
          let last : c.args.self.now ≡ Some (branch, w.in-Some.tip) = sym c.self.view_is ∙ ap (option_map (λ tip. (branch, tip))) (sym w.in-Some.ensures.value) in
          let found = ap is_some (sym w.get_mut.ensures.value) ∙ ap (λ r. is_some (option_copied_mut r)) w.in-Some-get_mut.is in
          ap (λ m. tips_in m.entries) w.by_branch-is
          ∙ ap tips_in (w.get_mut.follows.holds w.in-Some.tip).0
          ∙ set_tips w.as_slice.result.now w.in-Some.tip c.args.by_branch.now.entries c.requires.in_order found
          ∙ ap (λ b. tips_with (Some (b, w.in-Some.tip)) tips) w.as_slice.ensures.value
          ∙ ap (λ l. tips_with l tips) (sym last)
      | in-Some+in_default-get_mut w ↦
          let last : c.args.self.now ≡ Some (branch, w.in-Some.tip) = sym c.self.view_is ∙ ap (option_map (λ tip. (branch, tip))) (sym w.in-Some.ensures.value) in
          let none : at tips branch ≡ None =
          ap (at tips) (sym w.as_slice.ensures.value) ∙ sym (at_tips w.as_slice.result.now c.args.by_branch.now.entries)
          ∙ sym w.get_mut.ensures.value ∙ ap option_copied_mut w.in_default-get_mut.is in
          absurd (true≢false (sym c.requires.among ∙ ap (λ l. is_among l tips) last ∙ ap is_some none))
      | in_default w ↦
          let last : c.args.self.now ≡ None = sym c.self.view_is ∙ ap (option_map (λ tip. (branch, tip))) (sym w.in_default.ensures.value) in
          ap (λ m. tips_in m.entries) w.by_branch-is ∙ ap (λ l. tips_with l tips) (sym last)
    ]
