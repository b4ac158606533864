use Rattle.std.proofs.Common.{◌≡◌, ◌+◌, Bool, Ok, length, refl, subst}
use Rattle.graft_laws.specs.Graft.{graft_of}
use Rattle.graft_laws.specs.Joining.{without_passes}
use Rattle.script_reader.specs.declared.command.Command.TheVariants as command
use Rattle.history_machine.specs.Sessions.{with_remade}
use Rattle.history_machine.specs.Several.{after_joining, grafted_with}
use Rattle.history_machine.specs.Steps.{carried}
use Rattle.history_machine.proofs.Changes.{numbered}
use Rattle.history_machine.proofs.Joined.{changed_to, joined}
use Rattle.history_machine.proofs.JoinedNames.{other_chosen}
use Rattle.history_machine.proofs.Ready.{chosen_lawful, one_found, ready_live, ready_once}
use Rattle.history_machine.proofs.Selections.{selection_of}
use Rattle.history_machine.proofs.Steps.{with_its_subject}
use Rattle.history_machine.proofs.laws.a_graft_keeps_trees.Goals as goal

pub returns : goal.returns
unfolding carried
returns c = λ denial s files selection name prune t h lawful.
    let what = command.Graft selection name prune in
    let done = with_its_subject denial s files what t h in
    let ids = done.0.ids in
    let did = changed_to (after_joining s name (λ part. grafted_with prune part ids)) t done.1 in
    let its = joined s name (λ part. grafted_with prune part ids) t.session did in
    let old = its.0 in
    let part = its.1 in
    let made = its.2 in
    let once = ready_once c.sound_histories_are_such.ensures.ids c.selections_are_without_repeats.ensures denial s what done.0 lawful done.2 in
    let lives = ready_live c.selections_are_live.ensures c.sound_histories_are_such.ensures.tips denial s what done.0 lawful done.2 in
    let selection = selection_of old.history ids once (lives old its.3) in
    let base = chosen_lawful s old its.3 lawful in
    let other = one_found name part s.repos lawful.repos its.4 in
    let is = (numbered (old.next + length (without_passes part.history)) (graft_of prune old.next part.name part.history ids old.history) made its.5).0 in
    record {
      old = old;
      part = part;
      new = with_remade old made;
      is_chosen = its.3;
      is_part = its.4;
      another = other_chosen s name (λ part. grafted_with prune part ids) old t.session its.3 did;
      own_name = refl;
      base = c.a_graft_keeps_the_base.ensures.base prune old.next part.name part.history ids old.history made.history base.history.sound other.history.sound base.spent selection is;
      pruned = λ p.
          c.a_pruned_graft_keeps_trees.ensures old.next part.name part.history ids old.history made.history base.history.sound other.history.sound base.spent selection
          (subst (λ (b : Bool). graft_of b old.next part.name part.history ids old.history ≡ Ok made.history) p is);
      came = λ id there. c.a_graft_has_no_other_events.ensures prune old.next part.name part.history ids old.history made.history id other.history.sound is there;
      rest = its.6;
    }
