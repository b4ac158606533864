use Rattle.std.proofs.Common.{arith, refl, subst}
use Rattle.shown_laws.specs.Showing.{IsShownBy}
use Rattle.shown_laws.specs.Worked.{root_on_a_tip}
use Rattle.shown_laws.proofs.Rows.{is_read, is_sound, is_written}
use Rattle.shown_laws.proofs.worked.a_root_on_a_tip_is_written_after_a_reset.Goals as goal

pub returns : goal.returns
returns c = record {
  sound = is_sound;
  never_read = λ h. let place = h.placed.1.1.0 in absurd (omega arith);
  written = is_written;
  again = refl;
  read = is_read;
  shown = subst (λ bytes. IsShownBy bytes root_on_a_tip) is_written (c.what_is_written_shows_the_history.ensures root_on_a_tip is_sound);
}
