-- The commits of a history that become tags, and the one in the place of each.
use Rattle.std.specs.Prelude.{◌≡◌, ℕ, List, Option}
use Rattle.plain_model.specs.declared.id.AnyId.{AnyId}
use Rattle.plan_steps.specs.Chosen.{Chosen}
use Rattle.plan_steps.specs.Ways.{AreBack}
use Rattle.tagify_laws.specs.Tagify.{tagged}

-- these are the selected commits that do nothing, and for each place of a commit the way back from it is known
pub record AreFound (selection : Chosen) (ids : List AnyId) (bases : List (Option ℕ)) : Type 0 where
  pub commits : ids ≡ tagged selection.set selection.events
  pub back : AreBack (tagged selection.set selection.events) selection.events bases
