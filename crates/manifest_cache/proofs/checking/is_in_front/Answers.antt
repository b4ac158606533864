use Rattle.std.proofs.Common.{◌≡◌, ◌<◌, ℕ, true, nat_lt, sym, arith}
use Rattle.std.proofs.lemmas.Bool.Decides.{nat_tests}
use Rattle.plain_model.specs.declared.id.AnyId.TheVariants.{Commit}
use Rattle.manifest_cache.proofs.Prefixes.{found_in_front}
use Rattle.manifest_cache.proofs.checking.is_in_front.Goals as goal

less : (j k : ℕ) → nat_lt j k ≡ true → j < k
less j k h = grind (arith, nat_tests)

pub returns-in-Some : goal.returns-in-Some
returns-in-Some c = λ test.
    found_in_front c.args.plan.now.after c.args.front c.in-Some.place (Commit c.args.commit) c.requires (sym c.in-Some.ensures.place) (less c.in-Some.place c.args.front test)
