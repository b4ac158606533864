use Rattle.std.proofs.Common.{◌≡◌, ◌++◌, drop}
use Rattle.std.specs.Prelude.{flat_map}
use Rattle.history_machine.specs.Sessions.{Repo, repo_line}
use Rattle.surgeon_session.proofs.session.Session.load_list_text.Given as goal

abbrev pub invariant-loop-place : goal.invariant-loop-place
invariant-loop-place l =
    l.text ++ flat_map (λ (r : Repo). repo_line l.self.choice r.name) (drop l.place l.self.repos) ≡ flat_map (λ (r : Repo). repo_line l.self.choice r.name) l.self.repos
