-- What is kept by one command after another.
use Rattle.std.proofs.Common.{◌≡◌, List, [], ◌∷◌, map, sym, ap, ◌∙◌}
use Rattle.plain_model.specs.declared.id.AnyId.{AnyId}
use Rattle.plain_model.specs.declared.id.AnyId.TheVariants as any
use Rattle.plain_model.specs.Lookups.{is_listed}
use Rattle.plain_model.specs.Soundness.{has_id}
use Rattle.selection_eval.proofs.SoundLaws.{has_listed}
use Rattle.history_machine.specs.Kept.{Each, KeepsEveryTree, KeepsIdsAndTrees, KeepsTreesOfRest}
use Rattle.history_machine.specs.Sessions.{Repo}

pub every_of_all : (old new : Repo) → KeepsIdsAndTrees old new → KeepsEveryTree old new
every_of_all old new k = record {
  rest = record {
    name = k.name;
    next = k.next;
    names = ap (map (λ n. n.0)) k.names;
    ids = λ id there. sym (same id) ∙ there;
    trees = λ c there. k.trees c;
  };
  commits = λ c there. same (any.Commit c) ∙ there;
}
  where
    same : (id : AnyId) → has_id new.history id ≡ has_id old.history id
    same id = has_listed new.history id ∙ ap (is_listed id) k.ids ∙ sym (has_listed old.history id)

pub rest_in_turn : (first second third : Repo) → KeepsTreesOfRest first second → KeepsTreesOfRest second third → KeepsTreesOfRest first third
rest_in_turn first second third k l = record {
  name = l.name ∙ k.name;
  next = l.next ∙ k.next;
  names = l.names ∙ k.names;
  ids = λ id there. k.ids id (l.ids id there);
  trees = λ c there. l.trees c there ∙ k.trees c (l.ids (any.Commit c) there);
}

pub every_in_turn : (first second third : Repo) → KeepsEveryTree first second → KeepsEveryTree second third → KeepsEveryTree first third
every_in_turn first second third k l = record {
  rest = rest_in_turn first second third k.rest l.rest;
  commits = λ c there. l.commits c (k.commits c there);
}

-- what each repository keeps that keeps more
pub each_less : (Keeps KeepsLess : Repo → Repo → Type 0) → ((old new : Repo) → Keeps old new → KeepsLess old new) → (old new : List Repo) → Each Keeps old new
    → Each KeepsLess old new
each_less Keeps KeepsLess less [] [] k = tt
each_less Keeps KeepsLess less [] (s ∷ ss) k = k
each_less Keeps KeepsLess less (r ∷ rs) [] k = k
each_less Keeps KeepsLess less (r ∷ rs) (s ∷ ss) k = (less r s k.0, each_less Keeps KeepsLess less rs ss k.1)

-- what is kept in turn of one is so of each
pub each_in_turn : (Keeps : Repo → Repo → Type 0) → ((first second third : Repo) → Keeps first second → Keeps second third → Keeps first third)
    → (first second third : List Repo) → Each Keeps first second → Each Keeps second third → Each Keeps first third
each_in_turn Keeps turn [] [] [] k l = tt
each_in_turn Keeps turn [] [] (t ∷ ts) k l = l
each_in_turn Keeps turn [] (s ∷ ss) third k l = absurd k
each_in_turn Keeps turn (r ∷ rs) [] third k l = absurd k
each_in_turn Keeps turn (r ∷ rs) (s ∷ ss) [] k l = l
each_in_turn Keeps turn (r ∷ rs) (s ∷ ss) (t ∷ ts) k l = (turn r s t k.0 l.0, each_in_turn Keeps turn rs ss ts k.1 l.1)
