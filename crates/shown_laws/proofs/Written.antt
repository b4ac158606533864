-- What is written of a sound history is read again, as the history with resets before its roots and places as ids, and shows
-- what the history shows.
use Rattle.std.proofs.Common.{◌≡◌, ℕ, Bool, List, [], ◌++◌, map, refl, sym, ap, subst, ◌∙◌, Option, Some, None}
use Rattle.std.specs.Prelude.{◌↔◌, IsSome, option_map, if◌then◌else◌, codes}
use Rattle.plain_model.specs.declared.id.AnyId.TheVariants as any
use Rattle.plain_model.specs.declared.event.PlainEvent.{PlainEvent}
use Rattle.plain_model.specs.Paths.{Bytes}
use Rattle.plain_model.specs.Trees.{TreeOf}
use Rattle.plain_model.specs.Histories.{tree}
use Rattle.plain_model.specs.Snapshots.{commit_mark, map_tree, refs, shown, shown_commits, shown_tags, shown_tree, snapshot}
use Rattle.plain_model.specs.Soundness.{IsCommitOf, IsSound}
use Rattle.plain_model.specs.Text.{end_text, line, text, text_from}
use Rattle.stream_grammar.specs.Lines.{history_in}
use Rattle.replay_laws.specs.Replay.{replay_in}
use Rattle.round_trip_laws.specs.AsRead.{IsAsRead}
use Rattle.shown_laws.specs.AsWritten.{as_written, with_resets}
use Rattle.production_laws.specs.Streams.{IsStreamOf}
use Rattle.shown_laws.specs.Showing.{IsShownBy}
use Rattle.shown_laws.proofs.Known.{AreFitAfter, AreKnown, all_known, fit_with_resets, formed_with_resets, known_with_resets}
use Rattle.shown_laws.proofs.Places.{Agree, blob_mark_under, bytes_under, commit_mark_under, one_place, placed, promise_under}
use Rattle.shown_laws.proofs.Resets.{blob_mark_same, blob_same, bytes_same, commit_mark_same, commit_same, commits_same, nodes_same, promise_same, refs_same, resets_root, tags_same, text_from_same}
use Rattle.shown_laws.proofs.Seen.{IsSeenAlike, commits_alike, nodes_under, refs_alike, rooted_alike, shown_alike, tags_alike, text_alike, under_node}
use Rattle.shown_laws.proofs.Sound.{came_from, formed_under, places_agree, rooted_after, sound_under}
use Rattle.history_laws.specs.Finding.{event_number}

module _ (h : List PlainEvent) (sound : IsSound h) where
  abbrev g : List PlainEvent
  g = with_resets h

  abbrev blob_to : ℕ → ℕ
  blob_to b = event_number g (any.Blob b)

  abbrev commit_to : ℕ → ℕ
  commit_to c = event_number g (any.Commit c)

  fit : AreFitAfter [] g
  fit = fit_with_resets [] h sound.formed

  agree : Agree blob_to commit_to 1 g
  agree = places_agree g fit

  all_there : AreKnown h h
  all_there = all_known h sound.formed

  known : AreKnown h g
  known = known_with_resets h [] h all_there

  alike : IsSeenAlike blob_to commit_to h (as_written h)
  alike = record {
    bytes = λ b is. bytes_under blob_to commit_to 1 b g agree (blob_same b [] h ∙ is) ∙ bytes_same b [] h;
    blob_marks = λ b is. blob_mark_under blob_to commit_to (as_written h) h 1 b g agree (blob_same b [] h ∙ is) ∙ blob_mark_same h b [] h;
    commit_marks = λ c is. commit_mark_under blob_to commit_to 1 c g agree (commit_same c [] h ∙ is) ∙ commit_mark_same c [] h;
    one = λ c d is_c is_d e. one_place blob_to commit_to 1 c d g agree (commit_same c [] h ∙ is_c) (commit_same d [] h ∙ is_d) e;
  }

  -- ---- the text

  pub text_is : text (as_written h) ≡ text h
  text_is =
      ap (λ (l : Bytes). l ++ end_text (as_written h))
      (text_alike blob_to commit_to h (as_written h) alike [] [] refl 1 g agree known ∙ text_from_same h [] h tt)
      ∙ ap (λ (b : Bool). text_from h [] h ++ (if b then line (codes "done") else [])) (promise_under blob_to commit_to 1 g ∙ promise_same [] h)

  -- ---- what is shown

  trees_are : (c : ℕ) → IsCommitOf h c → shown_tree (as_written h) (commit_to c) ≡ shown_tree h c
  trees_are =
      shown_alike blob_to commit_to h (as_written h) alike
      (nodes_under blob_to commit_to h (as_written h) alike 1 g agree ∙ ap (map (under_node blob_to commit_to h (as_written h) alike)) (nodes_same [] h)) all_there

  commits_are : shown_commits (as_written h) (as_written h) ≡ shown_commits h h
  commits_are = commits_alike blob_to commit_to h (as_written h) alike trees_are 1 g agree known ∙ commits_same h [] h

  tags_are : shown_tags (as_written h) (as_written h) ≡ shown_tags h h
  tags_are = tags_alike blob_to commit_to h (as_written h) alike 1 g known ∙ tags_same h [] h

  refs_are : map_tree (commit_mark (as_written h)) (refs (as_written h)) ≡ map_tree (commit_mark h) (refs h)
  refs_are =
      refs_alike blob_to commit_to h (as_written h) alike [] [] refl 1 g agree known
      ∙ ap (λ (t : TreeOf ℕ). map_tree (commit_mark h) t) (refs_same [] h tt)

  pub snapshot_is : snapshot (as_written h) ≡ snapshot h
  snapshot_is = λ i. record { commits = commits_are i; tags = tags_are i; refs = refs_are i }

  -- ---- such as reading gives it

  some_of : {A B : Type 0} (f : A → B) (o : Option A) → IsSome (option_map f o) → IsSome o
  some_of f None is = is
  some_of f (Some x) is = refl

  of_some : {A B : Type 0} (f : A → B) (o : Option A) → IsSome o → IsSome (option_map f o)
  of_some f None is = is
  of_some f (Some x) is = refl

  pub sound_is : IsSound (as_written h)
  sound_is = record {
    formed = sound_under blob_to commit_to g agree fit;
    spelled = formed_under blob_to commit_to 1 g (formed_with_resets [] h sound.spelled);
    trees = λ c is.
        let from = came_from blob_to commit_to 1 c g agree is in
        let there : IsCommitOf h from.commit_id = sym (commit_same from.commit_id [] h) ∙ from.was in
        subst (λ n. IsSome (tree (as_written h) n)) from.is
        (some_of (map_tree (shown (as_written h))) (tree (as_written h) (commit_to from.commit_id))
        (subst IsSome (sym (trees_are from.commit_id there)) (of_some (map_tree (shown h)) (tree h from.commit_id) (sound.trees from.commit_id there))));
  }

pub is_as_read : (h : List PlainEvent) → IsSound h → IsAsRead (as_written h)
is_as_read h w = record {
  sound = sound_is h w;
  placed = placed (blob_to h w) (commit_to h w) 1 (g h w);
  rooted = rooted_after [] (as_written h)
      (rooted_alike (blob_to h w) (commit_to h w) h (as_written h) (alike h w) [] [] refl 1 (g h w) (agree h w) (known h w) (resets_root [] h tt));
}

module _ (again : (events : List PlainEvent) → IsAsRead events → history_in (text events) ≡ Some events) where
  pub written_and_read : (h : List PlainEvent) → IsSound h → history_in (text h) ≡ Some (as_written h)
  written_and_read h w = subst (λ (bytes : Bytes). history_in bytes ≡ Some (as_written h)) (text_is h w) (again (as_written h) (is_as_read h w))

module _
    (again : (events : List PlainEvent) → IsAsRead events → history_in (text events) ≡ Some events)
    (exactly : (bytes : List ℕ) (events : List PlainEvent) → (history_in bytes ≡ Some events) ↔ IsStreamOf bytes events)
    (replayed : (bytes : List ℕ) (events : List PlainEvent) → history_in bytes ≡ Some events → replay_in bytes ≡ Some (snapshot events))
  where
    pub shown_by : (h : List PlainEvent) → IsSound h → IsShownBy (text h) h
    shown_by h w = record {
      history = as_written h;
      spelled = (exactly (text h) (as_written h)).0 (written_and_read again h w);
      written = text_is h w;
      replayed = replayed (text h) (as_written h) (written_and_read again h w) ∙ ap Some (snapshot_is h w);
    }
