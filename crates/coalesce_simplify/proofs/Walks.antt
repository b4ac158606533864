-- The joined commits before one, walked from the newest to the oldest.
use Rattle.std.proofs.Common.{◌≡◌, ◌∙◌, ℕ, ◌+◌, ◌<◌, ◌≤◌, Bool, true, false, cond, List, [], ◌∷◌, ◌++◌, flat_map, map, reverse, Option, Some, None, refl, sym, ap, arith, append_assoc, append-nil, true≢false}
use Rattle.std.proofs.lemmas.Bool.{or_parts}
use Rattle.std.proofs.lemmas.List.{reverse-append}
use Rattle.std.proofs.lemmas.Option.{none-some, same_Some}
use Rattle.std.specs.Option.{option_map_or}
use Rattle.std.specs.Prelude.{◌&&◌, ◌==◌, is_some, slice_get}
use Rattle.plain_model.specs.declared.id.AnyId.{AnyId}
use Rattle.plain_model.specs.declared.id.AnyId.TheVariants as any
use Rattle.plain_model.specs.declared.event.PlainEvent.{PlainEvent}
use Rattle.plain_model.specs.Histories.{Node, Past, knows, past}
use Rattle.plain_model.specs.Lookups.{event_ops, event_parents, find_event, place_of}
use Rattle.plain_model.specs.Soundness.{IsSound, has_id}
use Rattle.plain_model.specs.declared.operation.FileOp.{FileOp}
use Rattle.history_laws.specs.FirstParents.{ops_along}
use Rattle.ancestry_laws.proofs.Pasts.{known_past, linked_past}
use Rattle.history_laws.proofs.SoundOnce.{has_id_find, sound_once}
use Rattle.edit_laws.specs.Removal.{chain}
use Rattle.edit_laws.proofs.Chains.{chain_other}
use Rattle.edit_laws.proofs.Following.{chain_at, chain_none}
use Rattle.graph_walk.proofs.PlaceLemmas.{place_found}
use Rattle.manifest_cache.specs.Walks.{ops_at}
use Rattle.squash_laws.specs.Removed.{is_removed}
use Rattle.squash_laws.specs.Takings.{links}
use Rattle.plan_steps.specs.Depths.{depth, parents_at}
use Rattle.plan_steps.proofs.Depths.{depth_at, depth_before, links_nil}
use Rattle.plan_steps.proofs.NodeLemmas.{found_at, found_node, node_of}
use Rattle.plan_steps.proofs.WayLemmas.{first_known}
use Rattle.coalesce_laws.specs.Remaining.{parents_of_oldest}
use Rattle.coalesce_simplify.specs.Joining.{commit_node, first_joined}

-- nothing is before a commit that isn't known
chain_lost : (removed : ℕ → Bool) (a : Past) (p : ℕ) (ps : List ℕ) → knows a p ≡ false → chain removed a (p ∷ ps) ≡ []
chain_lost removed [] p ps h = refl
chain_lost removed (n ∷ older) p ps h =
    let parts = or_parts (n.id == p) (knows older p) h in
    chain_other removed n older p ps parts.0 ∙ chain_lost removed older p ps parts.1

module _ (set : List AnyId) (events : List PlainEvent) where
  -- a joined commit with those before it
  abbrev pub links_to : Option ℕ → List Node
  links_to None = []
  links_to (Some p) = links set events (parents_at events p) ++ commit_node events p ∷ []

  joined_is : (b : Bool) (p : ℕ) (ps : List ℕ) → has_id events (any.Commit p) && is_removed set p ≡ b → first_joined set events (p ∷ ps) ≡ cond b (Some p) None
  joined_is b p ps h = ap (λ x. cond x (Some p) None) h

  -- a parent that is joined is there
  pub first_there : (ps : List ℕ) (q : ℕ) → first_joined set events ps ≡ Some q → (has_id events (any.Commit q) ≡ true) × (slice_get ps 0 ≡ Some q)
  first_there [] q h = absurd (none-some q h)
  first_there (p ∷ ps) q h = go (has_id events (any.Commit p)) (is_removed set p) refl h
    where
      go : (a b : Bool) → has_id events (any.Commit p) ≡ a → cond (a && b) (Some p) None ≡ Some q → (has_id events (any.Commit q) ≡ true) × (slice_get (p ∷ ps) 0 ≡ Some q)
      go true true known is = (ap (λ x. has_id events (any.Commit x)) (sym (same_Some p q is)) ∙ known, is)
      go true false known is = absurd (none-some q is)
      go false b known is = absurd (none-some q is)

  -- some commits, the newest first, and what is before them
  pub record IsOn (parents : List ℕ) (at : Option ℕ) (walk : List ℕ) : Type 0 where
    pub whole : links set events parents ≡ links_to at ++ map (commit_node events) (reverse walk)
    pub there : (d : ℕ) → at ≡ Some d → has_id events (any.Commit d) ≡ true

  module _ (h : IsSound events) where
    found_parts : (p : ℕ) (e : PlainEvent) → find_event (any.Commit p) events ≡ Some e → node_of p e ≡ commit_node events p
    found_parts p e is =
        λ i. record { id = p; parents = option_map_or event_parents (sym is i) []; ops = option_map_or event_ops (sym is i) [] }

    -- the joined ones before a commit begin with its first parent, if that is joined
    pub first_links : (ps : List ℕ) → links set events ps ≡ links_to (first_joined set events ps)
    first_links [] = links_nil set events
    first_links (p ∷ ps) = go (find_event (any.Commit p) events) refl (is_removed set p) refl
      where
        go : (o : Option PlainEvent) → find_event (any.Commit p) events ≡ o → (b : Bool) → is_removed set p ≡ b → links set events (p ∷ ps) ≡ links_to (first_joined set events (p ∷ ps))
        go None absent b flag =
            let lost : has_id events (any.Commit p) ≡ false = has_id_find events (any.Commit p) ∙ ap is_some absent in
            chain_lost (is_removed set) (past events) p ps (known_past events p ∙ lost)
            ∙ sym (ap links_to (joined_is false p ps (ap (λ x. x && is_removed set p) lost)))
        go (Some e) found false flag =
            let known : has_id events (any.Commit p) ≡ true = has_id_find events (any.Commit p) ∙ ap is_some found in
            chain_none (is_removed set) (past events) p ps flag
            ∙ sym (ap links_to (joined_is false p ps (ap (λ x. x && is_removed set p) known ∙ flag)))
        go (Some e) found true flag =
            let known : has_id events (any.Commit p) ≡ true = has_id_find events (any.Commit p) ∙ ap is_some found in
            let own = found_parts p e found in
            chain_at (is_removed set) (past events) (linked_past events h) p ps (node_of p e) (found_node events h p e found) flag
            ∙ ap (λ (n : Node). links set events n.parents ++ n ∷ []) own
            ∙ sym (ap links_to (joined_is true p ps (ap (λ x. x && is_removed set p) known ∙ flag)))

    pub walk_begins : (ps : List ℕ) → IsOn ps (first_joined set events ps) []
    walk_begins ps = record {
      whole = first_links ps ∙ sym (append-nil (links_to (first_joined set events ps)));
      there = λ d is. (first_there ps d is).0;
    }

    pub walk_goes_on : (parents walk : List ℕ) (d : ℕ) → IsOn parents (Some d) walk → IsOn parents (first_joined set events (parents_at events d)) (walk ++ d ∷ [])
    walk_goes_on parents walk d w =
        let next = first_joined set events (parents_at events d) in
        let turned : reverse (walk ++ d ∷ []) ≡ d ∷ reverse walk = reverse-append walk (d ∷ []) in
        record {
          whole =
              w.whole
              ∙ append_assoc (links set events (parents_at events d)) (commit_node events d ∷ []) (map (commit_node events) (reverse walk))
              ∙ ap (λ (l : List Node). l ++ (commit_node events d ∷ map (commit_node events) (reverse walk))) (first_links (parents_at events d))
              ∙ ap (λ ds. links_to next ++ map (commit_node events) ds) (sym turned);
          there = λ q is. (first_there (parents_at events d) q is).0;
        }

    -- the next commit stands before the last one
    pub shallower : (d : ℕ) → has_id events (any.Commit d) ≡ true → option_map_or (depth events) (first_joined set events (parents_at events d)) 0 < depth events d
    shallower d known = go (find_event (any.Commit d) events) refl
      where
        go : (o : Option PlainEvent) → find_event (any.Commit d) events ≡ o → option_map_or (depth events) (first_joined set events (parents_at events d)) 0 < depth events d
        go None absent = absurd (true≢false (sym known ∙ has_id_find events (any.Commit d) ∙ ap is_some absent))
        go (Some e) found =
            let a = found_at events h d e found in
            let once = (sound_once events h).ids in
            let place : place_of (any.Commit d) events ≡ Some a.place = ap (λ id. place_of id events) a.own ∙ (place_found events a.place e a.at once).0 in
            let own = depth_at events d a.place place in
            let parents : parents_at events d ≡ event_parents e = ap (λ (o : Option PlainEvent). option_map_or event_parents o []) found in
            by (first_joined set events (parents_at events d)) refl a.place own
            (λ q is. depth_before events once a.place q (first_known events h a.place q e a.at (ap (λ ps. slice_get ps 0) (sym parents) ∙ (first_there (parents_at events d) q is).1)))
          where
            by : (o : Option ℕ) → first_joined set events (parents_at events d) ≡ o → (k : ℕ) → depth events d ≡ k + 1
                → ((q : ℕ) → first_joined set events (parents_at events d) ≡ Some q → depth events q ≤ k) → option_map_or (depth events) o 0 < depth events d
            by None is k own low = omega arith
            by (Some q) is k own low = let l = low q is in omega arith

  -- ---- what a walk gives

  -- none is before
  pub none_walked : (ns : List Node) (ws : List ℕ) → ns ≡ map (commit_node events) ws → slice_get ws 0 ≡ None → ns ≡ []
  none_walked ns [] is none = is
  none_walked ns (w ∷ ws) is none = absurd (none-some w (sym none))

  -- the operations of all
  pub ops_walked : (ns : List Node) (ws : List ℕ) → ns ≡ map (commit_node events) ws → flat_map (ops_at events) ws ≡ ops_along ns
  ops_walked ns ws is = each ws ∙ ap ops_along (sym is)
    where
      each : (ws : List ℕ) → flat_map (ops_at events) ws ≡ ops_along (map (commit_node events) ws)
      each [] = refl
      each (w ∷ ws) = ap (λ (l : List FileOp). ops_at events w ++ l) (each ws)

  -- the parents of the oldest
  pub parents_walked : (ns : List Node) (ws : List ℕ) (w : ℕ) (ps : List ℕ) → ns ≡ map (commit_node events) ws → slice_get ws 0 ≡ Some w → parents_at events w ≡ parents_of_oldest ns ps
  parents_walked ns [] w ps is first = absurd (none-some w first)
  parents_walked ns (v ∷ ws) w ps is first = ap (parents_at events) (sym (same_Some v w first)) ∙ ap (λ (l : List Node). parents_of_oldest l ps) (sym is)
