-- Lists that are linked alike: what is near a set in one is near it in the other.
use Rattle.std.proofs.Common.{◌≡◌, ◌∙◌, ℕ, zero, suc, Bool, false, ◌||◌, List, [], ◌∷◌, Some, refl, sym, ap, length, map, arith}
use Rattle.std.specs.List.{list_any}
use Rattle.std.specs.Option.{option_map_or}
use Rattle.std.specs.Prelude.{slice_get}
use Rattle.std.proofs.lemmas.List.{length-map}
use Rattle.std.proofs.lemmas.Option.{none-some, same_Some}
use Rattle.plain_model.specs.declared.id.AnyId.{AnyId}
use Rattle.plain_model.specs.declared.event.PlainEvent.{PlainEvent}
use Rattle.plain_model.specs.Lookups.{is_listed, place_of}
use Rattle.graph_walk.specs.Flags.{FlagsOf}
use Rattle.squash_laws.specs.Removed.{is_removed}
use Rattle.plan_steps.specs.Near.{AreLinkedAlike, ArePlacesNear, AreReadyNear, Link, is_near, link_of}

-- the event of a list at a place, where one of the same links stands there in another
record IsAlikeAt (events : List PlainEvent) (k : ℕ) (d : PlainEvent) : Type 0 where
  pub event : PlainEvent
  pub at : slice_get events k ≡ Some event
  pub same : link_of event ≡ link_of d

parts : (a b : Link) (xs ys : List Link) → a ∷ xs ≡ b ∷ ys → (a ≡ b) × (xs ≡ ys)
parts a b xs ys h = (cc, cc)

alike_at : (old new : List PlainEvent) → AreLinkedAlike old new → (k : ℕ) (d : PlainEvent) → slice_get new k ≡ Some d → IsAlikeAt old k d
alike_at old [] alike k d at = absurd (none-some d at)
alike_at [] (y ∷ new) alike k d at = absurd cc
alike_at (x ∷ old) (y ∷ new) alike zero d at =
    record { event = x; at = refl; same = sym (parts (link_of y) (link_of x) (map link_of new) (map link_of old) alike).0 ∙ ap link_of (same_Some y d at) }
alike_at (x ∷ old) (y ∷ new) alike (suc k) d at =
    let rest = alike_at old new (parts (link_of y) (link_of x) (map link_of new) (map link_of old) alike).1 k d at in
    record { event = rest.event; at = rest.at; same = rest.same }

long_alike : (old new : List PlainEvent) → AreLinkedAlike old new → length new ≡ length old
long_alike old new alike = sym (length-map new link_of) ∙ ap length alike ∙ length-map old link_of

-- whether an event is near hangs on its links alone
abbrev near_link : List AnyId → Link → Bool
near_link set l = is_listed l.id set || (list_any (is_removed set) l.parents || option_map_or (is_removed set) l.target false)

near_alike : (set : List AnyId) (e d : PlainEvent) → link_of e ≡ link_of d → is_near set e ≡ is_near set d
near_alike set e d same = ap (near_link set) same

module _ (old new : List PlainEvent) (alike : AreLinkedAlike old new) (set : List AnyId) where
  pub flags_alike : (flags : List Bool) → FlagsOf old set flags → FlagsOf new set flags
  flags_alike flags f = record {
    count = f.count ∙ sym (long_alike old new alike);
    flag = λ k d at. let x = alike_at old new alike k d at in f.flag k x.event x.at ∙ ap (λ (l : Link). is_listed l.id set) x.same;
  }

  pub places_alike : (places : List ℕ) → ArePlacesNear set old places → ArePlacesNear set new places
  places_alike places p = record {
    rising = p.rising;
    within = λ i low. let within = p.within i low in let long = long_alike old new alike in omega arith;
    apart = λ k d at none. let x = alike_at old new alike k d at in sym (near_alike set x.event d x.same) ∙ p.apart k x.event x.at none;
  }

  pub ready_alike : (left : List PlainEvent) → AreReadyNear set old left → AreReadyNear set new left
  ready_alike left ready k p e d at near there here =
      let x = alike_at old new alike k e at in
      ready k p x.event d x.at (near_alike set x.event e x.same ∙ near) (ap (λ (l : Link). place_of l.id left) x.same ∙ there) here
