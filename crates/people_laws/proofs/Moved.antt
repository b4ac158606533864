-- Dates that move change dates alone, and stay in the range.
use Rattle.std.proofs.Common.{◌≡◌, ℕ, suc, ◌+◌, ◌-◌, ◌≤◌, Bool, true, false, cond, List, map, refl, sym, ap, subst, ◌∙◌, leb-true, Option, Some, None, option_map, Ok, ℤ, pos, negsuc}
use Rattle.std.specs.Prelude.{IfSome, nat_le, unwrap_or}
use Rattle.std.specs.List.{AllByRecursion}
use Rattle.std.proofs.lemmas.Option.{none-some, same_Some}
use Rattle.plain_model.specs.declared.id.AnyId.{AnyId}
use Rattle.plain_model.specs.declared.limit.TheConstants.{MAX_SECONDS}
use Rattle.plain_model.specs.declared.person.Signed.{Signed}
use Rattle.plain_model.specs.declared.person.When.{When}
use Rattle.plain_model.specs.declared.event.PlainEvent.{PlainEvent}
use Rattle.plain_model.specs.declared.event.PlainEvent.TheVariants.{Blob, Commit, Tag, Reset, Pass}
use Rattle.plain_model.specs.Lookups.{id_of, is_listed}
use Rattle.plain_model.specs.Parts.{◌>>=◌}
use Rattle.plain_model.specs.Soundness.{IsFormedSigned, IsSound}
use Rattle.edit_laws.specs.Parts.{IsLawful}
use Rattle.edit_laws.proofs.Sound.{in_parts}
use Rattle.event_arena.specs.Changes.{without_all}
use Rattle.event_fields.specs.Shifts.{IsZone, PlainZone}
use Rattle.field_laws.proofs.Steps.{bind_some}
use Rattle.mailbox_laws.specs.Words.{HaveOtherWords, wordless}
use Rattle.mailbox_laws.proofs.SoundBare.{sound_kept}
use Rattle.mailbox_laws.proofs.Wordless.{words_alike}
use Rattle.people_laws.specs.Alike.{undated, with_people}
use Rattle.people_laws.specs.Dates.{all_dated, at_seconds, dated, dated_in, dated_unless, first_stuck, in_range, moved_by, moved_signed, moved_when, time_offset_of}
use Rattle.people_laws.proofs.Each.{all_still, map_same, others_same}

-- ---- the range

range_is : (n m : ℕ) → in_range n ≡ Some m → m ≤ MAX_SECONDS
range_is n m is = go (nat_le n MAX_SECONDS) refl is
  where
    go : (t : Bool) → nat_le n MAX_SECONDS ≡ t → cond t (Some n) None ≡ Some m → m ≤ MAX_SECONDS
    go true y is = subst (λ k. k ≤ MAX_SECONDS) (same_Some n m is) (leb-true n MAX_SECONDS y)
    go false y is = absurd (none-some m is)

moved_in_range : (seconds : ℤ) (n m : ℕ) → moved_by seconds n ≡ Some m → m ≤ MAX_SECONDS
moved_in_range (pos later) n m is = range_is (n + later) m is
moved_in_range (negsuc earlier) n m is = go (nat_le (suc earlier) n) is
  where
    go : (t : Bool) → cond t (in_range (n - suc earlier)) None ≡ Some m → m ≤ MAX_SECONDS
    go true is = range_is (n - suc earlier) m is
    go false is = absurd (none-some m is)

-- what a map of an option was made of
mapped_is : {A B : Type 0} (f : A → B) (o : Option A) (y : B) → option_map f o ≡ Some y → (x : A) × (o ≡ Some x) × (f x ≡ y)
mapped_is f None y is = absurd (none-some y is)
mapped_is f (Some x) y is = (x, refl, same_Some (f x) y is)

module _ (seconds : ℤ) (zone : Option PlainZone) where
  -- ---- one date

  signed_undated : (who made : Signed) → moved_signed seconds zone who ≡ Some made → undated made ≡ undated who
  signed_undated who made is =
      let m = mapped_is (λ when. (let it : Signed = record who { when = when } in it)) (moved_when seconds zone who.when) made is in
      ap undated (sym m.2)

  signed_formed : IfSome zone IsZone → (who made : Signed) → IsFormedSigned who → moved_signed seconds zone who ≡ Some made
      → IsFormedSigned made
  signed_formed right who made f is =
      let m = mapped_is (λ when. (let it : Signed = record who { when = when } in it)) (moved_when seconds zone who.when) made is in
      let w = mapped_is (at_seconds zone who.when) (moved_by seconds who.when.seconds) m.0 m.1 in
      let low = moved_in_range seconds who.when.seconds w.0 w.1 in
      subst IsFormedSigned m.2 (subst (λ (when : When). IsFormedSigned (record who { when = when })) w.2 (go zone right w.0 low))
    where
      go : (z : Option PlainZone) → IfSome z IsZone → (n : ℕ) → n ≤ MAX_SECONDS
          → IsFormedSigned (record who { when = at_seconds z who.when n })
      go None r n low = (f.0, low, f.2)
      go (Some z) r n low = (f.0, low, r)

  -- ---- one event

  record IsDated (e x : PlainEvent) : Type 0 where
    id : id_of x ≡ id_of e
    dates : with_people undated x ≡ with_people undated e
    words : wordless x ≡ wordless e
    lawful : IfSome zone IsZone → IsLawful e → IsLawful x

  its_own : (e : PlainEvent) → IsDated e e
  its_own e = record { id = refl; dates = refl; words = refl; lawful = λ r l. l }

  stayed : (e x : PlainEvent) → Some e ≡ Some x → IsDated e x
  stayed e x is = subst (IsDated e) (same_Some e x is) (its_own e)

  event_dated : (e x : PlainEvent) → dated seconds zone e ≡ Some x → IsDated e x
  event_dated (Commit id mark branch author committer encoding comment parents ops aliases) x is =
      let e = Commit id mark branch author committer encoding comment parents ops aliases in
      let both : Signed → Signed → Option PlainEvent = λ wrote made. Some (Commit id mark branch wrote made encoding comment parents ops aliases) in
      let a = bind_some (moved_signed seconds zone author) (λ wrote. moved_signed seconds zone committer >>= λ made. both wrote made) x is in
      let c = bind_some (moved_signed seconds zone committer) (λ made. both a.0 made) x a.2 in
      let own : IsDated e (Commit id mark branch a.0 c.0 encoding comment parents ops aliases) = record {
        id = refl;
        dates = λ i.
            Commit id mark branch (signed_undated author a.0 a.1 i) (signed_undated committer c.0 c.1 i) encoding comment parents ops aliases;
        words = refl;
        lawful = λ r l. (l.0, signed_formed r author a.0 l.1 a.1, signed_formed r committer c.0 l.2 c.1, l.3, l.4, l.5, l.6);
      } in
      subst (IsDated e) (same_Some (Commit id mark branch a.0 c.0 encoding comment parents ops aliases) x c.2) own
  event_dated (Tag id name target None comment mark) x is = stayed (Tag id name target None comment mark) x is
  event_dated (Tag id name target (Some tagger) comment mark) x is =
      let e = Tag id name target (Some tagger) comment mark in
      let t = mapped_is (λ made. Tag id name target (Some made) comment mark) (moved_signed seconds zone tagger) x is in
      let own : IsDated e (Tag id name target (Some t.0) comment mark) = record {
        id = refl;
        dates = λ i. Tag id name target (Some (signed_undated tagger t.0 t.1 i)) comment mark;
        words = refl;
        lawful = λ r l. (l.0, signed_formed r tagger t.0 l.1 t.1);
      } in
      subst (IsDated e) t.2 own
  event_dated (Blob id mark bytes) x is = stayed (Blob id mark bytes) x is
  event_dated (Reset id branch target) x is = stayed (Reset id branch target) x is
  event_dated (Pass id line) x is = stayed (Pass id line) x is

module _ (seconds : ℤ) (zone : Option PlainZone) (set : List AnyId) where
  in_set : (e : PlainEvent) → IsDated seconds zone e (dated_in seconds zone set e)
  in_set e = go (is_listed (id_of e) set) (dated seconds zone e) refl
    where
      go : (t : Bool) (o : Option PlainEvent) → dated seconds zone e ≡ o → IsDated seconds zone e (cond t (unwrap_or o e) e)
      go true (Some x) is = event_dated seconds zone e x is
      go true None is = its_own seconds zone e
      go false o is = its_own seconds zone e

  pub dated_id : (e : PlainEvent) → id_of (dated_in seconds zone set e) ≡ id_of e
  dated_id e = (in_set e).id

  stays : (e : PlainEvent) → is_listed (id_of e) set ≡ false → dated_in seconds zone set e ≡ e
  stays e other = ap (λ t. cond t (unwrap_or (dated seconds zone e) e) e) other

-- ---- a history

module _ (seconds : ℤ) (zone : Option PlainZone) (set : List AnyId) (events new : List PlainEvent)
    (done : time_offset_of seconds zone set events ≡ Ok new) where
  moved_is : all_dated seconds zone set events ≡ new
  moved_is = go (first_stuck seconds zone events set) done
    where
      go : (stuck : Option ℕ) → dated_unless seconds zone stuck set events ≡ Ok new → all_dated seconds zone set events ≡ new
      go None is = cc
      go (Some n) is = absurd cc

  pub moved_dates : map (with_people undated) new ≡ map (with_people undated) events
  moved_dates =
      ap (map (with_people undated)) (sym moved_is)
      ∙ map_same (dated_in seconds zone set) (with_people undated) (λ e. (in_set seconds zone set e).dates) events

  pub moved_words : HaveOtherWords events new
  moved_words =
      ap (map wordless) (sym moved_is) ∙ map_same (dated_in seconds zone set) wordless (λ e. (in_set seconds zone set e).words) events

  pub moved_others : without_all set new ≡ without_all set events
  moved_others =
      ap (without_all set) (sym moved_is)
      ∙ others_same (dated_in seconds zone set) set (dated_id seconds zone set) (stays seconds zone set) events

  pub moved_sound : IsSound events → IfSome zone IsZone → IsSound new
  moved_sound h right =
      sound_kept events new h (words_alike events new moved_words)
      (subst (AllByRecursion IsLawful) moved_is
      (all_still (dated_in seconds zone set) IsLawful (λ e l. (in_set seconds zone set e).lawful right l) events (in_parts events h).lawful))
