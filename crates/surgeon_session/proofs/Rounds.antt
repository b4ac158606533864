-- One command of a run, and what stands after it.
use Rattle.std.proofs.Common.{◌≡◌, ◌≤◌, inl, inr, ℕ, zero, List, [], Option, Some, None, ◌≢◌, append-nil, ◌++◌, take, subst, refl, sym, ◌∙◌, arith}
use Rattle.std.specs.Prelude.{IfSome, IsSome}
use Rattle.history_machine.specs.Machine.{World, Run, PartSent, EndsAs, Completes, sent}
use Rattle.plain_model.specs.declared.status.Status.{Status}
use Rattle.plain_model.specs.declared.status.Status.TheVariants as status
use Rattle.plain_model.proofs.Counts.{rose_before}
use Rattle.plain_model.specs.Files.{Files}
use Rattle.surgeon_store.specs.Outside.{CountsNoFault, PutsSome, StoreState, SinkState, Reads}
use Rattle.surgeon_session.specs.Calls.{world, world_of, Later, Caused, NoFaults, NoneFailed}

-- what holds of two worlds, and of the second and a third
pub joined : {P Q R : World → World → Type 0} (v0 v v' : Option World)
    → IfSome v0 (λ a. IsSome v)
    → IfSome v0 (λ a. IfSome v (λ b. P a b))
    → IfSome v (λ b. IfSome v' (λ c. Q b c))
    → ((a b c : World) → P a b → Q b c → R a c)
    → IfSome v0 (λ a. IfSome v' (λ c. R a c))
joined None v v' reports p q f = tt
joined (Some a) None v' reports p q f = absurd cc
joined (Some a) (Some b) None reports p q f = tt
joined (Some a) (Some b) (Some c) reports p q f = f a b c p q

pub mapped : {P Q : World → World → Type 0} (v v' : Option World) → ((a b : World) → P a b → Q a b) → IfSome v (λ a. IfSome v' (λ b. P a b)) → IfSome v (λ a. IfSome v' (λ b. Q a b))
mapped None v' f h = tt
mapped (Some a) None f h = tt
mapped (Some a) (Some b) f h = f a b h

-- nothing was called
pub none_failed : (s : StoreState) (k : SinkState) → NoneFailed s k s k
none_failed s k = record { store = record { read_faults = refl; write_faults = refl }; faults = refl }

pub none_counted : (a b c : StoreState) → CountsNoFault a b → CountsNoFault b c → CountsNoFault a c
none_counted a b c first later = record { read_faults = later.read_faults ∙ first.read_faults; write_faults = later.write_faults ∙ first.write_faults }

-- nor failed later
pub none_failed_later : (s m n : StoreState) (k l o : SinkState) → NoneFailed s k m l → NoneFailed m l n o → NoneFailed s k n o
none_failed_later s m n k l o a b = record { store = none_counted s m n a.store b.store; faults = b.faults ∙ a.faults }

-- after calls of which none failed, and that counted no fewer misses
pub caused_later : (s m n : StoreState) (k l o : SinkState) (r : Status) → NoneFailed s k m l → Later s k m l → Caused m l r n o → Caused s k r n o
caused_later s m n k l o status.SourceFault well later h = rose_before s.read_faults m.read_faults n.read_faults later.read_faults h
caused_later s m n k l o status.SinkFault well later h = elim h [
  | inl x ↦ inl (rose_before s.write_faults m.write_faults n.write_faults later.write_faults x)
  | inr x ↦ inr (rose_before k.faults l.faults o.faults later.faults x)
]
caused_later s m n k l o status.NoScript well later h = (rose_before s.misses m.misses n.misses later.misses h.0, none_failed_later s m n k l o well h.1)
caused_later s m n k l o status.Done well later h = none_failed_later s m n k l o well h
caused_later s m n k l o status.Refused well later h = none_failed_later s m n k l o well h
caused_later s m n k l o status.Usage well later h = none_failed_later s m n k l o well h
caused_later s m n k l o status.BadScript well later h = none_failed_later s m n k l o well h
caused_later s m n k l o status.Memory well later h = tt

reports_later : (v w u : Option World) → IfSome v (λ x. IsSome w) → IfSome w (λ x. IsSome u) → IfSome v (λ x. IsSome u)
reports_later None w u a b = tt
reports_later (Some x) None u a b = absurd cc
reports_later (Some x) (Some y) u a b = b

pub later_later : (s m n : StoreState) (k l o : SinkState) → Later s k m l → Later m l n o → Later s k n o
later_later s m n k l o a b = record {
  read_faults = omega (arith, a.read_faults, b.read_faults);
  write_faults = omega (arith, a.write_faults, b.write_faults);
  misses = omega (arith, a.misses, b.misses);
  faults = omega (arith, a.faults, b.faults);
  reports = reports_later (world s k) (world m l) (world n o) a.reports b.reports;
  finished = λ h. b.finished (a.finished h);
}

completes : {X : Type 0} (run : Run X) (s s' : StoreState) (k k' : SinkState) (r : Status) (w now : World) → Caused s k r s' k' → NoFaults s k s' k' → r ≢ status.Memory
    → EndsAs run r w now → Completes run r w now
completes run s s' k k' status.SourceFault w now caused quiet enough h = absurd (quiet.0 caused)
completes run s s' k k' status.SinkFault w now caused quiet enough h = absurd (elim caused [ inl x ↦ quiet.1 x | inr x ↦ quiet.2 x ])
completes run s s' k k' status.Memory w now caused quiet enough h = absurd (enough refl)
completes run s s' k k' status.Done w now caused quiet enough h = h
completes run s s' k k' status.Refused w now caused quiet enough h = h
completes run s s' k k' status.Usage w now caused quiet enough h = h
completes run s s' k k' status.NoScript w now caused quiet enough h = h
completes run s s' k k' status.BadScript w now caused quiet enough h = h

-- with memory and no fault of the outside, a run comes to its end
pub all_completes : {X : Type 0} (run : World → Run X) (s s' : StoreState) (k k' : SinkState) (r : Status) → Caused s k r s' k' → NoFaults s k s' k' → r ≢ status.Memory
    → IfSome (world s k) (λ w. IfSome (world s' k') (λ now. EndsAs (run w) r w now))
    → IfSome (world s k) (λ w. IfSome (world s' k') (λ now. Completes (run w) r w now))
all_completes run s s' k k' r caused quiet enough h = mapped (world s k) (world s' k') (λ w now. completes (run w) s s' k k' r w now caused quiet enough) h

-- ---- worlds that stay

-- nothing is sent
pub quiet_world : (w : World) → w ≡ sent None [] w
quiet_world w = λ i. record { files = w.files; printed = sym (append-nil w.printed) i }

-- nothing of the bytes is sent
pub no_part : (to : Option (List ℕ)) (bytes : List ℕ) (w : World) → PartSent to bytes w w
no_part None bytes w = (zero, λ i. record { files = w.files; printed = sym (append-nil w.printed) i })
no_part (Some name) bytes w = inl refl

pub same_world : (P : World → World → Type 0) (v : Option World) → ((w : World) → P w w) → IfSome v (λ a. IfSome v (λ b. P a b))
same_world P None f = tt
same_world P (Some a) f = f a

still : (v : Option World) → IfSome v (λ w. IsSome v)
still None = tt
still (Some a) = refl

-- what is read only adds to the counts of a store
pub read_later : (s s' : StoreState) (k : SinkState) → Reads s s' → Later s k s' k
read_later s s' k frame = record {
  read_faults = frame.read_faults;
  write_faults = omega (arith, frame.write_faults);
  misses = frame.misses;
  faults = omega arith;
  reports = rw frame.files (still (world s k));
  finished = rw frame.writing (λ none. none);
}

pub same_later : (s : StoreState) (k : SinkState) → Later s k s k
same_later s k = record {
  read_faults = omega arith;
  write_faults = omega arith;
  misses = omega arith;
  faults = omega arith;
  reports = still (world s k);
  finished = λ none. none;
}

-- what is printed only adds to the count of a sink
pub printed_later : (s : StoreState) (k l : SinkState) (bytes : List ℕ) → PutsSome k bytes l → k.faults ≤ l.faults → Later s k s l
printed_later s k l bytes put later = record {
  read_faults = omega arith;
  write_faults = omega arith;
  misses = omega arith;
  faults = later;
  reports = by_parts s.files k.written l.written put;
  finished = λ none. none;
}
  where
    by_parts : (files : Option Files) (a b : Option (List ℕ)) → IfSome a (λ before. (n : ℕ) × (b ≡ Some (before ++ take n bytes))) → IfSome (world_of files a) (λ w. IsSome (world_of files b))
    by_parts None a b h = tt
    by_parts (Some f) None b h = tt
    by_parts (Some f) (Some x) b (n, is) = subst (λ (y : Option (List ℕ)). IsSome (world_of (Some f) y)) (sym is) refl
