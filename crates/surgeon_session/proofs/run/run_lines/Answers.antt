use Rattle.std.proofs.Common.{◌≡◌, ◌+◌, ◌-◌, ◌||◌, [], ◌∷◌, ◌++◌, List, Option, None, refl, subst, zero, suc, not, true, false, sym, arith, ◌∙◌}
use Rattle.plain_model.specs.Files.{Files}
use Rattle.plain_model.specs.declared.limit.TheConstants.{MAX_COMMANDS}
use Rattle.plain_model.specs.declared.status.Status.{Status}
use Rattle.plain_model.specs.declared.status.Status.TheVariants as status
use Rattle.byte_patterns.specs.Judging.{Denial}
use Rattle.script_lines.specs.Scripts.{too_long}
use Rattle.history_machine.specs.Machine.{SessionEndsAs, World, called_by, past, run_on}
use Rattle.history_machine.specs.Sessions.{Session}
use Rattle.history_machine.specs.Steps.{line_step}
use Rattle.history_machine.specs.declared.waiting.Waiting.{Waiting}
use Rattle.surgeon_session.specs.Calls.{world}
use Rattle.surgeon_session.specs.Commands.{ReadNoFile, status_of_line}
use Rattle.surgeon_session.specs.RunsTo.{RunsTo}
use Rattle.surgeon_session.specs.Waits.{AreWithin}
use Rattle.surgeon_session.specs.declared.line_end.LineEnd.TheVariants as line_end
use Rattle.surgeon_session.proofs.Denying.{all_at_once, counted_more, no_more, one_by_one, with_none}
use Rattle.surgeon_session.proofs.RunningTo.{runs_on_done, runs_on_refused, runs_no_further, runs_nowhere, runs_past, runs_to_broken, runs_to_refused, line_breaks_off, some_told}
use Rattle.surgeon_session.proofs.Rounds.{caused_later, joined, later_later, none_failed, none_failed_later, mapped, same_later, same_world}
use Rattle.surgeon_session.proofs.SessionRounds.{breaks_here, breaks_run, caused_quiet, done_goes_on, done_reads_none, ends_in, first_reads_none, line_breaks, memory_after, no_lines, past_ends, past_in, refused_goes_on, refused_reads_none, refused_stops, within_after, within_rest}
use Rattle.surgeon_session.proofs.Waiting.{long_ends, runs_to_long}
use Rattle.surgeon_session.proofs.run.run_lines.Goals as goal

pub loop-next-init : goal.loop-next-init
loop-next-init g c =
    let s = g.S.Store.state c.args.store.now in
    let k = g.T.Sink.state c.args.out.now in
    record {
      later = same_later s k;
      well = none_failed s k;
      grows = omega arith;
      quiet = tt;
      within = c.requires;
      runs = (
        [],
        tt,
        (
          same_world (λ w0 w. (more : List (Option Denial)) (r : Status) (after : Session) (now : World)
              → SessionEndsAs (run_on line_step c.args.keep_going MAX_COMMANDS more status.Done c.args.session.now w.files c.args.lines) r c.args.session.now w after now
              → SessionEndsAs (run_on line_step c.args.keep_going MAX_COMMANDS more status.Done c.args.session.now w0.files c.args.lines) r c.args.session.now w0 after now)
              (world s k) (λ w more r after now h. h),
          λ w0 more none. (w0, none, λ r after now h. h),
          λ more r after h. h,
        ),
      );
    }

pub returns-then-left-eq0-clause-runs : goal.returns-then-left-eq0-clause-runs
returns-then-left-eq0-clause-runs g c =
    let s = g.S.Store.state in
    let k = g.T.Sink.state in
    let known = c.loop-next.invariant in
    let p = known.runs in
    let so_far = c.loop-next.so_far in
    let next = c.in-Line.next in
    let rest = c.take.new.self in
    let cut = rw c.in-Line.is at c.in-Some.ensures in
    let none : c.loop-next.left ≡ 0 = c.if-left-eq0.true in
    let n = g.P.Patterns.sizes c.args.patterns.now in
    let n' = g.P.Patterns.sizes c.loop-next.patterns in
    let here = s c.loop-next.store in
    let last = c.refuse_last in
    let prescribed = rw c.past.ensures at last.ensures.prescribed here in (
      p.0 ++ None ∷ [],
      counted_more n n' n' p.0 None known.grows (omega arith) p.1 (λ sized. absurd cc),
      record {
        outcome = record {
          prescribed = joined (world (s c.args.store.now) (k c.args.out.now)) (world here (k c.loop-next.out)) (world here (k last.new.out)) known.later.reports p.2.0 prescribed
              (λ a b d p q. p (None ∷ []) last.result c.loop-next.session d (rw (cut, none) (past_ends line_step c.args.keep_going 0 None [] so_far c.loop-next.session c.loop-next.session b d next rest last.result q)));
          caused = caused_later (s c.args.store.now) here here (k c.args.out.now) (k c.loop-next.out) (k last.new.out) last.result known.well known.later (last.ensures.caused here);
          later = later_later (s c.args.store.now) here here (k c.args.out.now) (k c.loop-next.out) (k last.new.out) known.later (last.ensures.later here);
        };
        exact = λ w0 reads.
            let at = p.2.1 w0 (None ∷ []) reads in
            let end = past_in next.line (past next.what) last.result at.0 last.ensures.past in (
              end.0,
              at.2 last.result c.loop-next.session end.0
                  (rw (cut, none) (past_ends line_step c.args.keep_going 0 None [] so_far c.loop-next.session c.loop-next.session at.0 end.0 next rest last.result end.1)),
            );
        lines = p.2.2 (None ∷ []) last.result c.loop-next.session
            (rw (cut, none) (runs_past line_step c.args.keep_going None [] so_far (None ∷ []) c.loop-next.session next rest last.result last.ensures.past));
      },
    )

pub returns-in-TooLong-clause-runs : goal.returns-in-TooLong-clause-runs
returns-in-TooLong-clause-runs g c =
    let s = g.S.Store.state in
    let k = g.T.Sink.state in
    let known = c.loop-next.invariant in
    let p = known.runs in
    let so_far = c.loop-next.so_far in
    let long = rw c.in-TooLong.is at c.in-Some.ensures in
    let next = long.0 in
    let rest = c.take.new.self in
    let cut = long.3 in
    let keep = c.args.keep_going in
    let left = c.loop-next.left in
    let n = g.P.Patterns.sizes c.args.patterns.now in
    let n' = g.P.Patterns.sizes c.loop-next.patterns in
    let here = s c.loop-next.store in
    let last = c.refuse_last-in-TooLong in
    let prescribed = rw (c.too_long.ensures, ← long.1) at last.ensures.prescribed here in (
      p.0 ++ None ∷ [],
      counted_more n n' n' p.0 None known.grows (omega arith) p.1 (λ sized. absurd cc),
      record {
        outcome = record {
          prescribed = joined (world (s c.args.store.now) (k c.args.out.now)) (world here (k c.loop-next.out)) (world here (k last.new.out)) known.later.reports p.2.0 prescribed
              (λ a b d p q. p (None ∷ []) last.result c.loop-next.session d (subst (λ (ls : List Waiting). SessionEndsAs (run_on line_step keep left (None ∷ []) so_far c.loop-next.session b.files ls) last.result c.loop-next.session b c.loop-next.session d) (sym cut)
              (long_ends keep left so_far c.loop-next.session b d next rest last.result long.2 q)));
          caused = caused_later (s c.args.store.now) here here (k c.args.out.now) (k c.loop-next.out) (k last.new.out) last.result known.well known.later (last.ensures.caused here);
          later = later_later (s c.args.store.now) here here (k c.args.out.now) (k c.loop-next.out) (k last.new.out) known.later (last.ensures.later here);
        };
        exact = λ w0 reads.
            let at = p.2.1 w0 (None ∷ []) reads in
            let end = past_in next.line too_long last.result at.0 last.ensures.past in (
              end.0,
              at.2 last.result c.loop-next.session end.0
                  (subst (λ (ls : List Waiting). SessionEndsAs (run_on line_step keep left (None ∷ []) so_far c.loop-next.session at.0.files ls) last.result c.loop-next.session at.0 c.loop-next.session end.0) (sym cut)
                  (long_ends keep left so_far c.loop-next.session at.0 end.0 next rest last.result long.2 end.1)),
            );
        lines = p.2.2 (None ∷ []) last.result c.loop-next.session
            (subst (λ (ls : List Waiting). RunsTo line_step keep left (None ∷ []) so_far c.loop-next.session ls last.result c.loop-next.session) (sym cut)
            (runs_to_long keep left so_far c.loop-next.session next rest last.result long.2 last.ensures.past));
      },
    )

pub returns-in-NoMemory-clause-runs : goal.returns-in-NoMemory-clause-runs
returns-in-NoMemory-clause-runs g c =
    let s = g.S.Store.state in
    let k = g.T.Sink.state in
    let known = c.loop-next.invariant in
    let p = known.runs in
    let so_far = c.loop-next.so_far in
    let keep = c.args.keep_going in
    let left = c.loop-next.left in
    let session = c.loop-next.session in
    let lines = c.loop-next.lines in (
      p.0,
      p.1,
      record {
        outcome = record {
          prescribed = mapped (world (s c.args.store.now) (k c.args.out.now)) (world (s c.loop-next.store) (k c.loop-next.out))
              (λ a b before. no_more (λ denials. SessionEndsAs (run_on line_step keep MAX_COMMANDS denials status.Done c.args.session.now a.files c.args.lines) status.Memory c.args.session.now a session b) p.0
              (before [] status.Memory session b (zero, refl, breaks_here (run_on line_step keep left [] so_far session b.files lines).effects b))) p.2.0;
          caused = tt;
          later = known.later;
        };
        exact = λ w0 none.
            let at = p.2.1 w0 [] (with_none (λ denials. ReadNoFile (run_on line_step keep MAX_COMMANDS denials status.Done c.args.session.now w0.files c.args.lines).ran) p.0 none) in (
              at.0,
              no_more (λ denials. SessionEndsAs (run_on line_step keep MAX_COMMANDS denials status.Done c.args.session.now w0.files c.args.lines) status.Memory c.args.session.now w0 session at.0) p.0
                  (at.2 status.Memory session at.0 (zero, refl, breaks_here (run_on line_step keep left [] so_far session at.0.files lines).effects at.0)),
            );
        lines = no_more (λ denials. RunsTo line_step keep MAX_COMMANDS denials status.Done c.args.session.now c.args.lines status.Memory session) p.0
            (p.2.2 [] status.Memory session (runs_nowhere line_step keep None [] so_far left [] session lines status.Memory tt));
      },
    )

pub returns-in-Err-clause-runs : goal.returns-in-Err-clause-runs
returns-in-Err-clause-runs g c =
    let s = g.S.Store.state in
    let k = g.T.Sink.state in
    let n = g.P.Patterns.sizes in
    let known = c.loop-next.invariant in
    let p = known.runs in
    let q = c.in-Done.ensures.runs in
    let so_far = c.loop-next.so_far in
    let next = c.in-Line.next in
    let rest = c.take.new.self in
    let cut = rw c.in-Line.is at c.in-Some.ensures in
    let more : c.loop-next.left ≡ suc (c.loop-next.left - 1) = omega (arith, c.if-left-eq0.false) in
    let keep = c.args.keep_going in
    let old = c.loop-next.session in
    let new = c.run_line.new.session in
    let v0 = world (s c.args.store.now) (k c.args.out.now) in
    let v1 = world (s c.loop-next.store) (k c.loop-next.out) in
    let v2 = world (s c.run_line.new.store) (k c.run_line.new.out) in
    let later = later_later (s c.args.store.now) (s c.loop-next.store) (s c.run_line.new.store) (k c.args.out.now) (k c.loop-next.out) (k c.run_line.new.out) known.later q.2.outcome.later in
    let counted = counted_more (n c.args.patterns.now) (n c.loop-next.patterns) (n c.run_line.new.patterns) p.0 q.0 known.grows c.run_line.ensures.grows p.1 q.1 in (
      p.0 ++ q.0 ∷ [],
      counted,
      record {
        outcome = record {
          prescribed = joined v0 v1 v2 known.later.reports p.2.0 q.2.outcome.prescribed
              (λ a b d before here. before (q.0 ∷ []) status.Memory new d (rw (cut, more) (memory_after line_step keep (c.loop-next.left - 1) q.0 [] so_far old new b d next rest c.in-Done.calls here)));
          caused = tt;
          later = later;
        };
        exact = λ w0 none.
            let at = rw (cut, more) at (p.2.1 w0 (q.0 ∷ []) none) in
            let here = at.1 in
            let line = ends_in (line_end.Done c.in-Done.calls) old new at.0 next.line (line_step q.0 old at.0.files next.depth next.what) (q.2.exact (first_reads_none line_step keep (c.loop-next.left - 1) q.0 [] so_far old new at.0 at.0 next rest here) at.0.files) in
            (line.0, at.2 status.Memory new line.0 (memory_after line_step keep (c.loop-next.left - 1) q.0 [] so_far old new at.0 line.0 next rest c.in-Done.calls line.1));
        lines = p.2.2 (q.0 ∷ []) status.Memory new
            (rw (cut, more) (runs_on_done line_step keep q.0 [] so_far (c.loop-next.left - 1) old new next rest c.in-Done.calls (some_told _ _ q.2.told) status.Memory new
            (runs_nowhere line_step keep q.0 [] so_far (c.loop-next.left - 1) [] new (called_by next.line (next.depth + 1) c.in-Done.calls ++ rest) status.Memory tt)));
      },
    )

pub loop-next-preserved-in-Ok : goal.loop-next-preserved-in-Ok
loop-next-preserved-in-Ok g c =
    let s = g.S.Store.state in
    let k = g.T.Sink.state in
    let n = g.P.Patterns.sizes in
    let known = c.loop-next.invariant in
    let p = known.runs in
    let q = c.in-Done.ensures.runs in
    let so_far = c.loop-next.so_far in
    let next = c.in-Line.next in
    let rest = c.take.new.self in
    let cut = rw c.in-Line.is at c.in-Some.ensures in
    let more : c.loop-next.left ≡ suc (c.loop-next.left - 1) = omega (arith, c.if-left-eq0.false) in
    let keep = c.args.keep_going in
    let old = c.loop-next.session in
    let new = c.run_line.new.session in
    let v0 = world (s c.args.store.now) (k c.args.out.now) in
    let v1 = world (s c.loop-next.store) (k c.loop-next.out) in
    let v2 = world (s c.run_line.new.store) (k c.run_line.new.out) in
    let later = later_later (s c.args.store.now) (s c.loop-next.store) (s c.run_line.new.store) (k c.args.out.now) (k c.loop-next.out) (k c.run_line.new.out) known.later q.2.outcome.later in
    let counted = counted_more (n c.args.patterns.now) (n c.loop-next.patterns) (n c.run_line.new.patterns) p.0 q.0 known.grows c.run_line.ensures.grows p.1 q.1 in
    record {
      later = later;
      well = none_failed_later (s c.args.store.now) (s c.loop-next.store) (s c.run_line.new.store) (k c.args.out.now) (k c.loop-next.out) (k c.run_line.new.out) known.well q.2.outcome.caused;
      grows = omega (arith, known.grows, c.run_line.ensures.grows);
      quiet = known.quiet;
      within = rw c.in-Ok.ensures (within_after MAX_COMMANDS (c.loop-next.left - 1) next c.in-Done.calls rest (subst (λ n. AreWithin MAX_COMMANDS n (next ∷ rest)) more (subst (AreWithin MAX_COMMANDS c.loop-next.left) cut known.within)));
      runs = (
        p.0 ++ q.0 ∷ [],
        counted,
        (
          joined v0 v1 v2 known.later.reports p.2.0 q.2.outcome.prescribed
              (λ a b d before here others r after now h.
              one_by_one (λ denials. SessionEndsAs (run_on line_step keep MAX_COMMANDS denials status.Done c.args.session.now a.files c.args.lines) r c.args.session.now a after now) p.0 q.0 others
              (before (q.0 ∷ others) r after now (rw (cut, more) (done_goes_on line_step keep (c.loop-next.left - 1) q.0 others so_far old new b d next rest c.in-Done.calls here r after now (rw c.in-Ok.ensures at h))))),
          λ w0 others none.
              let at = p.2.1 w0 (q.0 ∷ others) (all_at_once (λ denials. ReadNoFile (run_on line_step keep MAX_COMMANDS denials status.Done c.args.session.now w0.files c.args.lines).ran) p.0 q.0 others none) in
              let here = rw (cut, more) at at.1 in
              let line = ends_in (line_end.Done c.in-Done.calls) old new at.0 next.line (line_step q.0 old at.0.files next.depth next.what) (q.2.exact (first_reads_none line_step keep (c.loop-next.left - 1) q.0 others so_far old new at.0 at.0 next rest here) at.0.files) in (
                line.0,
                rw c.in-Ok.ensures (done_reads_none line_step keep (c.loop-next.left - 1) q.0 others so_far old new at.0 line.0 next rest c.in-Done.calls line.1 here),
                λ r after now h.
                    one_by_one (λ denials. SessionEndsAs (run_on line_step keep MAX_COMMANDS denials status.Done c.args.session.now w0.files c.args.lines) r c.args.session.now w0 after now) p.0 q.0 others
                    (at.2 r after now (rw (cut, more) (done_goes_on line_step keep (c.loop-next.left - 1) q.0 others so_far old new at.0 line.0 next rest c.in-Done.calls line.1 r after now (rw c.in-Ok.ensures at h)))),
              ),
          λ others r after h.
              one_by_one (λ denials. RunsTo line_step keep MAX_COMMANDS denials status.Done c.args.session.now c.args.lines r after) p.0 q.0 others
              (p.2.2 (q.0 ∷ others) r after
              (rw (cut, more) (runs_on_done line_step keep q.0 others so_far (c.loop-next.left - 1) old new next rest c.in-Done.calls (some_told _ _ q.2.told) r after (rw c.in-Ok.ensures at h)))),
        ),
      );
    }

pub returns-then-is_stop-clause-runs : goal.returns-then-is_stop-clause-runs
returns-then-is_stop-clause-runs g c =
    let s = g.S.Store.state in
    let k = g.T.Sink.state in
    let n = g.P.Patterns.sizes in
    let known = c.loop-next.invariant in
    let p = known.runs in
    let q = c.in-Refused.ensures.runs in
    let so_far = c.loop-next.so_far in
    let next = c.in-Line.next in
    let rest = c.take.new.self in
    let cut = rw c.in-Line.is at c.in-Some.ensures in
    let more : c.loop-next.left ≡ suc (c.loop-next.left - 1) = omega (arith, c.if-left-eq0.false) in
    let keep = c.args.keep_going in
    let old = c.loop-next.session in
    let new = c.run_line.new.session in
    let v0 = world (s c.args.store.now) (k c.args.out.now) in
    let v1 = world (s c.loop-next.store) (k c.loop-next.out) in
    let v2 = world (s c.run_line.new.store) (k c.run_line.new.out) in
    let later = later_later (s c.args.store.now) (s c.loop-next.store) (s c.run_line.new.store) (k c.args.out.now) (k c.loop-next.out) (k c.run_line.new.out) known.later q.2.outcome.later in
    let counted = counted_more (n c.args.patterns.now) (n c.loop-next.patterns) (n c.run_line.new.patterns) p.0 q.0 known.grows c.run_line.ensures.grows p.1 q.1 in
    let stop : (c.in-Refused.is_last || not keep) ≡ true = sym c.is_stop.ensures ∙ c.if-is_stop.true in (
      p.0 ++ q.0 ∷ [],
      counted,
      record {
        outcome = record {
          prescribed = joined v0 v1 v2 known.later.reports p.2.0 q.2.outcome.prescribed
              (λ a b d before here. before (q.0 ∷ []) status.Refused new d (rw (cut, more) (refused_stops line_step keep (c.loop-next.left - 1) q.0 [] so_far old new b d next rest c.in-Refused.is_last stop here)));
          caused = none_failed_later (s c.args.store.now) (s c.loop-next.store) (s c.run_line.new.store) (k c.args.out.now) (k c.loop-next.out) (k c.run_line.new.out) known.well q.2.outcome.caused;
          later = later;
        };
        exact = λ w0 none.
            let at = rw (cut, more) at (p.2.1 w0 (q.0 ∷ []) none) in
            let here = at.1 in
            let line = ends_in (line_end.Refused c.in-Refused.is_last) old new at.0 next.line (line_step q.0 old at.0.files next.depth next.what) (q.2.exact (first_reads_none line_step keep (c.loop-next.left - 1) q.0 [] so_far old new at.0 at.0 next rest here) at.0.files) in
            (line.0, at.2 status.Refused new line.0 (refused_stops line_step keep (c.loop-next.left - 1) q.0 [] so_far old new at.0 line.0 next rest c.in-Refused.is_last stop line.1));
        lines = p.2.2 (q.0 ∷ []) status.Refused new
            (rw (cut, more) (runs_to_refused line_step keep q.0 [] so_far (c.loop-next.left - 1) old new next rest c.in-Refused.is_last stop (some_told _ _ q.2.told)));
      },
    )

pub loop-next-preserved : goal.loop-next-preserved
loop-next-preserved g c =
    let s = g.S.Store.state in
    let k = g.T.Sink.state in
    let n = g.P.Patterns.sizes in
    let known = c.loop-next.invariant in
    let p = known.runs in
    let q = c.in-Refused.ensures.runs in
    let so_far = c.loop-next.so_far in
    let next = c.in-Line.next in
    let rest = c.take.new.self in
    let cut = rw c.in-Line.is at c.in-Some.ensures in
    let more : c.loop-next.left ≡ suc (c.loop-next.left - 1) = omega (arith, c.if-left-eq0.false) in
    let keep = c.args.keep_going in
    let old = c.loop-next.session in
    let new = c.run_line.new.session in
    let v0 = world (s c.args.store.now) (k c.args.out.now) in
    let v1 = world (s c.loop-next.store) (k c.loop-next.out) in
    let v2 = world (s c.run_line.new.store) (k c.run_line.new.out) in
    let later = later_later (s c.args.store.now) (s c.loop-next.store) (s c.run_line.new.store) (k c.args.out.now) (k c.loop-next.out) (k c.run_line.new.out) known.later q.2.outcome.later in
    let counted = counted_more (n c.args.patterns.now) (n c.loop-next.patterns) (n c.run_line.new.patterns) p.0 q.0 known.grows c.run_line.ensures.grows p.1 q.1 in
    let goes : (c.in-Refused.is_last || not keep) ≡ false = sym c.is_stop.ensures ∙ c.if-is_stop.false in
    record {
      later = later;
      well = none_failed_later (s c.args.store.now) (s c.loop-next.store) (s c.run_line.new.store) (k c.args.out.now) (k c.loop-next.out) (k c.run_line.new.out) known.well q.2.outcome.caused;
      grows = omega (arith, known.grows, c.run_line.ensures.grows);
      quiet = tt;
      within = within_rest MAX_COMMANDS (c.loop-next.left - 1) next rest (subst (λ n. AreWithin MAX_COMMANDS n (next ∷ rest)) more (subst (AreWithin MAX_COMMANDS c.loop-next.left) cut known.within));
      runs = (
        p.0 ++ q.0 ∷ [],
        counted,
        (
          joined v0 v1 v2 known.later.reports p.2.0 q.2.outcome.prescribed
              (λ a b d before here others r after now h.
              one_by_one (λ denials. SessionEndsAs (run_on line_step keep MAX_COMMANDS denials status.Done c.args.session.now a.files c.args.lines) r c.args.session.now a after now) p.0 q.0 others
              (before (q.0 ∷ others) r after now (rw (cut, more) (refused_goes_on line_step keep (c.loop-next.left - 1) q.0 others so_far old new b d next rest c.in-Refused.is_last goes here r after now h)))),
          λ w0 others none.
              let at = p.2.1 w0 (q.0 ∷ others) (all_at_once (λ denials. ReadNoFile (run_on line_step keep MAX_COMMANDS denials status.Done c.args.session.now w0.files c.args.lines).ran) p.0 q.0 others none) in
              let here = rw (cut, more) at at.1 in
              let line = ends_in (line_end.Refused c.in-Refused.is_last) old new at.0 next.line (line_step q.0 old at.0.files next.depth next.what) (q.2.exact (first_reads_none line_step keep (c.loop-next.left - 1) q.0 others so_far old new at.0 at.0 next rest here) at.0.files) in (
                line.0,
                refused_reads_none line_step keep (c.loop-next.left - 1) q.0 others so_far old new at.0 line.0 next rest c.in-Refused.is_last goes line.1 here,
                λ r after now h.
                    one_by_one (λ denials. SessionEndsAs (run_on line_step keep MAX_COMMANDS denials status.Done c.args.session.now w0.files c.args.lines) r c.args.session.now w0 after now) p.0 q.0 others
                    (at.2 r after now (rw (cut, more) (refused_goes_on line_step keep (c.loop-next.left - 1) q.0 others so_far old new at.0 line.0 next rest c.in-Refused.is_last goes line.1 r after now h))),
              ),
          λ others r after h.
              one_by_one (λ denials. RunsTo line_step keep MAX_COMMANDS denials status.Done c.args.session.now c.args.lines r after) p.0 q.0 others
              (p.2.2 (q.0 ∷ others) r after
              (rw (cut, more) (runs_on_refused line_step keep q.0 others so_far (c.loop-next.left - 1) old new next rest c.in-Refused.is_last goes (some_told _ _ q.2.told) r after h))),
        ),
      );
    }

pub returns-in-Broken-clause-runs : goal.returns-in-Broken-clause-runs
returns-in-Broken-clause-runs g c =
    let s = g.S.Store.state in
    let k = g.T.Sink.state in
    let n = g.P.Patterns.sizes in
    let known = c.loop-next.invariant in
    let p = known.runs in
    let q = c.in-Broken.ensures.runs in
    let so_far = c.loop-next.so_far in
    let next = c.in-Line.next in
    let rest = c.take.new.self in
    let cut = rw c.in-Line.is at c.in-Some.ensures in
    let more : c.loop-next.left ≡ suc (c.loop-next.left - 1) = omega (arith, c.if-left-eq0.false) in
    let keep = c.args.keep_going in
    let old = c.loop-next.session in
    let new = c.run_line.new.session in
    let v0 = world (s c.args.store.now) (k c.args.out.now) in
    let v1 = world (s c.loop-next.store) (k c.loop-next.out) in
    let v2 = world (s c.run_line.new.store) (k c.run_line.new.out) in
    let later = later_later (s c.args.store.now) (s c.loop-next.store) (s c.run_line.new.store) (k c.args.out.now) (k c.loop-next.out) (k c.run_line.new.out) known.later q.2.outcome.later in
    let counted = counted_more (n c.args.patterns.now) (n c.loop-next.patterns) (n c.run_line.new.patterns) p.0 q.0 known.grows c.run_line.ensures.grows p.1 q.1 in
    let how = c.in-Broken.how in
    let told : (files : Files) × (new ≡ old) = some_told _ _ q.2.told in
    rw c.broken_status.ensures (
      p.0 ++ q.0 ∷ [],
      counted,
      record {
        outcome = record {
          prescribed = joined v0 v1 v2 known.later.reports p.2.0 q.2.outcome.prescribed
              (λ a b d before here. before (q.0 ∷ []) (status_of_line (line_end.Broken how)) new d (rw (cut, more) (line_breaks line_step keep (c.loop-next.left - 1) q.0 [] so_far old new b d next rest (status_of_line (line_end.Broken how)) (breaks_run how) here)));
          caused = caused_later (s c.args.store.now) (s c.loop-next.store) (s c.run_line.new.store) (k c.args.out.now) (k c.loop-next.out) (k c.run_line.new.out) (status_of_line (line_end.Broken how)) known.well known.later q.2.outcome.caused;
          later = later;
        };
        exact = λ w0 none.
            let at = rw (cut, more) at (p.2.1 w0 (q.0 ∷ []) none) in
            let here = at.1 in
            let line = ends_in (line_end.Broken how) old new at.0 next.line (line_step q.0 old at.0.files next.depth next.what) (q.2.exact (first_reads_none line_step keep (c.loop-next.left - 1) q.0 [] so_far old new at.0 at.0 next rest here) at.0.files) in
            (line.0, at.2 (status_of_line (line_end.Broken how)) new line.0 (line_breaks line_step keep (c.loop-next.left - 1) q.0 [] so_far old new at.0 line.0 next rest (status_of_line (line_end.Broken how)) (breaks_run how) line.1));
        lines = p.2.2 (q.0 ∷ []) (status_of_line (line_end.Broken how)) new
            (rw (cut, more) (runs_to_broken line_step keep q.0 [] so_far (c.loop-next.left - 1) old new next rest (status_of_line (line_end.Broken how)) (line_breaks_off how) told.1));
      },
    )

pub returns-clause-runs : goal.returns-clause-runs
returns-clause-runs g c =
    let s = g.S.Store.state in
    let k = g.T.Sink.state in
    let known = c.loop-next.invariant in
    let p = known.runs in
    let so_far = c.loop-next.so_far in (
      p.0,
      p.1,
      record {
        outcome = record {
          prescribed = mapped (world (s c.args.store.now) (k c.args.out.now)) (world (s c.loop-next.store) (k c.loop-next.out))
              (λ a b before. no_more (λ denials. SessionEndsAs (run_on line_step c.args.keep_going MAX_COMMANDS denials status.Done c.args.session.now a.files c.args.lines) so_far c.args.session.now a c.loop-next.session b) p.0
              (before [] so_far c.loop-next.session b (rw c.in_default.ensures.0 (no_lines so_far c.loop-next.session b)))) p.2.0;
          caused = caused_quiet (s c.args.store.now) (s c.loop-next.store) (k c.args.out.now) (k c.loop-next.out) so_far known.quiet known.well;
          later = known.later;
        };
        exact = λ w0 none.
            let at = p.2.1 w0 [] (with_none (λ denials. ReadNoFile (run_on line_step c.args.keep_going MAX_COMMANDS denials status.Done c.args.session.now w0.files c.args.lines).ran) p.0 none) in (
              at.0,
              no_more (λ denials. SessionEndsAs (run_on line_step c.args.keep_going MAX_COMMANDS denials status.Done c.args.session.now w0.files c.args.lines) so_far c.args.session.now w0 c.loop-next.session at.0) p.0
                  (at.2 so_far c.loop-next.session at.0 (rw c.in_default.ensures.0 (no_lines so_far c.loop-next.session at.0))),
            );
        lines = no_more (λ denials. RunsTo line_step c.args.keep_going MAX_COMMANDS denials status.Done c.args.session.now c.args.lines so_far c.loop-next.session) p.0
            (p.2.2 [] so_far c.loop-next.session (rw c.in_default.ensures.0 (runs_no_further line_step c.args.keep_going None [] so_far c.loop-next.left [] c.loop-next.session)));
      },
    )
