-- The steps of an engine: what was carried out is a step of the run, and steps make turns.
use Rattle.std.proofs.Common.{◌≡◌, ℕ, ◌+◌, List, [], ◌∷◌, ◌++◌, refl, sym, ap, ◌∙◌, arith, Bool, true, false, subst, inl, inr, append_assoc, append-nil, length-append}
use Rattle.std.specs.Prelude.{◌<◌, ◌≤◌, Option, None, Some, Ok, Err}
use Rattle.std.specs.FinMap as map_of
use Rattle.std.specs.Io.KnownBytes.{Appends}
use Rattle.std.proofs.KnownBytes.{Appends-nil, Appends-trans}
use Rattle.std.proofs.lemmas.Grind.{flat_map-append}
use Rattle.rand_core.specs.Stream.{Stream, next_u32}
use Rattle.fib.specs.Forwarding.{Forwarding, Replays}
use Rattle.fib.specs.declared.change.RouteChange.{RouteChange}
use Rattle.fib.proofs.ReplayLaws.{replays_to_one}
use Rattle.router_core.specs.Config.{Config}
use Rattle.router_core.specs.Machine.{State, Happening, Arrives, Ticks, Moves, Starts as RouterStarts}
use Rattle.router_core.specs.declared.answer.Answer.{Answer}
use Rattle.ripngd_engine.specs.declared.link.Received.{Received}
use Rattle.ripngd_engine.specs.Telling.{Gains}
use Rattle.ripngd_engine.specs.Observer.{LinkReport, WasTold}
use Rattle.ripngd_engine.specs.Log.{change_text, log_of}
use Rattle.ripngd_engine.specs.Link.{Call, Gave, Silent, RecvFailed, Handed, Datagram, failed_sends, gave_call}
use Rattle.ripngd_engine.specs.Run.{Machine, Trace, Sends, MovedOrLost, Carries, FollowsUnless, TakesArrival, TakesIn, TicksOnce, TicksUnless, Turn, Turns, arrival, handed, told_first, sent, one_call, one_moment, no_step, followed_by, all_joined, counted}
use Rattle.ripngd_engine.specs.Outlet.{OutletSeen, CarriesOut}
use Rattle.ripngd_engine.specs.Seen.{Seen, Outside, Shows, Acts, Started, Listens, Ran, TurnsObserved, untouched}
use Rattle.ripngd_engine.specs.declared.report.EngineFault.TheVariants.{LinkFault, OutOfMemory}
use Rattle.ripngd_engine.specs.Runner.{TakesReceived, ActsTold}
use Rattle.ripngd_engine.proofs.Tells.{Gains-nil, Gains-trans, WasTold-append, failed_sends-append}

-- ---- what the outside gained
pub Shows-no_step : (a : Outside) → Shows a no_step a
Shows-no_step a = record {
  calls = Gains-nil a.calls;
  moments = Gains-nil a.moments;
  lost_sends = omega arith;
  log_ends = λ h. (h, refl);
  log_gains = λ h. Appends-nil a.text;
}

-- a log that has not failed had not failed before
was_well : {P : Type 0} (b c : Bool) → (b ≡ true → (c ≡ true) × P) → c ≡ false → b ≡ false
was_well false c f h = refl
was_well true c f h = let e : c ≡ true = (f refl).0 in absurd (cc)

log_of-append : (xs ys : List RouteChange) → log_of (xs ++ ys) ≡ log_of xs ++ log_of ys
log_of-append xs ys = flat_map-append (λ c. change_text c ++ 10 ∷ []) xs ys

pub Shows-trans : (a b c : Outside) (s t : Trace) → Shows a s b → Shows b t c → Shows a (followed_by s t) c
Shows-trans a b c s t p q = record {
  calls = Gains-trans a.calls b.calls c.calls s.calls t.calls p.calls q.calls;
  moments = Gains-trans a.moments b.moments c.moments s.moments t.moments p.moments q.moments;
  lost_sends = rw (failed_sends-append s.calls t.calls) (omega (arith, p.lost_sends, q.lost_sends));
  log_ends = λ h. ((q.log_ends (p.log_ends h).0).0, (q.log_ends (p.log_ends h).0).1 ∙ (p.log_ends h).1);
  log_gains = λ h. rw (log_of-append s.changes t.changes)
      (Appends-trans a.text b.text c.text _ _ (p.log_gains (was_well _ _ q.log_ends h)) (q.log_gains h));
}

-- ---- one step
-- an outlet, with the rest of a running router
abbrev pub around : OutletSeen → State → ℕ → Stream → Option (List ℕ) → Seen
around o router lost_memory stream moments =
    record {
      machine = record { router = router; fib = o.fib; ended = o.ended; lost_memory = lost_memory; stream = stream };
      outside = record {
        calls = o.calls;
        moments = moments;
        text = o.text;
        lost_sends = o.lost_sends;
        log_failed = o.log_failed;
      };
    }

-- a step, after which the source has these words left
abbrev pub WithStream : Stream → Happening → ℕ → Machine → Trace → Machine → Type 0
WithStream stream happening now m t n = MovedOrLost (record m { stream = stream }) happening now t n

-- what carrying out an answer did, where this was told first
abbrev pub carried : List LinkReport → ℕ → Answer → Sends → Trace
carried first now answer sends =
    record { calls = handed sends; moments = now ∷ []; changes = answer.changes; told = first ++ sent sends }

module _ {V : Type 0} (takes : V → LinkReport → V → Type 0) (v w : V) (o p : OutletSeen) (answer : Answer) (out : CarriesOut takes v w o answer p) where
  pub Shows-carried : (first : List LinkReport) (lost new_lost : ℕ) (router new_router : State) (stream new_stream : Stream) (before after : Option (List ℕ)) (now : ℕ) → Gains before after (now ∷ [])
      → Shows (around o router lost stream before).outside (carried first now answer out.hands.sends) (around p new_router new_lost new_stream after).outside
  Shows-carried first lost new_lost router new_router stream new_stream before after now told = record {
    calls = out.hands.calls;
    moments = told;
    lost_sends = out.hands.count;
    log_ends = out.log_ends;
    log_gains = out.log_gains;
  }

  pub Carries-out : (first : List LinkReport) (now : ℕ) (n : Machine) → n.ended ≡ p.ended → n.fib ≡ p.fib → Carries first now answer o.fib (carried first now answer out.hands.sends) n
  Carries-out first now n ended fib = record {
    sends = out.hands.sends;
    all_sends = out.hands.all_sends;
    trace = refl;
    fib = rw (ended, fib) out.fib;
  }

  -- a forwarding table that followed the router still does
  pub follows : (old new : Forwarding) → o.fib ≡ old → Replays old answer.changes new → p.ended ≡ false → p.fib ≡ new
  follows old new same replays on =
      let followed : FollowsUnless false o.fib answer.changes p.fib = subst (λ e. FollowsUnless e o.fib answer.changes p.fib) on out.fib in
      replays_to_one old p.fib new answer.changes (subst (λ f. Replays f answer.changes p.fib) same followed) replays

module _ {V : Type 0} (takes : V → LinkReport → V → Type 0) (o : OutletSeen) (router : State) (lost : ℕ) (stream new_stream : Stream) (before after : Option (List ℕ)) (now : ℕ) (happening : Happening) (told : Gains before after (now ∷ [])) where
  pub Acts-moved : (u v w : V) (p : OutletSeen) (answer : Answer) (new_router : State) → Moves router happening answer new_router
      → WasTold takes u (told_first router happening answer) v → CarriesOut takes v w o answer p
      → ActsTold takes u w (WithStream new_stream happening now) (around o router lost stream before) (around p new_router lost new_stream after)
  Acts-moved u v w p answer new_router moves hears out = record {
    acts = record {
      trace = carried (told_first router happening answer) now answer out.hands.sends;
      does = inl (record {
        answer = answer;
        moves = moves;
        carries = Carries-out takes v w o p answer out (told_first router happening answer) now _ refl refl;
        lost_memory = refl;
        stream = refl;
      });
      shows = Shows-carried takes v w o p answer out (told_first router happening answer) lost lost router new_router stream new_stream before after now told;
    };
    told = WasTold-append takes u (told_first router happening answer) v (sent out.hands.sends) w hears out.hands.told;
  }

  pub Acts-lost : (v : V) (new_router : State) (new_lost : ℕ) → new_router ≡ router → new_lost ≡ counted lost 1
      → ActsTold takes v v (WithStream new_stream happening now) (around o router lost stream before) (around o new_router new_lost new_stream after)
  Acts-lost v new_router new_lost same more = record {
    acts = record {
      trace = one_moment now;
      does = inr (record {
        trace = refl;
        machine = λ i. record { router = same i; fib = o.fib; ended = o.ended; lost_memory = more i; stream = new_stream };
      });
      shows = record {
        calls = Gains-nil o.calls;
        moments = told;
        lost_sends = omega arith;
        log_ends = λ h. (h, refl);
        log_gains = λ h. Appends-nil o.text;
      };
    };
    told = refl;
  }

-- an outlet on which nothing was carried out
abbrev pub unused : Option (List Call) → Option (List ℕ) → OutletSeen
unused calls text =
    record { calls = calls; text = text; fib = map_of.empty; ended = false; lost_sends = 0; log_failed = false }

pub Started-carried : {V : Type 0} (takes : V → LinkReport → V → Type 0) (v w : V) (config : Config) (stream : Stream) (calls : Option (List Call)) (before after text : Option (List ℕ)) (now : ℕ) (p : OutletSeen) (answer : Answer) (router : State)
    → Gains before after (now ∷ []) → RouterStarts config now answer router → CarriesOut takes v w (unused calls text) answer p → p.ended ≡ false
    → Started config stream (untouched calls before text) (around p router 0 stream after)
Started-carried takes v w config stream calls before after text now p answer router told starts out on = record {
  trace = carried [] now answer out.hands.sends;
  comes_up = record {
    now = now;
    answer = answer;
    starts = starts;
    carries = Carries-out takes v w (unused calls text) p answer out [] now _ refl refl;
    going = on;
    lost_memory = refl;
    stream_is = refl;
  };
  shows = Shows-carried takes v w (unused calls text) p answer out [] 0 0 router router stream stream before after now told;
}

pub Acts-ticks : {V : Type 0} (takes : V → LinkReport → V → Type 0) (v w : V) (a b : Seen) (now word : ℕ) (stream : Stream) → (word, stream) ≡ next_u32 a.machine.stream
    → ActsTold takes v w (WithStream stream (Ticks now word) now) a b → ActsTold takes v w TicksOnce a b
Acts-ticks takes v w a b now word stream drawn it = record {
  acts = record {
    trace = it.acts.trace;
    does = record { now = now; word = word; stream = stream; drawn = drawn; step = it.acts.does };
    shows = it.acts.shows;
  };
  told = it.told;
}

pub Acts-takes : {V : Type 0} (takes : V → LinkReport → V → Type 0) (v w : V) (a b : Seen) (now : ℕ) (d : Datagram)
    → ActsTold takes v w (WithStream a.machine.stream (Arrives (arrival now d)) now) a b → ActsTold takes v w (TakesArrival d) a b
Acts-takes takes v w a b now d it =
    record { acts = record { trace = it.acts.trace; does = (now, it.acts.does); shows = it.acts.shows }; told = it.told }

-- ---- one turn
-- a call that is a `recv`
abbrev pub IsRecv : Call → Type 0
IsRecv (Handed s went) = ⊥
IsRecv Silent = Unit {0}
IsRecv (Gave d) = Unit {0}
IsRecv RecvFailed = Unit {0}

failed_sends-recv : (call : Call) → IsRecv call → failed_sends (call ∷ []) ≡ 0
failed_sends-recv (Handed s went) h = absurd h
failed_sends-recv Silent h = refl
failed_sends-recv (Gave d) h = refl
failed_sends-recv RecvFailed h = refl

pub Shows-listens : (call : Call) (a b : Seen) → IsRecv call → Listens call a b → Shows a.outside (one_call call) b.outside
Shows-listens call a b is h =
    let moments : b.outside.moments ≡ a.outside.moments = ap (λ o. o.moments) h.rest in
    let text : b.outside.text ≡ a.outside.text = ap (λ o. o.text) h.rest in
    let lost : b.outside.lost_sends ≡ a.outside.lost_sends = ap (λ o. o.lost_sends) h.rest in
    let failed : b.outside.log_failed ≡ a.outside.log_failed = ap (λ o. o.log_failed) h.rest in
    record {
      calls = h.calls;
      moments = subst (λ x. Gains x b.outside.moments []) moments (Gains-nil b.outside.moments);
      lost_sends = omega (arith, lost, failed_sends-recv call is);
      log_ends = λ e. (failed ∙ e, text);
      log_gains = λ e. subst (λ x. Appends x b.outside.text []) text (Appends-nil b.outside.text);
    }

gave-IsRecv : (o : Option Received) (buffer : List ℕ) → IsRecv (gave_call o buffer)
gave-IsRecv None buffer = tt
gave-IsRecv (Some r) buffer = tt

pub Turn-whole : (a b c d : Seen) (o : Option Received) (buffer : List ℕ) → a.machine.ended ≡ false → Listens (gave_call o buffer) a b → Acts (TakesReceived o buffer) b c
    → c.machine.ended ≡ false → Acts TicksOnce c d → Acts Turn a d
Turn-whole a b c d o buffer going listens takes on ticks = record {
  trace = followed_by (one_call (gave_call o buffer)) (followed_by takes.trace ticks.trace);
  does = record {
    going = going;
    call = gave_call o buffer;
    taken = takes.trace;
    middle = c.machine;
    ticked = ticks.trace;
    takes_in = subst (λ m. TakesIn (gave_call o buffer) m takes.trace c.machine) listens.machine takes.does;
    ticks = subst (λ e. TicksUnless e c.machine ticks.trace d.machine) (sym on) ticks.does;
    trace = refl;
  };
  shows = Shows-trans a.outside b.outside d.outside _ _ (Shows-listens (gave_call o buffer) a b (gave-IsRecv o buffer) listens)
      (Shows-trans b.outside c.outside d.outside _ _ takes.shows ticks.shows);
}

pub Turn-refused : (a b c : Seen) (o : Option Received) (buffer : List ℕ) → a.machine.ended ≡ false → Listens (gave_call o buffer) a b → Acts (TakesReceived o buffer) b c
    → c.machine.ended ≡ true → Acts Turn a c
Turn-refused a b c o buffer going listens takes on = record {
  trace = followed_by (one_call (gave_call o buffer)) (followed_by takes.trace no_step);
  does = record {
    going = going;
    call = gave_call o buffer;
    taken = takes.trace;
    middle = c.machine;
    ticked = no_step;
    takes_in = subst (λ m. TakesIn (gave_call o buffer) m takes.trace c.machine) listens.machine takes.does;
    ticks = subst (λ e. TicksUnless e c.machine no_step c.machine) (sym on) (refl, refl);
    trace = refl;
  };
  shows = Shows-trans a.outside b.outside c.outside _ _ (Shows-listens (gave_call o buffer) a b (gave-IsRecv o buffer) listens)
      (Shows-trans b.outside c.outside c.outside _ _ takes.shows (Shows-no_step c.outside));
}

-- the same, with what a watcher is told
module _ {V : Type 0} (hears : V → LinkReport → V → Type 0) where
  pub Turn-whole-told : (u v w : V) (a b c d : Seen) (o : Option Received) (buffer : List ℕ) → a.machine.ended ≡ false → Listens (gave_call o buffer) a b
      → ActsTold hears u v (TakesReceived o buffer) b c → c.machine.ended ≡ false → ActsTold hears v w TicksOnce c d → ActsTold hears u w Turn a d
  unfolding Turn-whole
  Turn-whole-told u v w a b c d o buffer going listens takes on ticks = record {
    acts = Turn-whole a b c d o buffer going listens takes.acts on ticks.acts;
    told = WasTold-append hears u takes.acts.trace.told v ticks.acts.trace.told w takes.told ticks.told;
  }

  pub Turn-refused-told : (u v : V) (a b c : Seen) (o : Option Received) (buffer : List ℕ) → a.machine.ended ≡ false → Listens (gave_call o buffer) a b
      → ActsTold hears u v (TakesReceived o buffer) b c → c.machine.ended ≡ true → ActsTold hears u v Turn a c
  unfolding Turn-refused
  Turn-refused-told u v a b c o buffer going listens takes on = record {
    acts = Turn-refused a b c o buffer going listens takes.acts on;
    told = WasTold-append hears u takes.acts.trace.told v [] v takes.told refl;
  }

-- ---- turns
pub Turns-more : (m : Machine) (ts : List Trace) (k : Machine) (t : Trace) (n : Machine) → Turns m ts k → Turn k t n → Turns m (ts ++ t ∷ []) n
Turns-more m [] k t n p q = (n, subst (λ x. Turn x t n) p q, refl)
Turns-more m (s ∷ ts) k t n p q = (p.0, p.1, Turns-more p.0 ts k t n p.2 q)

followed_by-no_step : (t : Trace) → followed_by t no_step ≡ t
followed_by-no_step t = simp append-nil

followed_by-assoc : (a b c : Trace) → followed_by (followed_by a b) c ≡ followed_by a (followed_by b c)
followed_by-assoc a b c = simp append_assoc

all_joined-more : (ts : List Trace) (t : Trace) → all_joined (ts ++ t ∷ []) ≡ followed_by (all_joined ts) t
all_joined-more [] t = followed_by-no_step t
all_joined-more (s ∷ ts) t = ap (followed_by s) (all_joined-more ts t) ∙ sym (followed_by-assoc s (all_joined ts) t)

pub Ran-none : (a : Seen) → Ran 0 a a
Ran-none a = record { traces = []; count_is = refl; turns = refl; shows = Shows-no_step a.outside }

pub Ran-more : (k : ℕ) (a b c : Seen) → Ran k a b → Acts Turn b c → Ran (k + 1) a c
Ran-more k a b c ran turn = record {
  traces = ran.traces ++ turn.trace ∷ [];
  count_is = rw (length-append ran.traces (turn.trace ∷ [])) (omega (arith, ran.count_is));
  turns = Turns-more a.machine ran.traces b.machine turn.trace c.machine ran.turns turn.does;
  shows = rw (all_joined-more ran.traces turn.trace) (Shows-trans a.outside b.outside c.outside _ _ ran.shows turn.shows);
}

Turns-append : (m : Machine) (ts : List Trace) (k : Machine) (us : List Trace) (n : Machine) → Turns m ts k → Turns k us n → Turns m (ts ++ us) n
Turns-append m [] k us n p q = subst (λ x. Turns x us n) p q
Turns-append m (t ∷ ts) k us n p q = (p.0, p.1, Turns-append p.0 ts k us n p.2 q)

all_joined-append : (ts us : List Trace) → all_joined (ts ++ us) ≡ followed_by (all_joined ts) (all_joined us)
all_joined-append [] us = refl
all_joined-append (t ∷ ts) us = ap (followed_by t) (all_joined-append ts us) ∙ sym (followed_by-assoc t (all_joined ts) (all_joined us))

-- turns, and then others
pub Ran-trans : (j k : ℕ) (a b c : Seen) → Ran j a b → Ran k b c → Ran (j + k) a c
Ran-trans j k a b c first second = record {
  traces = first.traces ++ second.traces;
  count_is = rw (length-append first.traces second.traces) (omega (arith, first.count_is, second.count_is));
  turns = Turns-append a.machine first.traces b.machine second.traces c.machine first.turns second.turns;
  shows = rw (all_joined-append first.traces second.traces) (Shows-trans a.outside b.outside c.outside _ _ first.shows second.shows);
}

-- ---- what a watcher is told of turns
module _ {V : Type 0} (takes : V → LinkReport → V → Type 0) where
  -- so many turns were made, and a watcher was told of just them
  pub record RanTold (v w : V) (count : ℕ) (a b : Seen) : Type 0 where
    pub ran : Ran count a b
    pub told : WasTold takes v (all_joined ran.traces).told w

  pub RanTold-none : (v : V) (a : Seen) → RanTold v v 0 a a
  unfolding Ran-none
  RanTold-none v a = record { ran = Ran-none a; told = refl }

  pub RanTold-more : (u v w : V) (k : ℕ) (a b c : Seen) → RanTold u v k a b → ActsTold takes v w Turn b c → RanTold u w (k + 1) a c
  unfolding Ran-more
  RanTold-more u v w k a b c ran turn = record {
    ran = Ran-more k a b c ran.ran turn.acts;
    told = subst (λ t. WasTold takes u t.told w) (sym (all_joined-more ran.ran.traces turn.acts.trace))
        (WasTold-append takes u (all_joined ran.ran.traces).told v turn.acts.trace.told w ran.told turn.told);
  }

  -- what a call for turns then answers
  pub TurnsObserved-all : (v w : V) (k n : ℕ) (a b : Seen) → k ≡ n → b.machine.ended ≡ false → RanTold v w k a b → TurnsObserved takes v w n a (Ok tt) b
  TurnsObserved-all v w k n a b all going ran =
      let it : RanTold v w n a b = subst (λ x. RanTold v w x a b) all ran in
      record { answer = (going, it.ran); told = it.told }

  pub TurnsObserved-deaf : (v w : V) (done n : ℕ) (a m b : Seen) → b.machine.ended ≡ false → done < n → RanTold v w done a m → Listens RecvFailed m b
      → TurnsObserved takes v w n a (Err (LinkFault done)) b
  TurnsObserved-deaf v w done n a m b going before ran deaf =
      record { answer = (going, before, record { middle = m; ran = ran.ran; deaf = deaf }); told = ran.told }

  pub TurnsObserved-refused : (v w : V) (count n : ℕ) (a b : Seen) → b.machine.ended ≡ true → count ≤ n → RanTold v w count a b
      → TurnsObserved takes v w n a (Err OutOfMemory) b
  TurnsObserved-refused v w count n a b ended within ran =
      record { answer = (ended, record { count = count; within = within; ran = ran.ran }); told = ran.told }
