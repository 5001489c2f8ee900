-- Runs grow by turns and by what clients tell.
use Rattle.std.proofs.Common.{◌≡◌, ◌∙◌, ◌+◌, ◌<◌, ◌≤◌, ℕ, zero, suc, Bool, false, List, [], ◌∷◌, ◌++◌, length, Option, Result, Ok, Err, refl, sym, ap, subst, inl, inr, append-nil, arith}
use Rattle.std.specs.Prelude.{◌⊎◌, None, Some, IfErr, IsErrAnd, OnOk}
use Rattle.std.specs.Io.KnownBytes.{Appends}
use Rattle.std.proofs.lemmas.Bool.{false≢true}
use Rattle.rand_pcg.specs.Lcg.{Lcg}
use Rattle.router_core.specs.Config.{Config as RouterValue}
use Rattle.ripngd_command_line.specs.declared.asked.Order.{Order}
use Rattle.ripngd_config.specs.Configuration.{IsConfigured}
use Rattle.ripngd_config.specs.declared.configuration.Config.{Config}
use Rattle.ripngd_udp.specs.Peers.{OnLink}
use Rattle.ripngd_control.specs.Clients.{ClientsState}
use Rattle.ripngd_engine.specs.Link.{Call, RecvFailed}
use Rattle.ripngd_engine.specs.Run.{Trace, Turns, all_joined}
use Rattle.ripngd_engine.specs.Seen.{Ran, RanUntilDeaf, Seen, Started, TurnsAnswer, untouched}
use Rattle.ripngd_engine.specs.Telling.{Gains}
use Rattle.ripngd_engine.specs.declared.report.EngineFault.TheVariants as engine
use Rattle.ripngd_daemon.specs.Run.{FailsBound, FailsIn, HasDone, HasFailed, IsCutOff, IsOver, links_of, Lasts, ShowsRun, Stops, calls_at, lines_of, words_of}
use Rattle.ripngd_daemon.specs.Losses.{AreLossesOf, has_failed}
use Rattle.ripngd_daemon.specs.Tabled.{table_text}
use Rattle.ripngd_daemon.specs.Written.{begins_with}
use Rattle.ripngd_daemon.specs.declared.failure.Failure.{Failure}
use Rattle.ripngd_daemon.specs.declared.failure.Failure.TheVariants as failures
use Rattle.ripngd_daemon.specs.declared.history.History.{History}
use Rattle.ripngd_daemon.proofs.Courses.{ran_more}

-- what a run shows is of a router that started and lasted, over a link that was never called
pub shows_run : (order : Order) (router : RouterValue) (rng : Lcg) (history : History) (first calls : List Call) (read bytes : List ℕ) (begun done : Seen)
    (moments : List ℕ) (old new : Option (List ℕ)) → first ≡ [] → read ≡ [] → bytes ≡ begins_with order.log order.append
    → Started router (words_of rng) (untouched (Some first) (Some read) (Some bytes)) begun → Lasts order.turns order.seconds (lines_of history.clients) begun done
    → done.outside.calls ≡ Some calls → history.ports.calls ≡ Some calls → done.outside.moments ≡ Some moments → done.outside.text ≡ Some history.log.past.bytes
    → AreLossesOf done.outside.lost_sends done.machine.lost_memory (has_failed order.log done.outside.log_failed) history.lost
    → Appends old new (table_text done.machine.fib) → ShowsRun order router rng history old new
shows_run order router rng history first calls read bytes begun done moments old new uncalled unread is_begun started lasts are is told log lost shown = (
  done.machine.fib,
  record {
    calls = calls;
    begun = begun;
    done = done;
    started = rw (uncalled, unread, is_begun) at started;
    lasts = lasts;
    calls_are = (are, is);
    moments = moments;
    moments_are = told;
    log_is = log;
    lost = lost;
    table_is = refl;
  },
  shown,
)

-- by whatever its turns answered
pub shows_outcome : (order : Order) (router : RouterValue) (rng : Lcg) (history : History) (clients : Option ClientsState) (first calls : List Call)
    (read bytes : List ℕ) (begun done : Seen) (moments : List ℕ) (old new : Option (List ℕ)) (r : Result (Unit {0}) Failure) → history.clients ≡ clients → first ≡ [] → read ≡ []
    → bytes ≡ begins_with order.log order.append → Started router (words_of rng) (untouched (Some first) (Some read) (Some bytes)) begun
    → OnOk r (Lasts order.turns order.seconds (lines_of clients) begun done) → done.outside.calls ≡ Some calls → history.ports.calls ≡ Some calls
    → done.outside.moments ≡ Some moments → done.outside.text ≡ Some history.log.past.bytes → AreLossesOf done.outside.lost_sends done.machine.lost_memory (has_failed order.log done.outside.log_failed) history.lost
    → OnOk r (Appends old new (table_text done.machine.fib)) → OnOk r (ShowsRun order router rng history old new)
shows_outcome order router rng history clients first calls read bytes begun done moments old new (Ok u) same uncalled unread is_begun started lasts are is told log lost shown =
    shows_run order router rng history first calls read bytes begun done moments old new uncalled unread is_begun started (rw (sym same) at lasts) are is told log lost shown
shows_outcome order router rng history clients first calls read bytes begun done moments old new (Err e) same uncalled unread is_begun started lasts are is told log lost shown = tt

-- whatever a call answers
pub on_ok : {A : Type 0} (r : Result (Unit {0}) Failure) → A → OnOk r A
on_ok (Ok u) holds = holds
on_ok (Err e) holds = tt

-- ---- a run that failed

-- turns up to one that did not end the router, or ended it
pub ended_after : (seconds : Option ℕ) (count : ℕ) (lines : List (List ℕ)) (a b : Seen) → HasDone seconds count lines a b
    → FailsIn seconds lines failures.OutOfMemory a b
ended_after seconds count lines a b has = record { count = count; now = b; has_done = has; stops = refl }

-- a turn that memory ended was one turn
refused_turn : (a b : Seen) → a.machine.ended ≡ false → TurnsAnswer 1 a (Err engine.OutOfMemory) b → Ran 1 a b
refused_turn a b going (ended, refused) = by refused.count refused.within refused.ran
  where
    none : (ts : List Trace) → length ts ≡ 0 → Turns a.machine ts b.machine → ⊥
    none [] count turns = false≢true (sym going ∙ ap (λ m. m.ended) (sym turns) ∙ ended)
    none (t ∷ ts) count turns = omega (arith, count)

    by : (n : ℕ) → n ≤ 1 → Ran n a b → Ran 1 a b
    by zero within ran = absurd (none ran.traces ran.count_is ran.turns)
    by (suc zero) within ran = ran
    by (suc (suc n)) within ran = absurd (omega (arith, within))

-- a turn more that memory ended, after which no client was served
pub refused_after : (seconds : Option ℕ) (count : ℕ) (before after : List (List ℕ)) (a m b : Seen) → HasDone seconds count before a m
    → m.machine.ended ≡ false → ¬ (IsOver seconds m.machine.router.last) → after ≡ before → TurnsAnswer 1 m (Err engine.OutOfMemory) b
    → FailsIn seconds after failures.OutOfMemory a b
refused_after seconds count before after a m b has going in_time same answer =
    subst (λ lines. FailsIn seconds lines failures.OutOfMemory a b) (sym same)
    (ended_after seconds (count + 1) before a b (ran_more seconds count before a m b has in_time (refused_turn m b going answer)))

-- a link that failed in the next turn
pub deaf_after : (seconds : Option ℕ) (count done : ℕ) (before after : List (List ℕ)) (a m b : Seen) → HasDone seconds count before a m
    → after ≡ before → TurnsAnswer 1 m (Err (engine.LinkFault done)) b → FailsIn seconds after (failures.Link count) a b
deaf_after seconds count done before after a m b has same (going, low, until) = by done low until
  where
    by : (n : ℕ) → n < 1 → RanUntilDeaf n m b → FailsIn seconds after (failures.Link count) a b
    by zero low until = record {
      count = count;
      now = m;
      has_done = subst (λ lines. HasDone seconds count lines a m) (sym same) has;
      stops = (refl, going, until);
    }
    by (suc n) low until = absurd (omega (arith, low))

-- what lasted and then was not written
pub unwritten : (most : ℕ) (seconds : Option ℕ) (lines : List (List ℕ)) (a b : Seen) → Lasts most seconds lines a b → FailsIn seconds lines failures.Output a b
unwritten most seconds lines a b lasts = record { count = lasts.count; now = b; has_done = lasts.has_done; stops = refl }

-- the calls and moments until a failure, where those at the end are told
record CallsUntil (failure : Failure) (now : Seen) (all : List Call) : Type 0 where
  before : List Call
  told : now.outside.calls ≡ Some before
  all_are : all ≡ before ++ calls_at failure
  moments : List ℕ
  moments_are : now.outside.moments ≡ Some moments

-- what a link told is told before it
gains_before : {X : Type 0} (a b : Option (List X)) (more all : List X) → Gains a b more → b ≡ Some all → (before : List X) × (a ≡ Some before) × (all ≡ before ++ more)
gains_before None b more all gains is = let e : None ≡ Some all = sym gains ∙ is in absurd (cc e)
gains_before (Some before) None more all gains is = absurd (cc is)
gains_before (Some before) (Some after) more all gains is = (before, refl, (let e : after ≡ all = cc is in sym e ∙ gains))

still : (now end : Seen) (all : List Call) (read : List ℕ) → end ≡ now → end.outside.calls ≡ Some all → end.outside.moments ≡ Some read → CallsUntil failures.Output now all
still now end all read same is told = record {
  before = all;
  told = ap (λ s. s.outside.calls) (sym same) ∙ is;
  all_are = sym (append-nil all);
  moments = read;
  moments_are = ap (λ s. s.outside.moments) (sym same) ∙ told;
}

still_out : (now end : Seen) (all : List Call) (read : List ℕ) → end ≡ now → end.outside.calls ≡ Some all → end.outside.moments ≡ Some read → CallsUntil failures.OutOfMemory now all
still_out now end all read same is told =
    let out = still now end all read same is told in
    record { before = out.before; told = out.told; all_are = out.all_are; moments = out.moments; moments_are = out.moments_are }

calls_until : (failure : Failure) (count : ℕ) (now end : Seen) (all : List Call) (read : List ℕ) → Stops failure count now end → end.outside.calls ≡ Some all
    → end.outside.moments ≡ Some read → CallsUntil failure now all
calls_until (failures.Link done) count now end all read stops is told =
    let until = stops.2 in
    let deaf = gains_before until.middle.outside.calls end.outside.calls (RecvFailed ∷ []) all until.deaf.calls is in
    let before = by until.ran.traces until.ran.count_is until.ran.shows.calls deaf.0 deaf.1 in
    let kept : until.middle.outside.moments ≡ Some read = ap (λ o. o.moments) (sym until.deaf.rest) ∙ told in
    let given = gains_before now.outside.moments until.middle.outside.moments (all_joined until.ran.traces).moments read until.ran.shows.moments kept in
    record { before = deaf.0; told = before; all_are = deaf.2; moments = given.0; moments_are = given.1 }
  where
    by : (ts : List Trace) → length ts ≡ 0 → Gains now.outside.calls stops.2.middle.outside.calls (all_joined ts).calls → (calls : List Call)
        → stops.2.middle.outside.calls ≡ Some calls → now.outside.calls ≡ Some calls
    by [] count gains calls are =
        let first = gains_before now.outside.calls stops.2.middle.outside.calls [] calls gains are in
        first.1 ∙ ap Some (sym (first.2 ∙ append-nil first.0))
    by (t ∷ ts) count gains calls are = absurd (omega (arith, count))
calls_until failures.Output count now end all read stops is told = still now end all read stops is told
calls_until failures.OutOfMemory count now end all read stops is told = still_out now end all read stops is told
calls_until (failures.Read file cause) count now end all read stops is told = absurd stops
calls_until (failures.Log file cause) count now end all read stops is told = absurd stops
calls_until (failures.Bind socket cause) count now end all read stops is told = absurd stops
calls_until (failures.Listen path why) count now end all read stops is told = absurd stops
calls_until (failures.Ask path) count now end all read stops is told = absurd stops
calls_until (failures.Answer path) count now end all read stops is told = absurd stops

-- a run that failed in its turns, over a link that was never called
pub has_failed_run : (order : Order) (router : RouterValue) (rng : Lcg) (failure : Failure) (history : History) (clients : Option ClientsState) (first calls : List Call)
    (read bytes moments : List ℕ) (begun done : Seen) → history.clients ≡ clients → first ≡ [] → read ≡ [] → bytes ≡ begins_with order.log order.append
    → Started router (words_of rng) (untouched (Some first) (Some read) (Some bytes)) begun → FailsIn order.seconds (lines_of clients) failure begun done
    → done.outside.calls ≡ Some calls → history.ports.calls ≡ Some calls → done.outside.moments ≡ Some moments → done.outside.text ≡ Some history.log.past.bytes
    → AreLossesOf done.outside.lost_sends done.machine.lost_memory (has_failed order.log done.outside.log_failed) history.lost
    → HasFailed order router rng failure history
has_failed_run order router rng failure history clients first calls read bytes moments begun done same uncalled unread is_begun started fails are is told log lost =
    let until = calls_until failure fails.count fails.now done calls moments fails.stops are told in
    record {
      calls = until.before;
      now = fails.now;
      end = done;
      under_way = record {
        begun = begun;
        count = fails.count;
        started = rw (uncalled, unread, is_begun) at started;
        has_done = rw (sym same) at fails.has_done;
        calls_are = until.told;
        moments = until.moments;
        moments_are = until.moments_are;
      };
      stops = fails.stops;
      calls_are = (are ∙ ap Some until.all_are, is ∙ ap Some until.all_are);
      log_is = log;
      lost = lost;
    }

-- by whatever its turns answered
pub fails_outcome : (order : Order) (router : RouterValue) (rng : Lcg) (history : History) (clients : Option ClientsState) (first calls : List Call)
    (read bytes moments : List ℕ) (begun done : Seen) (r : Result (Unit {0}) Failure) → history.clients ≡ clients → first ≡ [] → read ≡ []
    → bytes ≡ begins_with order.log order.append → Started router (words_of rng) (untouched (Some first) (Some read) (Some bytes)) begun
    → IfErr r (λ failure. FailsIn order.seconds (lines_of clients) failure begun done) → done.outside.calls ≡ Some calls → history.ports.calls ≡ Some calls
    → done.outside.moments ≡ Some moments → done.outside.text ≡ Some history.log.past.bytes → AreLossesOf done.outside.lost_sends done.machine.lost_memory (has_failed order.log done.outside.log_failed) history.lost
    → IfErr r (λ failure. FailsBound order router rng failure history)
fails_outcome order router rng history clients first calls read bytes moments begun done (Ok u) same uncalled unread is_begun started fails are is told log lost = tt
fails_outcome order router rng history clients first calls read bytes moments begun done (Err e) same uncalled unread is_begun started fails are is told log lost =
    inr (has_failed_run order router rng e history clients first calls read bytes moments begun done same uncalled unread is_begun started fails are is told log lost)

-- what is known of a run that failed stays when its clients can come no more
failing_stopped : (order : Order) (router : RouterValue) (rng : Lcg) (failure : Failure) (before after : History)
    → lines_of after.clients ≡ lines_of before.clients → after ≡ record before { clients = after.clients }
    → FailsBound order router rng failure before → FailsBound order router rng failure after
failing_stopped order router rng failure before after lines same (inl untold) = inl (ap (λ h. h.ports.calls) same ∙ untold)
failing_stopped order router rng failure before after lines same (inr run) = inr (record {
  calls = run.calls;
  now = run.now;
  end = run.end;
  under_way = record {
    begun = run.under_way.begun;
    count = run.under_way.count;
    started = run.under_way.started;
    has_done = rw (sym lines) at run.under_way.has_done;
    calls_are = run.under_way.calls_are;
    moments = run.under_way.moments;
    moments_are = run.under_way.moments_are;
  };
  stops = run.stops;
  calls_are = (run.calls_are.0, ap (λ h. h.ports.calls) same ∙ run.calls_are.1);
  log_is = run.log_is ∙ ap (λ h. Some h.log.past.bytes) (sym same);
  lost = rw (ap (λ h. h.lost) (sym same)) at run.lost;
})

pub outcome_stopped : (order : Order) (router : RouterValue) (rng : Lcg) (before after : History) (r : Result (Unit {0}) Failure)
    → lines_of after.clients ≡ lines_of before.clients → after ≡ record before { clients = after.clients }
    → IfErr r (λ failure. FailsBound order router rng failure before) → IfErr r (λ failure. FailsBound order router rng failure after)
outcome_stopped order router rng before after (Ok u) lines same fails = tt
outcome_stopped order router rng before after (Err e) lines same fails = failing_stopped order router rng e before after lines same fails

-- its ports were bound
pub bound_outcome : (order : Order) (router : RouterValue) (rng : Lcg) (old new : History) (links : List OnLink) (r : Result (Unit {0}) Failure) → new.ports.on_links ≡ Some links
    → IfErr r (λ failure. FailsBound order router rng failure new)
    → IfErr r (λ failure. (new ≡ old) ⊎ ((new.ports.on_links ≡ Some links) × FailsBound order router rng failure new))
bound_outcome order router rng old new links (Ok u) is fails = tt
bound_outcome order router rng old new links (Err e) is fails = inr (is, fails)

-- of the text that was read, by whatever passes the failure on
pub cut_off : (Holds : List ℕ → Type 0) (order : Order) (text : List ℕ) (config : Config) (why : Failure) (old new : History) (r : Result Bool Failure) → Holds text
    → IsConfigured text order.tag order.quiet config
    → (new ≡ old) ⊎ ((new.ports.on_links ≡ Some (links_of config)) × FailsBound order config.router config.rng why new)
    → IsErrAnd r (λ failure. failure ≡ why) → IfErr r (λ failure. (new ≡ old) ⊎ ((t : List ℕ) × Holds t × IsCutOff order t failure new))
cut_off Holds order text config why old new (Ok accepted) here is fails passed = absurd passed
cut_off Holds order text config why old new (Err e) here is fails passed =
    subst (λ failure. (new ≡ old) ⊎ ((t : List ℕ) × Holds t × IsCutOff order t failure new)) (sym passed) (by fails)
  where
    by : (new ≡ old) ⊎ ((new.ports.on_links ≡ Some (links_of config)) × FailsBound order config.router config.rng why new)
        → (new ≡ old) ⊎ ((t : List ℕ) × Holds t × IsCutOff order t why new)
    by (inl same) = inl same
    by (inr bound) = inr (text, here, (config, is, bound.0, bound.1))

-- what is known of a run stays when its clients can come no more
pub listening_stopped : (order : Order) (router : RouterValue) (rng : Lcg) (before after : History) (old new : Option (List ℕ)) (r : Result (Unit {0}) Failure)
    → lines_of after.clients ≡ lines_of before.clients → after ≡ record before { clients = after.clients }
    → OnOk r (ShowsRun order router rng before old new) → OnOk r (ShowsRun order router rng after old new)
listening_stopped order router rng before after old new (Err e) lines same shows = tt
listening_stopped order router rng before after old new (Ok u) lines same (table, run, wrote) = (
  table,
  record {
    calls = run.calls;
    begun = run.begun;
    done = run.done;
    started = run.started;
    lasts = rw (sym lines) at run.lasts;
    calls_are = (run.calls_are.0, ap (λ h. h.ports.calls) same ∙ run.calls_are.1);
    moments = run.moments;
    moments_are = run.moments_are;
    log_is = run.log_is ∙ ap (λ h. Some h.log.past.bytes) (sym same);
    lost = rw (ap (λ h. h.lost) (sym same)) at run.lost;
    table_is = run.table_is;
  },
  wrote,
)
