-- A run of the program is a daemon's life.
use Rattle.std.proofs.Common.{◌≡◌, ℕ, true, false, List, [], ◌∷◌, Option, Some, None, length, refl, ap, sym, subst, ◌∙◌, append-nil, arith}
use Rattle.std.specs.Io.KnownBytes.{Appends}
use Rattle.std.proofs.KnownBytes.{Appends-nil}
use Rattle.rand_pcg.specs.Lcg.{Lcg}
use Rattle.fib.specs.Forwarding.{Forwarding}
use Rattle.router_core.specs.Config.{Config}
use Rattle.ripngd_command_line.specs.declared.asked.Order.{Order}
use Rattle.ripngd_config.specs.Configuration.{IsConfigured}
use Rattle.ripngd_config.specs.declared.configuration.Config.{Config as Configuration}
use Rattle.ripngd_daemon.specs.Run.{HasFailed, HasRun, IsRan, IsUnderWay, Stops, lines_of, outside_before, words_of}
use Rattle.ripngd_daemon.specs.Tabled.{table_text}
use Rattle.ripngd_daemon.specs.declared.failure.Failure.{Failure}
use Rattle.ripngd_daemon.specs.declared.failure.Failure.TheVariants as failures
use Rattle.ripngd_daemon.specs.declared.history.History.{History}
use Rattle.ripngd_engine.specs.Link.{Call, RecvFailed}
use Rattle.ripngd_engine.specs.Run.{Machine, Trace, Turns, all_joined, no_step, one_call}
use Rattle.ripngd_engine.specs.Seen.{Listens, RanUntilDeaf, Seen, Shows}
use Rattle.ripngd_engine.specs.Telling.{Gains}
use Rattle.ripngd_engine.proofs.Steps.{Shows-no_step, Shows-trans}
use Rattle.ripngd_theorems.specs.Daemons.{Start, Listen, Deed, Lives, in_force, traces_of}
use Rattle.ripngd_runs.specs.Lives.{AreActsForLines, IsLife}
use Rattle.ripngd_runs.proofs.Asking.{DidSteps, all_done, led_then}
use Rattle.ripngd_runs.proofs.Obeying.{Did, nothing}
use Rattle.ripngd_runs.proofs.Staying.{lives_interfaces}

-- a life, the calls of its link, and the moments of its clock
abbrev pub HasLife : Config → Option Machine → Order → List Call → List ℕ → List (List ℕ) → Seen → Type 0
HasLife config before order calls moments lines now =
    (deeds : List Deed) × IsLife config before order lines deeds now
    × (calls ≡ (all_joined (traces_of deeds)).calls) × (moments ≡ (all_joined (traces_of deeds)).moments)

-- a life that goes on from a run, where clients order nothing more
pub lives_then : (order : Order) (config : Config) (before : Option Machine) (rng : Lcg) (calls : List Call) (lines : List (List ℕ)) (now end : Seen)
    → IsUnderWay order (in_force config before) rng calls lines now → Did config now [] end → (deeds : List Deed) × IsLife config before order lines deeds end
lives_then order config before rng calls lines now end run then =
    let up : Lives config before (record { act = Start; trace = run.started.trace } ∷ []) (Some run.begun.machine) = (run.begun.machine, (words_of rng, run.started.comes_up), refl) in
    let did : DidSteps config (in_force config before) order.seconds run.has_done.steps run.begun now run.has_done.are_done =
    all_done config (in_force config before) order.seconds run.has_done.steps run.begun now
    (lives_interfaces config before (record { act = Start; trace = run.started.trace } ∷ []) run.begun.machine up) run.has_done.are_done run.has_done.asks in
    let all = led_then config (in_force config before) order.seconds run.has_done.steps run.begun now end run.has_done.are_done did.0 did.2 then in (
      record { act = Start; trace = run.started.trace } ∷ all.deeds,
      record {
        first = record { act = Start; trace = run.started.trace };
        later = all.deeds;
        deeds_are = refl;
        starts = refl;
        once = all.unstarted;
        lives = (run.begun.machine, (words_of rng, run.started.comes_up), all.lives);
        shows = Shows-trans (outside_before order) run.begun.outside end.outside run.started.trace (all_joined (traces_of all.deeds)) run.started.shows all.shows;
        ordered =
            subst (AreActsForLines (in_force config before) lines) (sym all.ordered)
            (subst (λ ls. AreActsForLines (in_force config before) ls did.0) run.has_done.told did.1);
        asks = λ iface. (run.begun.machine, (words_of rng, run.started.comes_up), all.asks iface);
      },
    )

-- the calls of a life, where its link tells them
told_calls : (config : Config) (before : Option Machine) (order : Order) (calls : List Call) (lines : List (List ℕ)) (deeds : List Deed) (now : Seen)
    → IsLife config before order lines deeds now → now.outside.calls ≡ Some calls → calls ≡ (all_joined (traces_of deeds)).calls
told_calls config before order calls lines deeds now life are =
    subst (λ o. Gains (Some []) o (all_joined (traces_of deeds)).calls) are life.shows.calls

pub run_lives : (order : Order) (config : Config) (before : Option Machine) (rng : Lcg) (calls : List Call) (lines : List (List ℕ)) (now : Seen)
    → (run : IsUnderWay order (in_force config before) rng calls lines now) → HasLife config before order calls run.moments lines now
run_lives order config before rng calls lines now run =
    let life = lives_then order config before rng calls lines now now run (nothing config now now refl) in (
      life.0,
      life.1,
      told_calls config before order calls lines life.0 now life.1 run.calls_are,
      subst (λ o. Gains (Some []) o (all_joined (traces_of life.0)).moments) run.moments_are life.1.shows.moments,
    )

pub whole_under_way : (order : Order) (router : Config) (rng : Lcg) (history : History) (table : Forwarding) (run : HasRun order router rng history table)
    → IsUnderWay order router rng run.calls (lines_of history.clients) run.done
whole_under_way order router rng history table run = record {
  begun = run.begun;
  count = run.lasts.count;
  started = run.started;
  has_done = run.lasts.has_done;
  calls_are = run.calls_are.0;
  moments = run.moments;
  moments_are = run.moments_are;
}

pub whole_lives : (order : Order) (router : Config) (rng : Lcg) (history : History) (table : Forwarding) (run : HasRun order router rng history table)
    → (deeds : List Deed) × IsLife router None order (lines_of history.clients) deeds run.done
    × (history.ports.calls ≡ Some (all_joined (traces_of deeds)).calls) × (run.moments ≡ (all_joined (traces_of deeds)).moments)
    × (table ≡ run.done.machine.fib) × (run.done.machine.ended ≡ false)
unfolding whole_under_way
whole_lives order router rng history table run =
    let life = run_lives order router None rng run.calls (lines_of history.clients) run.done (whole_under_way order router rng history table run) in
    (life.0, life.1, run.calls_are.1 ∙ ap Some life.2, life.3, run.table_is, run.lasts.goes_on)

pub ran_lives : (order : Order) (text : List ℕ) (history : History) (old new : Option (List ℕ)) → IsRan order text history true old new
    → (config : Configuration) × IsConfigured text order.tag order.quiet config
    × (deeds : List Deed) × (now : Seen) × IsLife config.router None order (lines_of history.clients) deeds now
    × (history.ports.calls ≡ Some (all_joined (traces_of deeds)).calls) × Appends old new (table_text now.machine.fib) × (now.machine.ended ≡ false)
ran_lives order text history old new ran =
    let shows = ran.4 in
    let life = whole_lives order ran.0.router ran.0.rng history shows.0 shows.1 in
    (ran.0, ran.1, life.0, shows.1.done, life.1, life.2, subst (λ t. Appends old new (table_text t)) life.4 shows.2, life.5)

-- ---- a run that failed

-- a `recv` that failed, as a deed
abbrev deaf : Deed
deaf = record { act = Listen RecvFailed; trace = one_call RecvFailed }

module _ (config : Config) (now end : Seen) (going : end.machine.ended ≡ false) where
  -- what a failed `recv` shows
  heard_nothing : (middle : Seen) → Listens RecvFailed middle end → Shows middle.outside (one_call RecvFailed) end.outside
  heard_nothing middle listens = record {
    calls = listens.calls;
    moments = subst (λ o. Gains middle.outside.moments o []) (ap (λ x. x.moments) (sym listens.rest)) (Shows-no_step middle.outside).moments;
    lost_sends = omega (arith, ap (λ x. x.lost_sends) listens.rest);
    log_ends = λ failed. (ap (λ x. x.log_failed) listens.rest ∙ failed, ap (λ x. x.text) listens.rest);
    log_gains = λ well. subst (λ o. Appends middle.outside.text o []) (ap (λ x. x.text) (sym listens.rest)) (Appends-nil middle.outside.text);
  }

  listened : RanUntilDeaf 0 now end → Did config now [] end
  listened until = by until.ran.traces until.ran.count_is until.ran.turns until.ran.shows
    where
      by : (ts : List Trace) → length ts ≡ 0 → Turns now.machine ts until.middle.machine → Shows now.outside (all_joined ts) until.middle.outside → Did config now [] end
      by (t ∷ ts) count turns shows = absurd (omega (arith, count))
      by [] count turns shows =
          let still : end.machine ≡ now.machine = until.deaf.machine ∙ turns in
          record {
            deeds = deaf ∷ [];
            lives = (end.machine, (sym (ap (λ x. x.ended) still) ∙ going, (refl, still)), refl);
            shows = Shows-trans now.outside until.middle.outside end.outside no_step (one_call RecvFailed) shows (heard_nothing until.middle until.deaf);
            ordered = refl;
            unstarted = ((λ e. cc e), tt);
            unasked = λ iface. (refl, tt);
          }

-- what it did last
stopped : (config : Config) (failure : Failure) (count : ℕ) (now end : Seen) → Stops failure count now end → Did config now [] end
stopped config (failures.Link done) count now end stops = listened config now end stops.1 stops.2
stopped config failures.Output count now end stops = nothing config now end stops
stopped config failures.OutOfMemory count now end stops = nothing config now end stops
stopped config (failures.Read file cause) count now end stops = absurd stops
stopped config (failures.Log file cause) count now end stops = absurd stops
stopped config (failures.Bind socket cause) count now end stops = absurd stops
stopped config (failures.Listen path why) count now end stops = absurd stops
stopped config (failures.Ask path) count now end stops = absurd stops
stopped config (failures.Answer path) count now end stops = absurd stops

pub failed_lives : (order : Order) (router : Config) (rng : Lcg) (failure : Failure) (history : History) (run : HasFailed order router rng failure history)
    → (deeds : List Deed) × IsLife router None order (lines_of history.clients) deeds run.end × (history.ports.calls ≡ Some (all_joined (traces_of deeds)).calls)
failed_lives order router rng failure history run =
    let life = lives_then order router None rng run.calls (lines_of history.clients) run.now run.end run.under_way
    (stopped router failure run.under_way.count run.now run.end run.stops) in
    (life.0, life.1, run.calls_are.1 ∙ ap Some (told_calls router None order _ (lines_of history.clients) life.0 run.end life.1 run.calls_are.0))
