-- How an answer of a router is carried out.
use Rattle.std.specs.Prelude.{ℕ, ◌≡◌, List, Option, Bool, true, false}
use Rattle.std.specs.Io.KnownBytes.{Appends}
use Rattle.fib.specs.Forwarding.{Forwarding}
use Rattle.router_core.specs.declared.answer.Answer.{Answer}
use Rattle.router_core.specs.declared.answer.Outgoing.{Outgoing}
use Rattle.ripngd_engine.specs.Telling.{Gains}
use Rattle.ripngd_engine.specs.Link.{Call, failed_sends}
use Rattle.ripngd_engine.specs.Log.{log_of}
use Rattle.ripngd_engine.specs.Run.{Sends, datagrams_of, handed, sent, counted, FollowsUnless}
use Rattle.ripngd_engine.specs.Observer.{LinkReport, WasTold}
use Rattle.ripngd_engine.specs.declared.outlet.Outlet.{Outlet}

-- what an outlet holds, and its log
pub record OutletSeen : Type 0 where
  pub calls : Option (List Call)  -- what its link tells
  pub text : Option (List ℕ)  -- what stands in the log
  pub fib : Forwarding
  pub ended : Bool
  pub lost_sends : ℕ
  pub log_failed : Bool

-- an outlet and its log, where `calls` gives the calls of a link, and `text` the text of a log
abbrev pub outlet_seen : {L W : Type 0} → (L → Option (List Call)) → (W → Option (List ℕ)) → Outlet L → W → OutletSeen
outlet_seen calls text o log =
    record {
      calls = calls o.link;
      text = text log;
      fib = o.fib;
      ended = o.ended;
      lost_sends = o.lost_sends;
      log_failed = o.log_failed;
    }

-- datagrams were handed to a link, each once and in order, failed or not; those that failed were counted, and an observer was
-- notified of each
pub record HandsOver {V : Type 0} (takes : V → LinkReport → V → Type 0) (v w : V) (before after : Option (List Call)) (datagrams : List Outgoing) (lost lost_after : ℕ) : Type 0 where
  pub sends : Sends
  pub all_sends : datagrams_of sends ≡ datagrams
  pub calls : Gains before after (handed sends)
  pub count : lost_after ≡ counted lost (failed_sends (handed sends))
  pub told : WasTold takes v (sent sends) w

-- an answer's datagrams were handed over, its changes followed, and a line written for each
pub record CarriesOut {V : Type 0} (takes : V → LinkReport → V → Type 0) (v w : V) (o : OutletSeen) (answer : Answer) (p : OutletSeen) : Type 0 where
  pub hands : HandsOver takes v w o.calls p.calls answer.sends o.lost_sends p.lost_sends
  pub fib : FollowsUnless p.ended o.fib answer.changes p.fib
  pub log_ends : o.log_failed ≡ true → (p.log_failed ≡ true) × (p.text ≡ o.text)
  pub log_gains : p.log_failed ≡ false → Appends o.text p.text (log_of answer.changes)
