-- A change that was carried out, or refused, is what the outside gained.
use Rattle.std.proofs.Common.{◌≡◌, ℕ, List, [], ◌∷◌, refl, arith, Option}
use Rattle.std.proofs.KnownBytes.{Appends-nil}
use Rattle.rand_core.specs.Stream.{Stream}
use Rattle.router_core.specs.Machine.{State, Happening, Moves, Reconfigures, ShutsDown, LinkGoesDown, LinkComesUp}
use Rattle.router_core.specs.declared.answer.Answer.{Answer}
use Rattle.router_core.specs.declared.reconfiguring.Change.{Change}
use Rattle.ripngd_engine.specs.Telling.{Gains}
use Rattle.ripngd_engine.specs.Observer.{LinkReport}
use Rattle.ripngd_engine.specs.Run.{Moved, told_first, one_moment}
use Rattle.ripngd_engine.specs.Outlet.{OutletSeen, CarriesOut}
use Rattle.ripngd_engine.specs.Seen.{Acts}
use Rattle.ripngd_engine.specs.Changing.{ReconfiguresOnce, ReconfiguresNothing, ShutsDownOnce, LinkGoesDownOnce, LinkComesUpOnce}
use Rattle.ripngd_engine.proofs.Tells.{Gains-nil}
use Rattle.ripngd_engine.proofs.Steps.{around, carried, Carries-out, Shows-carried}

module _ (o : OutletSeen) (router new_router : State) (lost : ℕ) (stream : Stream) (before after : Option (List ℕ)) (now : ℕ) (told : Gains before after (now ∷ [])) where
  -- any step that is told of by its datagrams alone
  Acts-moved : {V : Type 0} (takes : V → LinkReport → V → Type 0) (v w : V) (p : OutletSeen) (answer : Answer) (happening : Happening) → told_first router happening answer ≡ []
      → Moves router happening answer new_router → CarriesOut takes v w o answer p
      → Acts (λ m t n. Moved m happening now t n) (around o router lost stream before) (around p new_router lost stream after)
  Acts-moved takes v w p answer happening untold moves out = record {
    trace = carried [] now answer out.hands.sends;
    does = record {
      answer = answer;
      moves = moves;
      carries = rw untold (Carries-out takes v w o p answer out [] now _ refl refl);
      lost_memory = refl;
      stream = refl;
    };
    shows = Shows-carried takes v w o p answer out [] lost lost router new_router stream stream before after now told;
  }

  pub Acts-shut_down : {V : Type 0} (takes : V → LinkReport → V → Type 0) (v w : V) (p : OutletSeen) (answer : Answer)
      → Moves router (ShutsDown now) answer new_router → CarriesOut takes v w o answer p
      → Acts ShutsDownOnce (around o router lost stream before) (around p new_router lost stream after)
  Acts-shut_down takes v w p answer moves out =
      let a = Acts-moved takes v w p answer (ShutsDown now) refl moves out in
      record { trace = a.trace; does = (now, a.does); shows = a.shows }

  pub Acts-link_down : {V : Type 0} (takes : V → LinkReport → V → Type 0) (v w : V) (p : OutletSeen) (answer : Answer) (iface : ℕ)
      → Moves router (LinkGoesDown now iface) answer new_router → CarriesOut takes v w o answer p
      → Acts (LinkGoesDownOnce iface) (around o router lost stream before) (around p new_router lost stream after)
  Acts-link_down takes v w p answer iface moves out =
      let a = Acts-moved takes v w p answer (LinkGoesDown now iface) refl moves out in
      record { trace = a.trace; does = (now, a.does); shows = a.shows }

  pub Acts-link_up : {V : Type 0} (takes : V → LinkReport → V → Type 0) (v w : V) (p : OutletSeen) (answer : Answer) (iface : ℕ)
      → Moves router (LinkComesUp now iface) answer new_router → CarriesOut takes v w o answer p
      → Acts (LinkComesUpOnce iface) (around o router lost stream before) (around p new_router lost stream after)
  Acts-link_up takes v w p answer iface moves out =
      let a = Acts-moved takes v w p answer (LinkComesUp now iface) refl moves out in
      record { trace = a.trace; does = (now, a.does); shows = a.shows }

  pub Acts-changed : {V : Type 0} (takes : V → LinkReport → V → Type 0) (v w : V) (p : OutletSeen) (answer : Answer) (c : Change)
      → Moves router (Reconfigures now c) answer new_router → CarriesOut takes v w o answer p
      → Acts (ReconfiguresOnce c) (around o router lost stream before) (around p new_router lost stream after)
  Acts-changed takes v w p answer c moves out = record {
    trace = carried [] now answer out.hands.sends;
    does = (
      now,
      record {
        answer = answer;
        moves = moves;
        carries = Carries-out takes v w o p answer out [] now _ refl refl;
        lost_memory = refl;
        stream = refl;
      },
    );
    shows = Shows-carried takes v w o p answer out [] lost lost router new_router stream stream before after now told;
  }

  pub Acts-unchanged : new_router ≡ router → Acts ReconfiguresNothing (around o router lost stream before) (around o new_router lost stream after)
  Acts-unchanged same = record {
    trace = one_moment now;
    does = (now, refl, λ i. record { router = same i; fib = o.fib; ended = o.ended; lost_memory = lost; stream = stream });
    shows = record {
      calls = Gains-nil o.calls;
      moments = told;
      lost_sends = omega arith;
      log_ends = λ h. (h, refl);
      log_gains = λ h. Appends-nil o.text;
    };
  }
