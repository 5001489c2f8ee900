-- A network that meets `AreRunning`, worked out: two routers on one link, each one run of the program so far. Both start and ask. The
-- Request of the second comes to the first, which answers it, and makes its first regular update. That comes to the second, which then
-- holds a route of metric 2 by the first, and advertises it as unreachable on that link.
use Rattle.std.proofs.Common.{◌≡◌, ℕ, zero, suc, ◌<◌, true, false, List, [], ◌∷◌, ◌++◌, Option, Some, None, slice_get, codes, inl, refl, ap, sym, arith}
use Rattle.std.specs.FinMap as map_of
use Rattle.rand_core.specs.Stream.{Stream}
use Rattle.rand_pcg.specs.Lcg.{Lcg}
use Rattle.fib.specs.declared.change.Hop.TheVariants.{Direct, Via}
use Rattle.route_table.proofs.TableLaws.{Some-same}
use Rattle.router_core.specs.Config.{Config}
use Rattle.router_core.specs.Owning.{owned_route}
use Rattle.router_core.specs.Timers.{next_regular}
use Rattle.ripng_world.specs.Network.{Node, config_of}
use Rattle.ripng_world.specs.World.{sent_by}
use Rattle.ripngd_command_line.specs.declared.asked.Order.{Order}
use Rattle.ripngd_daemon.specs.Run.{Turned, Begun, words_of}
use Rattle.ripngd_engine.specs.Link.{Call, Gave, Handed, failed_sends}
use Rattle.ripngd_engine.specs.Log.{log_of}
use Rattle.ripngd_engine.specs.Run.{Machine, Trace, ComesUp, Turn, counted, followed_by, one_call}
use Rattle.ripngd_engine.specs.Seen.{Outside}
use Rattle.ripng_phases.proofs.TwoRouters.{zoned}
use Rattle.ripngd_theorems.proofs.TwoDaemons.{doc, owned, local, nodes, owner, learner, learned, told_once, request, install_own, get_one, fits_doc, one_entry, owner_is, learner_is, learner_with, word_of, left, sends, sends_update, owner_up, learner_up, update, ticks, request_given, update_given, request_copied, update_copied, reply, answers, takes_request, learns, takes_update}
use Rattle.ripngd_runs.specs.Networks.{AreCallsGiven, AreInTurn, AreRunning, LinkCall, Program, calls_of, own_calls}

-- ---- what both runs have

-- `ripngd run a.toml`
abbrev order : Order
order =
    record {
      quiet = false;
      debug = false;
      tag = 0;
      log = None;
      append = false;
      turns = 4_294_967_295;
      seconds = None;
      control = None;
      config = record { ref_ptr = (0, 0); now = codes "a.toml" };
      signed = false;
    }

abbrev rng : Lcg
rng = record { state = 0; increment = 1 }

abbrev words : Stream
words = words_of rng

-- what is told of the clock of a run
abbrev moments_told : List ℕ → Option (List ℕ)
moments_told moments = Some moments

abbrev outside : List Call → List ℕ → List ℕ → Outside
outside calls moments text = record { calls = Some calls; moments = moments_told moments; text = Some text; lost_sends = 0; log_failed = false }

-- a run that has started and made one turn, and lost no datagram of its own
pub one_turn : (router : Config) (up turn : Trace) (begun now : Machine) → ComesUp router words up begun → Turn begun turn now
    → failed_sends up.calls ≡ 0 → failed_sends (turn.calls ++ []) ≡ 0 → Program
one_turn router up turn begun now comes_up turns went went_too =
    record {
      order = order;
      router = router;
      rng = rng;
      calls = up.calls ++ (turn.calls ++ []);
      lines = [];
      now = record { machine = now; outside = outside (up.calls ++ (turn.calls ++ [])) (up.moments ++ (turn.moments ++ [])) (log_of up.changes ++ log_of (turn.changes ++ [])) };
      under_way = record {
        begun = record { machine = begun; outside = outside up.calls up.moments (log_of up.changes) };
        count = 1;
        started = record {
          trace = up;
          comes_up = comes_up;
          shows = record { calls = refl; moments = refl; lost_sends = ap (counted 0) (sym went); log_ends = λ e. absurd (not_failed e); log_gains = λ e. refl };
        };
        has_done = record {
          steps = Turned Begun;
          turns = refl;
          told = refl;
          are_done = (
            record { machine = begun; outside = outside up.calls up.moments (log_of up.changes) },
            refl,
            (
              λ over. over,
              record {
                traces = turn ∷ [];
                count_is = refl;
                turns = (now, turns, refl);
                shows = record { calls = refl; moments = refl; lost_sends = ap (counted 0) (sym went_too); log_ends = λ e. absurd (not_failed e); log_gains = λ e. refl };
              },
            ),
          );
          asks = tt;
        };
        calls_are = refl;
        moments = up.moments ++ (turn.moments ++ []);
        moments_are = refl;
      };
    }
  where
    not_failed : false ≡ true → ⊥
    not_failed e = cc

-- ---- the run of the first: it starts, takes in the Request, answers it, and ticks

abbrev owner_trace : Trace
owner_trace = followed_by (one_call (Gave request_given)) (followed_by (answers 12) (sends_update (update (owned_route 0)) 13))

pub owner_turn : Turn (owner_is 10 10 10 words) owner_trace (owner_is 13 (next_regular 13 (word_of words)) 10 (left words))
owner_turn =
    record {
      going = refl;
      call = Gave request_given;
      taken = answers 12;
      middle = owner_is 12 10 10 words;
      ticked = sends_update (update (owned_route 0)) 13;
      takes_in = takes_request 10 10 10 12 words;
      ticks = ticks 1 owned (owned_route 0) 12 10 10 13 (one_entry Direct 1) words refl refl refl (fits_doc 0 1 (omega arith) (omega arith));
      trace = refl;
    }

abbrev owner_runs : Program
owner_runs = one_turn owner (sends request 10 install_own) owner_trace (owner_is 10 10 10 words) (owner_is 13 (next_regular 13 (word_of words)) 10 (left words)) (owner_up words 10) owner_turn refl refl

-- ---- the run of the second: it starts, takes in the update, and ticks

abbrev learner_trace : Trace
learner_trace = followed_by (one_call (Gave update_given)) (followed_by (learns 12) (sends_update (update (learned 12)) 13))

abbrev learner_now : Machine
learner_now = learner_with (told_once (learned 12)) 13 (next_regular 13 (word_of words)) 10 (left words)

pub learner_turn : Turn (learner_is 10 10 10 words) learner_trace learner_now
learner_turn =
    record {
      going = refl;
      call = Gave update_given;
      taken = learns 12;
      middle = learner_with (learned 12) 12 10 10 words;
      ticked = sends_update (update (learned 12)) 13;
      takes_in = takes_update 10 10 10 12 words;
      ticks = ticks 2 [] (learned 12) 12 10 10 13 (one_entry (Via 0 (local 1)) 2) words refl refl refl (fits_doc 0 16 (omega arith) (omega arith));
      trace = refl;
    }

abbrev learner_runs : Program
learner_runs = one_turn learner (sends request 10 []) learner_trace (learner_is 10 10 10 words) learner_now (learner_up words 10) learner_turn refl refl

-- ---- the network

abbrev runs : ℕ → List Program
runs zero = owner_runs ∷ []
runs (suc zero) = learner_runs ∷ []
runs (suc (suc n)) = []

abbrev by : ℕ → Call → LinkCall
by router call = record { router = router; call = call }

abbrev happened : List LinkCall
happened =
    by 0 (Handed request true)
    ∷ by 1 (Handed request true)
    ∷ by 0 (Gave request_given)
    ∷ by 0 (Handed reply true)
    ∷ by 0 (Handed (update (owned_route 0)) true)
    ∷ by 1 (Gave update_given)
    ∷ by 1 (Handed (update (learned 12)) true)
    ∷ []

in_turn : (router : ℕ) (node : Node) → slice_get nodes router ≡ Some node → AreInTurn (config_of node) (runs router)
unfolding one_turn
in_turn zero node is = (ap config_of (Some-same _ node is), tt)
in_turn (suc zero) node is = (ap config_of (Some-same _ node is), tt)
in_turn (suc (suc n)) node is = tt

calls : (router : ℕ) → router < 2 → own_calls router happened ≡ calls_of (runs router)
unfolding one_turn
calls zero lt = refl
calls (suc zero) lt = refl
calls (suc (suc n)) lt = absurd (omega arith)

given : AreCallsGiven nodes [] happened
given = (
  λ node is. tt,
  (
    λ node is. tt,
    (
      λ node is. inl (record { sent = sent_by 1 request; before = (1, omega arith, refl); copy = request_copied }),
      (
        λ node is. tt,
        (
          λ node is. tt,
          (λ node is. inl (record { sent = sent_by 0 (update (owned_route 0)); before = (3, omega arith, refl); copy = update_copied }), (λ node is. tt, tt)),
        ),
      ),
    ),
  ),
)

pub are_running : AreRunning nodes runs happened
are_running = record { zoned = zoned; known = (omega arith, (omega arith, (omega arith, (omega arith, (omega arith, (omega arith, (omega arith, tt))))))); in_turn = in_turn; calls = calls; given = given }

-- what the second holds: a route of metric 2 to 2001:db8::/32, by fe80::1
pub holds_route : map_of.get learner_runs.now.machine.router.table doc ≡ Some (told_once (learned 12))
unfolding one_turn
holds_route = get_one (told_once (learned 12)) doc
