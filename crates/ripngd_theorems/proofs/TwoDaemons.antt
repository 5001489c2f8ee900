-- Two daemons on one link, for worked examples: the routers of `TwoRouters`, what each does, and what its link gives it.
use Rattle.std.proofs.Common.{◌≡◌, ℕ, max, nat_le, Bool, true, false, cond, List, [], ◌∷◌, ◌++◌, Option, Some, None, option_map, unwrap_or, inl, refl, ap, sym, ◌∙◌}
use Rattle.std.specs.FinMap as map_of
use Rattle.std.specs.Ordering.{eq_by_cmp}
use Rattle.rand_core.specs.Stream.{Stream, next_u32}
use Rattle.prefix6.specs.Prefix.{Prefix6, prefix_cmp, same_prefix}
use Rattle.prefix6.proofs.PrefixLaws.{prefixes_total, same_prefix-tie}
use Rattle.ripng_wire.specs.declared.rte.Command.TheVariants.{Request, Response}
use Rattle.ripng_wire.specs.Layout.{Fits}
use Rattle.route_table.specs.Route.{RouteValue}
use Rattle.fib.specs.Forwarding.{Forward, Forwarding, Replays, forward_of}
use Rattle.fib.specs.declared.change.Hop.{Hop}
use Rattle.fib.specs.declared.change.Hop.TheVariants.{Direct, Via}
use Rattle.fib.specs.declared.change.RouteChange.{RouteChange}
use Rattle.fib.specs.declared.change.RouteChange.TheVariants.{Install}
use Rattle.router_core.specs.Ageing.{aged}
use Rattle.router_core.specs.Changes.{change}
use Rattle.router_core.specs.Machine.{State}
use Rattle.router_core.specs.Output.{whole_table_request}
use Rattle.router_core.specs.Owning.{owned_route}
use Rattle.router_core.specs.Timers.{next_regular}
use Rattle.router_core.specs.declared.answer.Destination.TheVariants.{Group, Peer}
use Rattle.router_core.specs.declared.answer.Outgoing.{Outgoing}
use Rattle.ripng_world.specs.World.{sent_by}
use Rattle.ripngd_engine.specs.Link.{Datagram, Gave, Handed}
use Rattle.ripngd_engine.specs.Observer.{Processed, Begins, Sent}
use Rattle.ripngd_engine.specs.Run.{Machine, Trace, ComesUp, TakesIn, TicksOnce, arrived, begun}
use Rattle.ripngd_engine.specs.declared.observer.Update.TheVariants.{Regular}
use Rattle.ripngd_theorems.specs.Links.{IsCopyOf}
pub use Rattle.ripng_phases.proofs.TwoRouters.{doc, owned, facing, local, nodes, router, owner, learner, state, no_route, one_route, learned, told_once, get_one, fits_doc, entry_of, datagram, spelling, request, install_own, start_answer, update_answer, learn_answer, reply_answer, from_owner, from_learner, owner_starts, learner_starts, updates, learns_route, answers_request}

-- ---- forwarding tables of one entry

abbrev pub one_entry : Hop → ℕ → Forwarding
one_entry hop metric = map_of.insert map_of.empty doc (record { hop = hop; metric = metric })

get_entry : (hop : Hop) (metric : ℕ) (q : Prefix6) → map_of.get (one_entry hop metric) q ≡ cond (eq_by_cmp prefix_cmp q doc) (Some (record { hop = hop; metric = metric })) None
get_entry hop metric q =
    map_of.get-insert prefixes_total map_of.empty doc (record { hop = hop; metric = metric }) q
    ∙ ap (cond (eq_by_cmp prefix_cmp q doc) (Some (record { hop = hop; metric = metric }))) (map_of.get-empty prefix_cmp q)

installs : (hop : Hop) (metric : ℕ) → Replays map_of.empty (Install doc hop metric ∷ []) (one_entry hop metric)
installs hop metric p =
    get_entry hop metric p
    ∙ ap (λ b. cond b (Some entry) None) (sym (same_prefix-tie doc p))
    ∙ by_test (same_prefix doc p) (map_of.get map_of.empty p) (map_of.get-empty prefix_cmp p)
  where
    entry : Forward
    entry = record { hop = hop; metric = metric }

    by_test : (b : Bool) (old : Option Forward) → old ≡ None → cond b (Some entry) None ≡ unwrap_or (option_map forward_of (cond b (Some (Install doc hop metric)) None)) old
    by_test true old none = refl
    by_test false old none = sym none

-- ---- what each is

abbrev pub machine : State → Forwarding → Stream → Machine
machine state fib stream = record { router = state; fib = fib; ended = false; lost_memory = 0; stream = stream }

abbrev pub owner_is : (last regular hold : ℕ) → Stream → Machine
owner_is last regular hold stream = machine (state owner (one_route (owned_route 0)) last regular hold) (one_entry Direct 1) stream

abbrev pub learner_is : (last regular hold : ℕ) → Stream → Machine
learner_is last regular hold stream = machine (state learner no_route last regular hold) map_of.empty stream

abbrev pub learner_with : RouteValue → (last regular hold : ℕ) → Stream → Machine
learner_with r last regular hold stream = machine (state learner (one_route r) last regular hold) (one_entry (Via 0 (local 1)) 2) stream

-- the next word of a source, and what it has left
abbrev pub word_of : Stream → ℕ
word_of stream = (next_u32 stream).0

abbrev pub left : Stream → Stream
left stream = (next_u32 stream).1

-- ---- each starts

-- a datagram went out, and the routes changed so
abbrev pub sends : Outgoing → ℕ → List RouteChange → Trace
sends o now changes = record { calls = Handed o true ∷ []; moments = now ∷ []; changes = changes; told = Sent o true ∷ [] }

pub owner_up : (stream : Stream) (now : ℕ) → ComesUp owner stream (sends request now install_own) (owner_is now now now stream)
owner_up stream now =
    record {
      now = now;
      answer = start_answer install_own;
      starts = owner_starts now;
      carries = record { sends = (request, true) ∷ []; all_sends = refl; trace = refl; fib = installs Direct 1 };
      going = refl;
      lost_memory = refl;
      stream_is = refl;
    }

pub learner_up : (stream : Stream) (now : ℕ) → ComesUp learner stream (sends request now []) (learner_is now now now stream)
learner_up stream now =
    record {
      now = now;
      answer = start_answer [];
      starts = learner_starts now;
      carries = record { sends = (request, true) ∷ []; all_sends = refl; trace = refl; fib = λ p. refl };
      going = refl;
      lost_memory = refl;
      stream_is = refl;
    }

-- ---- a tick at which a regular update is due

-- the update went out
abbrev pub sends_update : Outgoing → ℕ → Trace
sends_update o now = record { calls = Handed o true ∷ []; moments = now ∷ []; changes = []; told = Begins Regular ∷ Sent o true ∷ [] }

abbrev pub update : RouteValue → Outgoing
update r = datagram Group Response (entry_of r)

pub ticks : (n : ℕ) (owned : List (Prefix6 × ℕ)) (r : RouteValue) (last regular hold now : ℕ) (fib : Forwarding) (stream : Stream)
    → nat_le regular (max last now) ≡ true → aged (max last now) r ≡ Some r → change doc (Some r) (Some r) ≡ None → Fits (entry_of r)
    → TicksOnce (machine (state (router n owned) (one_route r) last regular hold) fib stream) (sends_update (update r) now)
    (machine (state (router n owned) (one_route (told_once r)) (max last now) (next_regular (max last now) (word_of stream)) hold) fib (left stream))
ticks n owned r last regular hold now fib stream due stays same fits =
    record {
      now = now;
      word = word_of stream;
      stream = left stream;
      drawn = refl;
      step = inl (record {
        answer = update_answer r;
        moves = updates n owned r last regular hold (max last now) (word_of stream) due stays same fits;
        carries = record {
          sends = (update r, true) ∷ [];
          all_sends = refl;
          trace = ap (λ (b : Bool). record { calls = Handed (update r) true ∷ []; moments = now ∷ []; changes = []; told = begun b (update r ∷ []) ++ Sent (update r) true ∷ [] }) (sym due);
          fib = λ p. refl;
        };
        lost_memory = refl;
        stream = refl;
      });
    }

-- ---- what their link gives them

abbrev pub gives : ℕ → List ℕ → Datagram
gives n bytes = record { iface = 0; source = local n; source_port = 521; hop_limit = 255; to_group = true; bytes = bytes }

abbrev pub request_given : Datagram
request_given = gives 2 (spelling Request whole_table_request)

abbrev pub update_given : Datagram
update_given = gives 1 (spelling Response (entry_of (owned_route 0)))

pub request_copied : IsCopyOf nodes (sent_by 1 request) 0 request_given
request_copied = record { linked = record { here = facing 2; there = facing 1; here_is = refl; there_is = refl; same_link = refl }; source = refl; port = refl; hops = refl; bytes = refl }

pub update_copied : IsCopyOf nodes (sent_by 0 (update (owned_route 0))) 1 update_given
update_copied = record { linked = record { here = facing 1; there = facing 2; here_is = refl; there_is = refl; same_link = refl }; source = refl; port = refl; hops = refl; bytes = refl }

-- the owner answers the learner
abbrev pub reply : Outgoing
reply = datagram (Peer (local 2) 521) Response (entry_of (owned_route 0))

abbrev pub answers : ℕ → Trace
answers now =
    record {
      calls = Handed reply true ∷ [];
      moments = now ∷ [];
      changes = [];
      told = Processed (arrived (from_learner now)) request_given.bytes None [] ∷ Sent reply true ∷ [];
    }

pub takes_request : (last regular hold now : ℕ) (stream : Stream)
    → TakesIn (Gave request_given) (owner_is last regular hold stream) (answers now) (owner_is (max last now) regular hold stream)
takes_request last regular hold now stream = (
  now,
  inl (record {
    answer = reply_answer;
    moves = answers_request last regular hold now;
    carries = record { sends = (reply, true) ∷ []; all_sends = refl; trace = refl; fib = λ p. refl };
    lost_memory = refl;
    stream = refl;
  }),
)

-- the learner takes over a route of metric 2, by the owner
abbrev pub learns : ℕ → Trace
learns now =
    record {
      calls = [];
      moments = now ∷ [];
      changes = Install doc (Via 0 (local 1)) 2 ∷ [];
      told = Processed (arrived (from_owner now true)) update_given.bytes None [] ∷ [];
    }

pub takes_update : (last regular hold now : ℕ) (stream : Stream)
    → TakesIn (Gave update_given) (learner_is last regular hold stream) (learns now) (learner_with (learned (max last now)) (max last now) regular hold stream)
takes_update last regular hold now stream = (
  now,
  inl (record {
    answer = learn_answer;
    moves = learns_route last regular hold now true;
    carries = record { sends = []; all_sends = refl; trace = refl; fib = installs (Via 0 (local 1)) 2 };
    lost_memory = refl;
    stream = refl;
  }),
)
