-- The names that the clauses of this crate cite, passed on from one place. Declares nothing.
pub use Rattle.ripng_world.specs.Below.{AllByRecursion, list_any, IsDistinct, result_err, Prefix6, cleared, Spells, first_reason, Response, Rte, RouteValue, infinity, Table, Learned, IsLongestMatch, IsMatch, FibHop, aged_table, forwards, forward, Config, reasons_of_each, IsConfig, Hearing, Heard, State, Happening, Moves, Starts, IsNamed, reconfigured_table, Answer, NoMemory, Change, OutOfMemory, Delivered, Sent, Refused}
pub use Rattle.ripng_world.specs.Network.{Network, HasNoLists, HaveNoLists, AreZoned, HasDistinctAddresses, IsNetwork, OwnsPrefixes, config_of, interface_at}
pub use Rattle.ripng_world.specs.Walks.{IsTableBacked, Hop, IsWalk, BeginsAs, Reaches, cost, IsLeast}
pub use Rattle.ripng_world.specs.Past.{IsTableBackedSince, Past, ReachesSince, IsLeastSince}
pub use Rattle.ripng_world.specs.World.{WorldRun, Tick, IsCold, reconfigurations_in, past_of, World, Event, Deliver, Reconfigure, arrival_from, address_at, sent_by, Stranger, is_heard}
pub use Rattle.ripng_world.specs.Rounds.{router_of, IsDueTick, Round, SynchronousRounds, AreWithinTimeout, events_of_rounds}
pub use Rattle.ripng_world.specs.Truth.{IsNeighbor, IsSoundTable, IsSoundEntry, IsSoundDatagram}
pub use Rattle.ripng_world.specs.TruthSince.{IsNeighborSince, IsSoundTableSince, IsSoundEntrySince, IsSoundDatagramSince}
pub use Rattle.ripng_world.specs.Convergence.{IsNeverQuiet, AreLetThrough, FitsTables, AreConverged}
pub use Rattle.ripng_world.specs.NetworkFaults.{address_reasons, addresses, faults_of_router, names_zone, net_refused_name, network_fault, router_reasons}
pub use Rattle.ripng_world.specs.Events.{event_of}
pub use Rattle.ripng_world.specs.Stations.{coded_states, network_of, world_of, IsFor, IsPlaced, StationValue, most_sends}
pub use Rattle.ripng_world.specs.Labs.{LabValue, lab_error_name, refusal_of, Keeps, HasRun, HasNoneBelowLeast, HasNoneBelowLeastSince, AreDatagramsSoundSince, AreDatagramsSound, HappensGiving, IsRefusedNext, StepEnds, link_at, event_fault, lab_of, Acts, IsOwnRefusal, IsPlacedIn, own_refusal, missing_interface_reasons, missing_router_reasons}
pub use Rattle.ripng_world.specs.Lying.{lie_fault, IsLieRefusal, LiesGiving}
pub use Rattle.ripng_world.specs.AskedRounds.{deliveries_of, delivery, interfaces_of, is_other, is_picked, other_deliveries, pairs_since, picked_deliveries, AreAllMade, Converges, ticks_of}
pub use Rattle.ripng_world.specs.Linked.{AreListed, interfaces_on, interfaces_there, listed_on, place_if}
pub use Rattle.ripng_world.specs.Delivering.{StopAt, StopForMemory, deliveries_since}
pub use Rattle.ripng_world.specs.Stopping.{HaveStopped, RoundStops, RoundsStop, round_in, stop_name}
pub use Rattle.ripng_world.specs.Watching.{HeardInPart, WatchedInPart, WatchedRun, failures, heard, AreMadeTold, IfRefused, IsMadeTold, RoundToldInPart, RoundsToldInPart, due, WatchedUntil, failures_in, refusal_in, Told, refused_as}
pub use Rattle.ripng_world.specs.Healing.{Heals, AreWithinGarbageTime, AreHealed, FitsTablesSince, network_now}
pub use Rattle.ripng_world.specs.Packets.{LetsArrive, Forwardings, ForwardsBy, ArriveBy, AreThere, PacketsArrive, forwardings_of, routers_of, HandsOn}
pub use Rattle.ripng_world.specs.Path.{IsPath, PathValue, EndsAt, LeadsTo}
