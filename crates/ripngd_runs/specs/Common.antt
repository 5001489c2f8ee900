-- The names that the clauses of this crate cite, passed on from one place. Declares nothing.
pub use Rattle.ripngd_runs.specs.Below.{Appends, Failure, Forwarding, Prefix6, Lcg, IsNeverQuiet, FitsTablesSince, network_now, Network, Node, config_of, IsNetwork, OwnsPrefixes, PacketsArriveBy, IsBackedSince, OwnsSince, IsBacked, Order, Configuration, IsConfigured, HasFailed, HasRun, IsRan, IsUnderWay, lines_of, table_text, History, Call, Machine, all_joined, Seen, IsAwake, past_since, Deed, Happened, in_force, reconfigurations_by, traces_of, AllGoOn, forwardings_by, past_of_daemons, Dated, undated, RouteValue, infinity, Config, Change}
pub use Rattle.ripngd_runs.specs.Lives.{IsLife}
pub use Rattle.ripngd_runs.specs.Dated.{AreLives, HasNoEntry, HoldsLeast, IsLastRun, RunAnyhow, RunOnTime, daemons_of}
pub use Rattle.ripngd_runs.specs.Networks.{AreInTurn, AreRunning, HoldsOnlyWalks, LinkCall, OrdersNoChange, Program, WereOrdered}
