-- The names that the clauses of this crate cite, passed on from one place. Declares nothing.
pub use Rattle.ripngd_theorems.specs.Below.{AllByRecursion, Forward, Via, Prefix6, IsPrefix, is_routable, Stream, IsNeverQuiet, FitsTablesSince, IsHealed, network_now, Network, AreLinked, IsNetwork, OwnsPrefixes, PacketsArriveBy, IsBackedSince, IsLeastSince, OwnsSince, IsSoundDatagramSince, IsLeast, IsBacked, World, Event, IsCold, WorldRun, address_at, Shutdown, Happens, Sent, ShutsDownOnce, LinkGoesDownOnce, LinkComesUpOnce, ReconfigureAnswer, StepAnswer, Machine, all_joined, Seen, Outside, Shows, Started, TurnsAnswer, ChangeFault, EngineFault, RouteValue, infinity, forwards, forward, Config, is_announced, is_passive, mtu_at, State, Happening, Moves, ShutsDown, LinkGoesDown, is_learned_on, Answer, Change}
pub use Rattle.ripngd_theorems.specs.Daemons.{Happened, Lives, reconfigurations_by, Start, Deed, in_force, traces_of}
pub use Rattle.ripngd_theorems.specs.Delivering.{AllGoOn, forwardings_by}
pub use Rattle.ripngd_theorems.specs.LastUpdate.{AreRoutes, HasNoneBy, HearsFrom, IsDeliveredWhole, IsHeardWhole, sent_on}
pub use Rattle.ripngd_theorems.specs.Links.{LiveOn, all_handed, HaveRun, IsRunOf, past_of_daemons}
pub use Rattle.ripngd_theorems.specs.OnTime.{AreOnTime, Dated, ForwardsLeast, GoOn, HappenFrom, undated}
pub use Rattle.ripngd_theorems.specs.Ages.{GoOnAnyhow, IsAwake, past_since}
