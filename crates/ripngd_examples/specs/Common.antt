-- The names that the clauses of this crate cite, passed on from one place. Declares nothing.
pub use Rattle.prefix6.specs.Prefix.{Prefix6}
pub use Rattle.rand_core.specs.Stream.{Stream}
pub use Rattle.ripng_phases.specs.Ages.{IsAwake, IsRecent}
pub use Rattle.ripng_phases.specs.Minutes.{Timed}
pub use Rattle.ripng_world.specs.Network.{Network, IsNetwork}
pub use Rattle.ripng_world.specs.World.{World, IsCold}
pub use Rattle.ripngd_engine.specs.Run.{Machine}
pub use Rattle.ripngd_theorems.specs.Ages.{GoOnAnyhow}
pub use Rattle.ripngd_theorems.specs.OnTime.{Dated}
pub use Rattle.route_table.specs.Route.{RouteValue}
pub use Rattle.router_core.specs.Machine.{State}
