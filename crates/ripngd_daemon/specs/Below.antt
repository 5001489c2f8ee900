-- The names of std, of the crates below and of this crate's own types, passed on from one place. Declares nothing.
pub use Rattle.std.specs.Io.KnownBytes.{Appends}
pub use Rattle.std.specs.IoError.{error_kind}
pub use Rattle.std.specs.List.{sum_by, All, list_any}
pub use Rattle.std.specs.declared.alloc.Global.{Global}
pub use Rattle.fib.specs.Entries.{listed}
pub use Rattle.fib.specs.Forwarding.{Forwarding, Replays}
pub use Rattle.fib.specs.declared.change.Hop.{Hop}
pub use Rattle.fib.specs.declared.change.Hop.TheVariants.{Direct, Via}
pub use Rattle.fib.specs.declared.change.RouteChange.{RouteChange}
pub use Rattle.fib.specs.declared.change.RouteChange.TheVariants.{Install, Withdraw}
pub use Rattle.prefix6.specs.Addr.{is_link_local}
pub use Rattle.prefix6.specs.Prefix.{IsPrefix, Prefix6}
pub use Rattle.prefix6.specs.Written.{written_prefix}
pub use Rattle.rand_core.specs.Steps.{steps_u32, stream_of}
pub use Rattle.rand_core.specs.Stream.{Stream}
pub use Rattle.rand_pcg.specs.Lcg.{Lcg}
pub use Rattle.rand_pcg.specs.Pcg.{pcg32}
pub use Rattle.ripngd_command_line.specs.declared.asked.Ask.{Ask}
pub use Rattle.ripngd_command_line.specs.declared.asked.Order.{Order}
pub use Rattle.ripngd_config.specs.Configuration.{IsConfigured, RefusesConfig, HasOneEach}
pub use Rattle.ripngd_config.specs.declared.configuration.Config.{Config}
pub use Rattle.ripngd_config.specs.declared.fault.ConfigFault.{ConfigFault}
pub use Rattle.ripngd_control.specs.Clients.{ClientsState, Heeds, ObeysLine}
pub use Rattle.ripngd_control.specs.Commands.{control_text}
pub use Rattle.ripngd_control.specs.declared.command.Command.{Command}
pub use Rattle.ripngd_control.specs.declared.command.Command.TheVariants.{LinkDown, Stop, StopNow}
pub use Rattle.ripngd_control.specs.declared.control_socket.ListenFault.{ListenFault}
pub use Rattle.ripngd_control.specs.declared.counts.Losses.{Losses}
pub use Rattle.ripngd_engine.specs.Link.{Call, RecvFailed}
pub use Rattle.ripngd_engine.specs.Log.{HasNoLineFeed, change_text, log_of, entry_lines, hop_text, route_text}
pub use Rattle.ripngd_engine.specs.Run.{counted}
pub use Rattle.ripngd_engine.specs.Changing.{LinkComesUpOnce, ReconfiguresNothing}
pub use Rattle.ripngd_engine.specs.Seen.{Acts, Outside, Ran, RanUntilDeaf, Seen, Started, TurnsAnswer, untouched, seen}
pub use Rattle.ripngd_engine.specs.declared.peer.Peer.{Peer}
pub use Rattle.ripngd_engine.specs.declared.peer.Place.{Place}
pub use Rattle.ripngd_engine.specs.declared.peer.Socket.{Socket}
pub use Rattle.ripngd_engine.specs.declared.report.EngineFault.{EngineFault}
pub use Rattle.ripngd_engine.specs.declared.report.Report.{Report}
pub use Rattle.ripng_show.specs.Shown.{newline}
pub use Rattle.ripng_show.specs.declared.print_fault.PrintFault.{PrintFault}
pub use Rattle.ripngd_udp.specs.Peers.{OnLink, links_at}
pub use Rattle.ripngd_udp.specs.declared.udp.BindCause.{BindCause}
pub use Rattle.ripngd_udp.specs.declared.udp.UdpError.{UdpError}
pub use Rattle.router_core.specs.Faults.{ripng_port}
pub use Rattle.router_core.specs.Machine.{State}
pub use Rattle.ripngd_daemon.specs.declared.asking.Asking.{Asking}
pub use Rattle.ripngd_daemon.specs.declared.failure.Failure.{Failure}
pub use Rattle.ripngd_daemon.specs.declared.failure.FileCause.{FileCause}
pub use Rattle.ripngd_daemon.specs.declared.history.History.{History}
pub use Rattle.ripngd_daemon.specs.declared.questions.Sizes.{Sizes}
pub use Rattle.ripngd_daemon.specs.declared.reading.LogFault.{LogFault}
pub use Rattle.ripngd_daemon.specs.declared.reading.LogFault.TheVariants.{BadLine, OutOfMemory}
