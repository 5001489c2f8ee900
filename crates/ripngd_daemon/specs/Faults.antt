-- What the faults of what the program calls are to the program.
use Rattle.ripngd_daemon.specs.Below.{Failure, UdpError, EngineFault, PrintFault}
use Rattle.ripngd_daemon.specs.declared.failure.Failure.TheVariants as failures
use Rattle.ripngd_udp.specs.declared.udp.UdpError.TheVariants as link
use Rattle.ripngd_engine.specs.declared.report.EngineFault.TheVariants as engine
use Rattle.ripng_show.specs.declared.print_fault.PrintFault.TheVariants as faults

-- what a fault of what prints is to the program
abbrev pub failure_of : PrintFault → Failure
failure_of faults.OutOfMemory = failures.OutOfMemory
failure_of faults.Write = failures.Output

-- what a fault of the engine is to the program
abbrev pub failure_of_engine : EngineFault → Failure
failure_of_engine (engine.LinkFault done) = failures.Link done
failure_of_engine engine.OutOfMemory = failures.OutOfMemory

-- what a link that was not bound is to the program
abbrev pub failure_of_link : UdpError → Failure
failure_of_link (link.Bind socket cause) = failures.Bind socket cause
failure_of_link link.OutOfMemory = failures.OutOfMemory
