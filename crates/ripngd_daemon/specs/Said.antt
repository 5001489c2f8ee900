-- What standard error says of a failure (the format is this project's choice).
use Rattle.std.specs.Prelude.{ℕ, List, [], ◌++◌, codes, decimal}
use Rattle.ripngd_daemon.specs.Below.{Failure, FileCause, ListenFault, newline, BindCause, Socket}
use Rattle.ripngd_daemon.specs.declared.failure.Failure.TheVariants as failures
use Rattle.ripngd_daemon.specs.declared.failure.FileCause.TheVariants as files
use Rattle.ripngd_control.specs.declared.control_socket.ListenFault.TheVariants as listening
use Rattle.ripngd_engine.specs.declared.peer.Socket.TheVariants as sockets
use Rattle.ripngd_udp.specs.declared.udp.BindCause.TheVariants as causes

-- why a router cannot listen, after the path
abbrev pub why_text : ListenFault → List ℕ
why_text listening.Taken = codes ": somebody answers there"
why_text listening.Shared = codes ": others may write to it; start under umask 077"
why_text listening.Failed = []

-- why a port cannot be bound, after the port
abbrev pub cause_text : BindCause → List ℕ
cause_text causes.NotPermitted = codes ": not permitted"
cause_text causes.InUse = codes ": in use"
cause_text causes.Other = []

-- that a port of loopback cannot be bound, or that the sockets of a real link are not there, from the number of the first
abbrev pub socket_text : Socket → List ℕ
socket_text (sockets.Local port group_port) = codes "cannot bind " ++ decimal port
socket_text (sockets.Inherited alone group far) = codes "no sockets of port 521 at descriptor " ++ (decimal alone ++ codes " and those with it")

-- why a file cannot be read or written, after its name
abbrev pub file_cause_text : FileCause → List ℕ
file_cause_text files.NotFound = codes ": not found"
file_cause_text files.NotPermitted = codes ": not permitted"
file_cause_text files.IsDirectory = codes ": is a directory"
file_cause_text files.Full = codes ": no space left"
file_cause_text files.InUse = codes ": in use"
file_cause_text files.IsConfig = codes ": is the configuration"
file_cause_text files.Other = []

-- what failed, with its file, its path, its socket or its turns
abbrev pub failure_text : Failure → List ℕ
failure_text (failures.Read file cause) = codes "cannot read " ++ (file.now ++ file_cause_text cause)
failure_text (failures.Log file cause) = codes "cannot write " ++ (file.now ++ file_cause_text cause)
failure_text failures.Output = codes "cannot write stdout"
failure_text (failures.Bind socket cause) = socket_text socket ++ cause_text cause
failure_text (failures.Listen path why) = codes "cannot listen at " ++ (path.now ++ why_text why)
failure_text (failures.Ask path) = codes "nobody listens at " ++ path.now
failure_text (failures.Answer path) = codes "no whole answer from " ++ path.now
failure_text (failures.Link done) = codes "link fault after " ++ (decimal done ++ codes " turns")
failure_text failures.OutOfMemory = codes "out of memory"

-- its line, `ripngd: ` and what failed
abbrev pub failure_line : Failure → List ℕ
failure_line failure = codes "ripngd: " ++ (failure_text failure ++ newline)
