-- What may fail, by what is asked.
use Rattle.std.specs.Prelude.{◌≡◌, ◌<◌, ◌⊎◌, ℕ, Bool, true, false, List, Option, None, Some, option_map, IsTrue, ⊤}
use Rattle.ripngd_daemon.specs.Below.{Ask, Failure}
use Rattle.ripngd_command_line.specs.declared.asked.Ask.TheVariants as asks
use Rattle.ripngd_daemon.specs.declared.failure.Failure.TheVariants as failures

-- the file of what it is about, which is read
abbrev pub file_of : Ask → Option (List ℕ)
file_of (asks.Show hex) = None
file_of (asks.Check file) = Some file.now
file_of (asks.Lab file) = Some file.now
file_of (asks.Mark marking) = Some marking.script.now
file_of (asks.Trace file) = Some file.now
file_of (asks.Explain file) = Some file.now
file_of (asks.Changes file) = Some file.now
file_of (asks.Run order) = Some order.config.now
file_of (asks.Ctl question) = None
file_of (asks.Table file) = Some file.now

-- a file of this name is read for it; to mark a script, that of an exercise may be, too
abbrev pub IsRead : Ask → List ℕ → Type 0
IsRead (asks.Mark marking) file = (file_of (asks.Mark marking) ≡ Some file) ⊎ (option_map (λ s. s.now) marking.exercise ≡ Some file)
IsRead ask file = file_of ask ≡ Some file

-- the file that gets its log
abbrev pub log_file_of : Ask → Option (List ℕ)
log_file_of (asks.Run order) = option_map (λ s. s.now) order.log
log_file_of _ = None

-- the path at which it listens
abbrev pub control_path_of : Ask → Option (List ℕ)
control_path_of (asks.Run order) = option_map (λ s. s.now) order.control
control_path_of _ = None

-- the path at which it asks
abbrev pub asks_at : Ask → Option (List ℕ)
asks_at (asks.Ctl question) = Some question.socket.now
asks_at _ = None

-- how many turns it makes
abbrev pub turns_of : Ask → ℕ
turns_of (asks.Run order) = order.turns
turns_of _ = 0

-- whether it has sockets
abbrev pub has_sockets : Ask → Bool
has_sockets (asks.Run order) = true
has_sockets _ = false

-- what may fail where this is asked: only files and paths that it names, and no link after its turns
abbrev pub MayFail : Ask → Failure → Type 0
MayFail ask (failures.Read file cause) = IsRead ask file.now
MayFail ask (failures.Log file cause) = log_file_of ask ≡ Some file.now
MayFail ask failures.Output = ⊤
MayFail ask (failures.Bind socket cause) = IsTrue (has_sockets ask)
MayFail ask (failures.Listen path why) = control_path_of ask ≡ Some path.now
MayFail ask (failures.Ask path) = asks_at ask ≡ Some path.now
MayFail ask (failures.Answer path) = asks_at ask ≡ Some path.now
MayFail ask (failures.Link done) = done < turns_of ask
MayFail ask failures.OutOfMemory = ⊤
