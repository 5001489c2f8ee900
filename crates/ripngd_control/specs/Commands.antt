-- The lines of commands (the format is this project's choice).
use Rattle.std.specs.Prelude.{ℕ, Bool, List, ◌++◌, ◌==◌, ◌||◌, codes, decimal}
use Rattle.ripngd_control.specs.Below.{list_any, written_addr, written_prefix, Cost, Own, Disown, Add, Remove, Command}
use Rattle.ripngd_control.specs.declared.command.Command.TheVariants as commands

-- a command, without its line feed
abbrev pub control_text : Command → List ℕ
control_text commands.Routes = codes "routes"
control_text commands.Table = codes "table"
control_text (commands.Lookup destination) = codes "lookup " ++ written_addr destination.0
control_text commands.Counts = codes "counts"
control_text commands.Status = codes "status"
control_text commands.StatusJson = codes "status json"
control_text commands.Neighbors = codes "neighbors"
control_text commands.Stop = codes "stop"
control_text commands.StopNow = codes "stop now"
control_text (commands.LinkDown iface) = codes "link down " ++ decimal iface
control_text (commands.LinkUp iface) = codes "link up " ++ decimal iface
control_text (commands.Reconfigure (Cost iface cost)) = codes "cost " ++ (decimal iface ++ (codes " " ++ decimal cost))
control_text (commands.Reconfigure (Own p tag)) = codes "gain " ++ (written_prefix p ++ (codes " " ++ decimal tag))
control_text (commands.Reconfigure (Disown p)) = codes "drop " ++ written_prefix p
control_text (commands.Link (Add iface addr port)) = codes "peer " ++ (decimal iface ++ (codes " " ++ (written_addr addr ++ (codes " " ++ decimal port))))
control_text (commands.Link (Remove iface addr)) = codes "unpeer " ++ (decimal iface ++ (codes " " ++ written_addr addr))

-- whether a text has a sign, `+` or `-`, which no command has
abbrev pub has_sign : List ℕ → Bool
has_sign text = list_any (λ byte. byte == 43 || byte == 45) text
