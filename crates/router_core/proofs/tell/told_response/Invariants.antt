use Rattle.std.proofs.Common.{map, take}
use Rattle.router_core.specs.Common.{Response, Spells, told_entry}
use Rattle.router_core.proofs.tell.told_response.Given as goal

abbrev pub invariant-loop-prefix : goal.invariant-loop-prefix
invariant-loop-prefix l = Spells Response (map (told_entry l.iface) (take l.prefix-index l.piece)) l.bytes.items
