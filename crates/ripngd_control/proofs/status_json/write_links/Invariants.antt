use Rattle.std.proofs.Common.{◌∷◌, flat_map, take}
use Rattle.std.specs.List.{enumerate_from}
use Rattle.json.specs.Token.{begin_array}
use Rattle.json.specs.Tree.{json_tokens}
use Rattle.ripngd_control.specs.Json.{Grows, link_json}
use Rattle.ripngd_control.specs.Links.{links_seen}
use Rattle.ripngd_control.proofs.status_json.write_links.Given as goal

-- the interfaces so far are written
abbrev pub invariant-loop-number : goal.invariant-loop-number
invariant-loop-number g l =
    Grows l.fn.text l.text (begin_array ∷ flat_map (λ e. json_tokens (link_json l.now l.rows (links_seen l.monitor.links l.engine.queues) e)) (take l.number (enumerate_from 0 l.interfaces)))
