use Rattle.std.proofs.Common.{◌∷◌, flat_map, take}
use Rattle.json.specs.Token.{begin_array}
use Rattle.json.specs.Tree.{json_tokens}
use Rattle.ripngd_control.specs.Json.{Grows, neighbor_json, rows_at}
use Rattle.ripngd_control.proofs.status_json.write_neighbors.Given as goal

-- the rows so far are written, if they are of the interface
abbrev pub invariant-loop-row : goal.invariant-loop-row
invariant-loop-row l =
    Grows l.fn.text l.text (begin_array ∷ flat_map (λ n. json_tokens (neighbor_json l.now n)) (rows_at l.iface (take l.row-index l.rows)))
