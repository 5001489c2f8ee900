use Rattle.std.proofs.Common.{◌∷◌, List, arith, flat_map, subst, sym}
use Rattle.std.proofs.lemmas.List.{take_all}
use Rattle.json.specs.Token.{begin_array}
use Rattle.json.specs.Tree.{json_tokens}
use Rattle.ripngd_control.specs.Json.{Grows, neighbor_json, rows_at}
use Rattle.ripngd_control.specs.declared.neighbors.Neighbor.{Neighbor}
use Rattle.ripngd_control.proofs.Jsons.{Grows-row, Grows-then, list_tokens, row_elsewhere}
use Rattle.ripngd_control.proofs.status_json.write_neighbors.Goals.{then-row-iface, else-row-iface}
use Rattle.ripngd_control.proofs.status_json.write_neighbors.Goals as goal

pub loop-row-preserved : goal.loop-row-preserved
loop-row-preserved c =
    let tokens = λ (n : Neighbor). json_tokens (neighbor_json c.args.now n) in
    let rows = c.args.rows.now in
    let row = c.row-item.result in
    elim c.if-row-iface.branch [
      | then-row-iface w ↦
          rw w.text-is
          (Grows-row tokens c.args.iface rows c.loop-row.row-index row c.loop-row-test.true c.row-item.is w.if-row-iface.true c.loop-row.invariant w.write_neighbor.ensures)
      | else-row-iface w ↦
          rw w.text-is
          (subst (λ (ns : List Neighbor). Grows c.args.text.now c.loop-row.text (begin_array ∷ flat_map tokens ns))
          (sym (row_elsewhere c.args.iface rows c.loop-row.row-index row c.loop-row-test.true c.row-item.is w.if-row-iface.false)) c.loop-row.invariant)
    ]

pub returns : goal.returns
returns c =
    let json = neighbor_json c.args.now in
    let rows = c.args.rows.now in
    let all = take_all c.loop-row.row-index rows (omega (arith, c.loop-row-test.false)) in
    let items = subst (λ (ns : List Neighbor). Grows c.args.text.now c.loop-row.text (begin_array ∷ flat_map (λ n. json_tokens (json n)) (rows_at c.args.iface ns))) all c.loop-row.invariant in
    subst (Grows c.args.text.now c.token-2.new.self) (list_tokens json (rows_at c.args.iface rows)) (Grows-then items c.token-2.ensures)
