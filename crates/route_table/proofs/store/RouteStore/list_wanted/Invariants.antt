use Rattle.std.proofs.Common.{◌≡◌, ◌+◌, ◌-◌, ◌≤◌, ◌++◌, take, vec_len, vec_capacity}
use Rattle.std.specs.FinMap.{entries}
use Rattle.route_table.specs.Summary.{wanted_of}
use Rattle.route_table.specs.Table.{past}
use Rattle.route_table.proofs.store.RouteStore.list_wanted.Given as goal

-- what is listed, and what is still to be listed past the last of it, is what was asked for
abbrev pub invariant-loop-done : goal.invariant-loop-done
invariant-loop-done g l =
    let es = entries (g.Self.RouteStore.table l.self) in
    record {
      items : l.out.items ++ take (l.most - l._done) (wanted_of l.wanted (past l.after es))
          ≡ l.fn.out.items ++ take l.most (wanted_of l.wanted (past l.fn.after es));
      room : vec_len l.out + (l.most - l._done) ≤ vec_capacity l.out;
    }
