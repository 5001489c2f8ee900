use Rattle.std.proofs.Common.{◌≡◌, ◌+◌, ◌-◌, ◌≤◌, ◌++◌, length, take, drop, vec_len, vec_capacity}
use Rattle.route_table.specs.Summary.{wanted_of}
use Rattle.route_table.proofs.run.list_wanted.Given as goal

-- what is listed, and what is still to be listed of the routes from here on, is what was asked for
abbrev pub invariant-loop-entry : goal.invariant-loop-entry
invariant-loop-entry l = record {
  items : l.out.items ++ take l.left (wanted_of l.wanted (drop l.entry-index l.routes)) ≡ l.fn.out.items ++ take l.most (wanted_of l.wanted l.routes);
  left : l.left - length (wanted_of l.wanted (drop l.entry-index l.routes)) ≡ l.most - length (wanted_of l.wanted l.routes);
  room : vec_len l.out + l.left ≤ vec_capacity l.out;
}
