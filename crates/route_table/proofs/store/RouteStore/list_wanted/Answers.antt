use Rattle.std.proofs.Common.{◌≡◌, Some, ◌+◌, ◌-◌, ◌++◌, take, sym, ap, ◌∙◌, arith, append-nil}
use Rattle.std.specs.FinMap.{entries, entries_sorted}
use Rattle.route_table.specs.Summary.{meets, wanted_of}
use Rattle.route_table.specs.Place.{Entries}
use Rattle.route_table.specs.Table.{past}
use Rattle.route_table.proofs.WantedEntries.{passing_more, passing_ends}
use Rattle.route_table.proofs.store.RouteStore.list_wanted.Goals as goal

pub loop-done-preserved : goal.loop-done-preserved
loop-done-preserved g c =
    let table = g.Self.RouteStore.table c.args.self.now in
    let after = c.loop-done.after in
    record {
      items =
          ap (λ (l : Entries). l ++ take (c.args.most - (c.loop-done._done + 1)) (wanted_of c.args.wanted (past (Some c.in-Some.entry.0) (entries table)))) c.push_reserved.ensures.items
          ∙ passing_more (meets c.args.wanted) after (entries table) (entries_sorted table) c.loop-done.out.items c.args.most c.loop-done._done c.in-Some.entry c.loop-done-test.true (sym c.first_wanted.ensures ∙ c.in-Some.is)
          ∙ c.loop-done.invariant.items;
      room = omega (arith, c.loop-done.invariant.room, c.loop-done-test.true, c.push_reserved.ensures.len, c.push_reserved.ensures.capacity);
    }

pub returns-in_default : goal.returns-in_default
returns-in_default g c =
    let table = g.Self.RouteStore.table c.args.self.now in
    sym (passing_ends (meets c.args.wanted) c.loop-done.after (entries table) (entries_sorted table) c.loop-done.out.items (c.args.most - c.loop-done._done) (sym c.first_wanted.ensures ∙ c.in_default.is)) ∙ c.loop-done.invariant.items

pub returns : goal.returns
returns g c =
    let table = g.Self.RouteStore.table c.args.self.now in
    let past_end = c.loop-done-test.false in
    let none : 0 ≡ c.args.most - c.loop-done._done = omega arith in
    sym (append-nil c.loop-done.out.items)
    ∙ ap (λ n. c.loop-done.out.items ++ take n (wanted_of c.args.wanted (past c.loop-done.after (entries table)))) none
    ∙ c.loop-done.invariant.items
