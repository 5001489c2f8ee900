use Rattle.std.proofs.Common.{◌+◌, ◌<◌, ◌++◌, length, take, drop, vec_len, vec_capacity, sym, ap, ap₂, ◌∙◌, arith}
use Rattle.route_table.specs.Place.{Entries}
use Rattle.route_table.specs.Summary.{wanted_of}
use Rattle.route_table.proofs.WantedLists.{wanted_here, unwanted_here, list_more}
use Rattle.route_table.proofs.run.list_wanted.Goals as goal
use Rattle.route_table.proofs.run.list_wanted.Goals.{then-is_met_by, else-is_met_by}

pub loop-entry-preserved : goal.loop-entry-preserved
loop-entry-preserved c =
    let es = c.args.routes.now in
    let i = c.loop-entry.entry-index in
    let e = c.entry-item.result in
    let w = c.args.wanted in
    let out = c.loop-entry.out in
    let left = c.loop-entry.left in
    let some : 0 < left = omega (arith, c.if-left-eq0.false) in
    let rest : Entries = wanted_of w (drop (i + 1) es) in
    elim c.if-is_met_by.branch [
      | then-is_met_by t ↦
          let here = wanted_here w es i e c.loop-entry-test.true c.entry-item.is (sym c.is_met_by.ensures ∙ t.if-is_met_by.true) in
          record {
            items =
                ap₂ (λ (l : Entries) n. l ++ take n rest) (ap (λ v. v.items) t.out-is ∙ t.push_reserved.ensures.items) t.left-is
                ∙ list_more out.items rest e left some
                ∙ ap (λ l. out.items ++ take left l) (sym here)
                ∙ c.loop-entry.invariant.items;
            left = omega (arith, c.loop-entry.invariant.left, some, t.left-is, ap length here);
            room = omega (arith, c.loop-entry.invariant.room, some, t.left-is, ap vec_len t.out-is, ap vec_capacity t.out-is, t.push_reserved.ensures.len, t.push_reserved.ensures.capacity);
          }
      | else-is_met_by t ↦
          let here = unwanted_here w es i e c.loop-entry-test.true c.entry-item.is (sym c.is_met_by.ensures ∙ t.if-is_met_by.false) in
          record {
            items =
                ap₂ (λ (l : Entries) n. l ++ take n rest) (ap (λ v. v.items) t.out-is) t.left-is
                ∙ ap (λ l. out.items ++ take left l) (sym here)
                ∙ c.loop-entry.invariant.items;
            left = omega (arith, c.loop-entry.invariant.left, t.left-is, ap length here);
            room = omega (arith, c.loop-entry.invariant.room, t.left-is, ap vec_len t.out-is, ap vec_capacity t.out-is);
          }
    ]
