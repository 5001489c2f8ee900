use Rattle.std.proofs.Common.{◌≡◌, ℕ, [], ◌++◌, take, ◌-◌, ◌<◌, length, Option, sym, ap, ap₂, ◌∙◌, arith, append-nil}
use Rattle.std.specs.FinMap.{entries, entries_sorted}
use Rattle.prefix6.specs.Prefix.{Prefix6}
use Rattle.route_table.specs.Place.{Entries}
use Rattle.route_table.specs.Summary.{wanted_of}
use Rattle.route_table.specs.Table.{past}
use Rattle.route_table.specs.declared.wanted.Wanted.{Wanted}
use Rattle.route_table.specs.declared.wanted.Wanted.TheVariants.{Any}
use Rattle.route_table.proofs.WantedLists.{all_wanted}
use Rattle.router_core.specs.Config.{Config}
use Rattle.router_core.specs.Settling.{may_be_told}
use Rattle.router_core.specs.declared.tell.Selection.{Selection}
use Rattle.router_core.proofs.ToldRuns.{told, found, no_last, run_grows, run_fits, run_ends, found_less}
use Rattle.router_core.proofs.listing.told_run.Goals as goal

-- a batch is the first of those that may be told
batch_is : (config : Config) (iface now : ℕ) (which : Selection) (after : Option Prefix6) (es : Entries) (n : ℕ) (made empty : Entries) (w : Wanted)
    → made ≡ empty ++ take n (wanted_of w (past after es)) → empty ≡ [] → w ≡ may_be_told now which → made ≡ take n (found config iface now which after es)
batch_is config iface now which after es n made empty w made_is empty_is w_is =
    made_is ∙ ap₂ (λ (l : Entries) v. l ++ take n (wanted_of v (past after es))) empty_is w_is

pub returns-then-is_whole : goal.returns-then-is_whole
returns-then-is_whole g c =
    let es : Entries = entries (g.S.RouteStore.table c.args.store.now) in
    c.list_wanted.ensures
    ∙ ap (λ (l : Entries). l ++ take c.args.part.most (wanted_of Any (past c.args.part.after es))) c.in_ok-run.ensures.items
    ∙ ap (take c.args.part.most) (sym (all_wanted (past c.args.part.after es)) ∙ ap (past c.args.part.after) (sym (c.is_whole.ensures c.if-is_whole.true)))

pub loop-alloc-init : goal.loop-alloc-init
loop-alloc-init g c =
    let rest : Entries = past c.args.part.after (told c.args.config.now c.args.iface c.args.now c.args.which (entries (g.S.RouteStore.table c.args.store.now))) in
    let all : c.args.part.most - 0 ≡ c.args.part.most = omega arith in
    record {
      items = ap (λ (l : Entries). l ++ take (c.args.part.most - length l) rest) c.in_ok-run.ensures.items ∙ ap (λ n. take n rest) all;
      fits = omega (arith, ap length c.in_ok-run.ensures.items);
    }

pub loop-alloc-preserved : goal.loop-alloc-preserved
loop-alloc-preserved g c =
    let t = g.S.RouteStore.table c.args.store.now in
    let run = c.loop-alloc.run.items in
    let batch = c.list_wanted-in-loop-alloc.new.out.items in
    let is : batch ≡ take (c.args.part.most - length run) (found c.args.config.now c.args.iface c.args.now c.args.which c.loop-alloc.after (entries t)) =
    batch_is c.args.config.now c.args.iface c.args.now c.args.which c.loop-alloc.after (entries t) (c.args.part.most - c.len-in-loop-alloc.result) batch c.in_ok-batch.batch.items c.may_be_told-wanted.result c.list_wanted-in-loop-alloc.ensures c.in_ok-batch.ensures.items c.may_be_told-wanted.ensures
    ∙ ap (λ n. take (c.args.part.most - n) (found c.args.config.now c.args.iface c.args.now c.args.which c.loop-alloc.after (entries t))) (c.len-in-loop-alloc.ensures ∙ c.loop-alloc.run.ok.0) in
    let grown : c.push_told.new.run.items ≡ run ++ told c.args.config.now c.args.iface c.args.now c.args.which batch = c.in_ok-push_told.ensures ∙ ap (λ l. run ++ told c.args.config.now c.args.iface c.args.now c.args.which l) c.deref-in-loop-alloc.ensures.value in
    record {
      items =
          run_grows c.args.config.now c.args.iface c.args.now c.args.which c.loop-alloc.after (entries t) (entries_sorted t) run batch c.push_told.new.run.items c.args.part.most c.in-Some.last.now
          is (sym (rw c.deref.ensures.value at c.in-Some.ensures.value)) grown
          ∙ c.loop-alloc.invariant.items;
      fits = run_fits c.args.config.now c.args.iface c.args.now c.args.which c.loop-alloc.after (entries t) (entries_sorted t) run batch c.push_told.new.run.items c.args.part.most c.loop-alloc.invariant.fits is grown;
    }

pub loop-alloc-smaller : goal.loop-alloc-smaller
loop-alloc-smaller g c =
    let t = g.S.RouteStore.table c.args.store.now in
    let batch = c.list_wanted-in-loop-alloc.new.out.items in
    let left = c.args.part.most - c.len-in-loop-alloc.result in
    found_less c.args.config.now c.args.iface c.args.now c.args.which c.loop-alloc.after (entries t) (entries_sorted t) left batch c.in-Some.last.now
    (batch_is c.args.config.now c.args.iface c.args.now c.args.which c.loop-alloc.after (entries t) left batch c.in_ok-batch.batch.items c.may_be_told-wanted.result c.list_wanted-in-loop-alloc.ensures c.in_ok-batch.ensures.items c.may_be_told-wanted.ensures)
    (sym (rw c.deref.ensures.value at c.in-Some.ensures.value))

pub returns-in_default : goal.returns-in_default
returns-in_default g c =
    let t = g.S.RouteStore.table c.args.store.now in
    let run = c.loop-alloc.run.items in
    let batch = c.list_wanted-in-loop-alloc.new.out.items in
    let size : c.len-in-loop-alloc.result ≡ length run = c.len-in-loop-alloc.ensures ∙ c.loop-alloc.run.ok.0 in
    let more : 0 < c.args.part.most - length run = omega (arith, c.loop-alloc-test.true, c.len.ensures, c.loop-alloc.run.ok.0) in
    sym (run_ends c.args.config.now c.args.iface c.args.now c.args.which c.loop-alloc.after (entries t) (entries_sorted t) run batch (c.args.part.most - length run) more
    (batch_is c.args.config.now c.args.iface c.args.now c.args.which c.loop-alloc.after (entries t) (c.args.part.most - c.len-in-loop-alloc.result) batch c.in_ok-batch.batch.items c.may_be_told-wanted.result c.list_wanted-in-loop-alloc.ensures c.in_ok-batch.ensures.items c.may_be_told-wanted.ensures
    ∙ ap (λ n. take (c.args.part.most - n) (found c.args.config.now c.args.iface c.args.now c.args.which c.loop-alloc.after (entries t))) size)
    (no_last batch (sym (rw c.deref.ensures.value at c.in_default.ensures.value))))
    ∙ c.loop-alloc.invariant.items

pub returns : goal.returns
returns g c =
    let t = g.S.RouteStore.table c.args.store.now in
    let run = c.loop-alloc.run.items in
    let none : 0 ≡ c.args.part.most - length run = omega (arith, c.loop-alloc-test.false, c.len.ensures, c.loop-alloc.run.ok.0) in
    sym (append-nil run)
    ∙ ap (λ n. run ++ take n (past c.loop-alloc.after (told c.args.config.now c.args.iface c.args.now c.args.which (entries t)))) none
    ∙ c.loop-alloc.invariant.items
