use Rattle.std.proofs.Common.{◌≡◌, ◌+◌, ◌-◌, ◌++◌, [], length, take, drop, sym, ap, ap₂, ◌∙◌, append-nil}
use Rattle.std.proofs.lemmas.List.{get_or_read}
use Rattle.route_table.specs.Blocks.{block_at, joined}
use Rattle.route_table.specs.Place.{Entries}
use Rattle.route_table.specs.Summary.{wanted_of}
use Rattle.route_table.specs.Table.{past}
use Rattle.route_table.proofs.WantedLists.{wanted_starts, wanted_goes_on, wanted_is_out}
use Rattle.route_table.proofs.blocks.list_wanted.Goals as goal

pub loop-k-init : goal.loop-k-init
loop-k-init c = record {
  items = ap (λ l. c.args.out.now.items ++ take c.args.most l) (wanted_starts c.args.wanted c.args.after.now c.args.blocks.now c.start-k.result c.start-k.ensures);
  room = c.requires.room;
}

pub loop-k-preserved : goal.loop-k-preserved
loop-k-preserved c =
    let bs = c.args.blocks.now in
    let k = c.loop-k.k in
    let left = c.loop-k.left in
    let after = c.args.after.now in
    let w = c.args.wanted in
    let out = c.loop-k.out.items in
    let is : c.index-blocks-k.result ≡ block_at bs k = get_or_read bs k c.index-blocks-k.result c.loop-k-test.true c.index-blocks-k.is [] in
    record {
      items =
          ap₂ (λ (l : Entries) n. l ++ take n (wanted_of w (past after (joined (drop (k + 1) bs)))))
          (c.list_wanted-left.ensures.items ∙ ap (λ b. out ++ take left (wanted_of w (past after b))) is)
          (c.list_wanted-left.ensures.left ∙ ap (λ b. left - length (wanted_of w (past after b))) is)
          ∙ wanted_goes_on w after bs k left out c.loop-k-test.true
          ∙ c.loop-k.invariant.items;
      room = c.list_wanted-left.ensures.room;
    }

pub returns-then-left-eq0 : goal.returns-then-left-eq0
returns-then-left-eq0 c =
    sym (append-nil c.loop-k.out.items)
    ∙ ap (λ n. c.loop-k.out.items ++ take n (wanted_of c.args.wanted (past c.args.after.now (joined (drop c.loop-k.k c.args.blocks.now))))) (sym c.if-left-eq0.true)
    ∙ c.loop-k.invariant.items

pub returns : goal.returns
returns c = sym (wanted_is_out c.args.wanted c.args.after.now c.args.blocks.now c.loop-k.k c.loop-k.left c.loop-k.out.items c.loop-k-test.false) ∙ c.loop-k.invariant.items
