use Rattle.std.proofs.Common.{◌≡◌, ◌∙◌, ℕ, List, sym, subst, ◌++◌, length}
use Rattle.std.specs.List.{enumerate_from, flat_map}
use Rattle.std.specs.Io.KnownBytes.{Appends}
use Rattle.std.proofs.lemmas.List.{map-id}
use Rattle.std.proofs.lemmas.Iterator.Consumers.{YieldsList-at, YieldsList-end, YieldsList-from_enumerate, YieldsList-from_first}
use Rattle.ripng_wire.specs.declared.rte.Rte.{Rte}
use Rattle.ripng_show.specs.Shown.{entry_line, head_line}
use Rattle.ripng_show.proofs.showing.write_listing.Goals as goal

pub returns : goal.returns
returns g c =
    let datagram = c.args.datagram.now in
    let road = YieldsList-at c.into_iter-index-iterator.ensures.into_iter_gives (YieldsList-from_enumerate
    (YieldsList-at c.enumerate-index-items.ensures.source (YieldsList-from_first (λ (x : Rte). x) (λ (r : List Rte). r) datagram.entries c.entries-2.ensures.entries))
    c.enumerate-index-items.ensures.count) in
    let ended = YieldsList-end road c.loop-index.yielded c.loop-index.index-iterator c.loop-index.yielded_by c.next.result c.next.new.self c.in-None.is c.next.ensures.steps in
    let whole : c.loop-index.yielded ≡ enumerate_from 0 datagram.entries = sym (map-id c.loop-index.yielded) ∙ ended.0 in
    subst (λ (ps : List (ℕ × Rte)). Appends (g.W.Write.contents c.args.out.now) (g.W.Write.contents c.loop-index.out)
    (head_line datagram.command (length datagram.entries) ++ flat_map (λ p. entry_line p.0 p.1) ps)) whole c.loop-index.invariant
