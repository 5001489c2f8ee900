use Rattle.std.proofs.Common.{◌≡◌, ◌∙◌, List, refl, sym, subst}
use Rattle.std.specs.Io.KnownBytes.{Appends}
use Rattle.std.proofs.lemmas.List.{map-id}
use Rattle.std.proofs.lemmas.Iterator.Consumers.{YieldsList-at, YieldsList-end, YieldsList-from_first}
use Rattle.fib.specs.Entries.{Entry}
use Rattle.ripngd_engine.specs.Log.{entry_lines}
use Rattle.ripngd_engine.proofs.lines.write_entries.Goals as goal

pub returns : goal.returns
returns g c =
    let road = YieldsList-at c.into_iter-entry-iterator.ensures.into_iter_gives (YieldsList-from_first (λ (x : Entry). x) (λ (r : List Entry). r) c.args.entries refl) in
    let ended = YieldsList-end road c.loop-entry.yielded c.loop-entry.entry-iterator c.loop-entry.yielded_by c.next.result c.next.new.self c.in-None.is c.next.ensures.steps in
    let whole : c.loop-entry.yielded ≡ c.args.entries = sym (map-id c.loop-entry.yielded) ∙ ended.0 in
    subst (λ (es : List Entry). Appends (g.W.Write.contents c.args.out.now) (g.W.Write.contents c.loop-entry.out) (entry_lines es)) whole c.loop-entry.invariant
