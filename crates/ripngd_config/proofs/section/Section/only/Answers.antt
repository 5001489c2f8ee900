use Rattle.std.proofs.Common.{◌≡◌, ◌∙◌, List, Bor, ap, length, map, sym, subst, true, false, All}
use Rattle.std.specs.Prelude.{String, string_bytes}
use Rattle.std.specs.declared.alloc.Global.{Global}
use Rattle.std.proofs.lemmas.Iterator.Consumers.{YieldsList-at, YieldsList-end, YieldsList-from_rest, YieldsList-turn}
use Rattle.std.proofs.lemmas.List.Elements.{All-map, All-push}
use Rattle.ripngd_config.specs.Keys.{is_listed}
use Rattle.ripngd_config.proofs.KeyLists.{any_listed, only_from, other_at}
use Rattle.ripngd_config.proofs.section.Section.only.Goals as goal

pub loop-key-preserved : goal.loop-key-preserved
loop-key-preserved c =
    let listed : is_listed (map (λ k. k.now) c.args.known.now) (string_bytes c.in-Some.key.now) ≡ true =
    ap (is_listed (map (λ k. k.now) c.args.known.now)) (sym c.as_str.ensures.value) ∙ sym (any_listed c.args.known.now c.as_str.result.now) ∙ sym c.contains.ensures.value ∙ c.if-not-contains.false in
    (tt, tt, All-push (λ (k : Bor (String Global)). is_listed (map (λ k. k.now) c.args.known.now) (string_bytes k.now) ≡ true) c.loop-key.yielded c.in-Some.key c.loop-key.invariant.2 listed)

pub returns-then-not-contains-clause-fault : goal.returns-then-not-contains-clause-fault
returns-then-not-contains-clause-fault c =
    let road = YieldsList-at c.into_iter-key-iterator.ensures.into_iter_gives (YieldsList-from_rest _ c.keys-key-items.ensures.rest) in
    let turn = YieldsList-turn road c.loop-key.yielded c.loop-key.key-iterator c.loop-key.yielded_by c.next.result c.next.new.self c.in-Some.key c.in-Some.is c.next.ensures.steps in
    let key = c.in-Some.key.now in
    let names = map (λ k. k.now) c.args.known.now in
    let unlisted : is_listed names (string_bytes key) ≡ false =
    ap (is_listed names) (sym c.as_str.ensures.value) ∙ sym (any_listed c.args.known.now c.as_str.result.now) ∙ sym c.contains.ensures.value ∙ c.if-not-contains.true in
    other_at names c.args.self.now.table.now.entries (length c.loop-key.yielded) key turn.0
    (ap (λ (k : String Global). is_listed names (string_bytes k)) (sym turn.1) ∙ unlisted)

pub returns-clause-only : goal.returns-clause-only
returns-clause-only c =
    let road = YieldsList-at c.into_iter-key-iterator.ensures.into_iter_gives (YieldsList-from_rest _ c.keys-key-items.ensures.rest) in
    let ended = YieldsList-end road c.loop-key.yielded c.loop-key.key-iterator c.loop-key.yielded_by c.next.result c.next.new.self c.in-None.is c.next.ensures.steps in
    let names = map (λ k. k.now) c.args.known.now in
    let listed = All-map (λ (k : String Global). is_listed names (string_bytes k) ≡ true) (λ (r : Bor (String Global)). r.now) c.loop-key.yielded c.loop-key.invariant.2 in
    only_from names c.args.self.now.table.now.entries
    (subst (λ (ks : List (String Global)). All (λ k. is_listed names (string_bytes k) ≡ true) ks) ended.0 listed)
