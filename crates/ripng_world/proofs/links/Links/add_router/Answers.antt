use Rattle.std.proofs.Common.{◌≡◌, ℕ, ◌++◌, ◌==◌, cond, [], ◌∷◌, Some, Option, map, filter, option_map, slice_get, sym, ap, ◌∙◌, arith, append_assoc}
use Rattle.std.specs.List.{range_with_len}
use Rattle.std.proofs.lemmas.List.FromFn.{filter_of_map_range_with_len_more}
use Rattle.std.proofs.lemmas.Option.{slice_get-get_or}
use Rattle.ripng_world.specs.Labs.{is_one_link}
use Rattle.ripng_world.specs.Linked.{listed_on}
use Rattle.ripng_world.specs.declared.network.NetInterface.{NetInterface}
use Rattle.ripng_world.proofs.links.Links.add_router.Goals as goal

pub loop-iface-preserved : goal.loop-iface-preserved
loop-iface-preserved c = λ link.
    let k = c.loop-iface.iface in
    let test = λ (at : ℕ × ℕ). is_one_link (Some link) (option_map (λ i. i.link) (slice_get c.args.interfaces.now at.1)) in
    let place : ℕ → ℕ × ℕ = λ iface. (c.args.router, iface) in
    let here : slice_get c.args.interfaces.now k ≡ Some c.index-interfaces-iface.result = slice_get-get_or c.args.interfaces.now k c.index-interfaces-iface.result (omega (arith, c.loop-iface-test.true)) ∙ ap Some (sym c.index-interfaces-iface.is) in
    c.in_ok-add.ensures link
    ∙ ap (λ ys. ys ++ cond (link == c.index-interfaces-iface.result.link) (place k ∷ []) []) (c.loop-iface.invariant link)
    ∙ append_assoc (listed_on c.args.self.now link) (filter test (map place (range_with_len 0 k))) (cond (link == c.index-interfaces-iface.result.link) (place k ∷ []) [])
    ∙ ap (λ ys. listed_on c.args.self.now link ++ ys)
    (ap (λ (o : Option NetInterface). filter test (map place (range_with_len 0 k)) ++ cond (is_one_link (Some link) (option_map (λ i. i.link) o)) (place k ∷ []) []) (sym here)
    ∙ sym (filter_of_map_range_with_len_more test place 0 k k (omega arith)))
