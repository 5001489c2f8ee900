use Rattle.std.proofs.Common.{◌≡◌, Some, slice_get, unwrap_or, option_map, ap, sym, ◌∙◌}
use Rattle.std.proofs.lemmas.Option.{slice_get_past}
use Rattle.router_core.specs.declared.config.Interface.{Interface}
use Rattle.router_core.proofs.ConfigLaws.{mtu_low, mtu_high}
use Rattle.router_core.proofs.Sending.{element_at}
use Rattle.router_core.proofs.config.mtu_at.Goals as goal

here : (c : goal.In-Some) → slice_get c.args.config.now.interfaces c.args.iface ≡ Some c.in-Some.interface.now
here c =
    ap (λ xs. slice_get xs c.args.iface) (sym c.interfaces.ensures.value)
    ∙ element_at c.interfaces.result.now c.args.iface c.in-Some.interface.now c.in-Some.ensures.lookup.3.0 c.in-Some.ensures.lookup.1

pub returns-in-Some-clause-low : goal.returns-in-Some-clause-low
returns-in-Some-clause-low c = mtu_low c.args.config.now c.interfaces.ensures.lawful c.args.iface c.in-Some.interface.now (here c)

pub returns-in-Some-clause-high : goal.returns-in-Some-clause-high
returns-in-Some-clause-high c = mtu_high c.args.config.now c.interfaces.ensures.lawful c.args.iface c.in-Some.interface.now (here c)

pub returns-in-None-clause-value : goal.returns-in-None-clause-value
returns-in-None-clause-value c =
    sym (ap (λ o. unwrap_or (option_map (λ (i : Interface). i.mtu) o) 1280)
    (ap (λ xs. slice_get xs c.args.iface) (sym c.interfaces.ensures.value) ∙ slice_get_past c.interfaces.result.now c.args.iface c.in-None.ensures.lookup.3))
