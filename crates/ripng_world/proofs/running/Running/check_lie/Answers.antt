use Rattle.std.proofs.Common.{Some, None, true, false, refl, ap, sym, ◌∙◌}
use Rattle.std.specs.Option.{option_copied}
use Rattle.ripng_world.proofs.Refusals.{heard_at, there_as, lie_tested}
use Rattle.ripng_world.proofs.running.Running.check_lie.Goals as goal

pub returns-in-Some : goal.returns-in-Some
returns-in-Some g c =
    let x = c.args.arrival.now in
    lie_tested c.args.self.now c.args.router x (there_as c.args.self.now.network c.args.router x _ c.arrival.view_is c.in_ok-check_interface.ensures.fault) true
    (heard_at c.args.self.now.world c.args.router x (Some c.in-Some.router.now) true c.in-Some.ensures (sym c.if-is_heard.ensures))

pub returns-in_default : goal.returns-in_default
returns-in_default g c =
    let x = c.args.arrival.now in
    lie_tested c.args.self.now c.args.router x (there_as c.args.self.now.network c.args.router x _ c.arrival.view_is c.in_ok-check_interface.ensures.fault) false
    (heard_at c.args.self.now.world c.args.router x (Some c.in-Some.router.now) false c.in-Some.ensures (sym c.if-is_heard.ensures))

pub returns-in_default-2 : goal.returns-in_default-2
returns-in_default-2 g c =
    let x = c.args.arrival.now in
    lie_tested c.args.self.now c.args.router x (there_as c.args.self.now.network c.args.router x _ c.arrival.view_is c.in_ok-check_interface.ensures.fault) false
    (heard_at c.args.self.now.world c.args.router x None false (ap option_copied (sym c.in_default.is) ∙ c.router.ensures) refl)
