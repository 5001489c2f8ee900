use Rattle.std.proofs.Common.{◌≡◌, ◌∙◌, rules, sym, true}
use Rattle.ripngd_control.specs.Watching.{is_of, place_of}
use Rattle.ripngd_control.proofs.Places.{place_is, place_pushed}
use Rattle.ripngd_control.proofs.neighbors.Neighbors.row_of.Goals as goal

pub returns-then-place-capacity-clause-place : goal.returns-then-place-capacity-clause-place
returns-then-place-capacity-clause-place c =
    let is = is_of c.args.arrived.now in
    let rows = c.args.self.now.rows.items in
    let place : c.unwrap_or-place.result ≡ place_of c.args.arrived.now rows = search (rules, place_is is rows) in
    let own : is (record { iface = c.args.arrived.now.iface; source = c.args.arrived.now.source; tally = c.new.result }) ≡ true = search rules in
    rw c.push_reserved.ensures.items (place ∙ sym (place_pushed is rows _ own))
