use Rattle.std.proofs.Common.{rules, ◌≡◌, ◌==◌, not, ap}
use Rattle.std.specs.List.{filter}
use Rattle.std.proofs.lemmas.Fn.{filter_same}
use Rattle.ripngd_udp.specs.Peers.{on_link}
use Rattle.ripngd_udp.proofs.peer_table.PeerTable.remove.Goals as goal

left : (c : goal.After-retain) → c.retain.new.self.items ≡ filter (λ p. not (p.addr == c.args.addr)) c.self.inside.peers.items
left c = filter_same _ _ _ (λ x b f' k. search rules) _ _ c.retain.ensures.filtered

pub returns-clause-removed : goal.returns-clause-removed
returns-clause-removed c = rw (← c.self.view_is) (ap (λ ps. on_link c.self.inside.place ps) (left c))
