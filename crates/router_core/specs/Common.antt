-- The names that the clauses of this crate cite, passed on from one place. Declares nothing.
pub use Rattle.std.specs.Coded.{codes}
pub use Rattle.std.specs.FinMap.{get, entries}
pub use Rattle.std.specs.List.{list_any, cons_option}
pub use Rattle.std.specs.Result.{result_err}
pub use Rattle.std.specs.Vec.{vec_capacity}
pub use Rattle.fib.specs.Forwarding.{Replays}
pub use Rattle.prefix6.specs.Prefix.{IsPrefix, is_routable, same_prefix, Prefix6}
pub use Rattle.ripng_wire.specs.Layout.{Spells, most_entries}
pub use Rattle.ripng_wire.specs.Wire.{first_reason}
pub use Rattle.ripng_wire.specs.declared.rte.Command.TheVariants.{Request, Response}
pub use Rattle.ripng_wire.specs.declared.rte.Rte.{Rte}
pub use Rattle.route_table.specs.Coding.{coded_table}
pub use Rattle.route_table.specs.Due.{is_reached, least_deadline, next_due}
pub use Rattle.route_table.specs.Route.{IsRoute, infinity, RouteValue}
pub use Rattle.route_table.specs.Table.{table_limit, Table, map_entries, past, with_value}
pub use Rattle.route_table.specs.declared.route.Clock.TheVariants.{Live}
pub use Rattle.router_core.specs.Adoption.{metric_through, is_reachable, taken, refreshed, is_through, is_repeated, is_preferred, adopted_by_clock, adopted, Gateway, by_reason, reason}
pub use Rattle.router_core.specs.Ageing.{aged, aged_table, unmarked}
pub use Rattle.router_core.specs.Changes.{change, changes_of_hearing, forwards, changes_of_ageing, changes_of_start}
pub use Rattle.router_core.specs.Config.{IsConfig, config, config_fault, reasons_of_each, interface_reasons, prefix_reasons, is_own_address, is_address_of_one, has_address, has_prefix, is_usable_cost, is_usable_mtu, config_refused_text, Config, config_with, announcing, mtu_at, cost_at}
pub use Rattle.router_core.specs.Faults.{asker_reasons, fault, neighbor_reasons, request_reasons, response_reasons, ripng_port, fault_name, fault_number, fault_text}
pub use Rattle.router_core.specs.Announcing.{is_passive, is_announced, announced_of, announced}
pub use Rattle.router_core.specs.Lists.{is_accept, is_within, names, is_rejected_by, is_accepted_by, accepts_named_alone, lets_through}
pub use Rattle.router_core.specs.Filters.{is_accepted, limit_at, is_limit_reached, is_by, refusal}
pub use Rattle.router_core.specs.Hearing.{Heard, hearing, Hearing, route_after, held_after, held_by, brought_after, refusal_at}
pub use Rattle.router_core.specs.LinkDown.{is_live_on, after_link_down, table_after_link_down, changes_of_link_down}
pub use Rattle.router_core.specs.Machine.{State, Happening, Moves, Starts, forwards_before, Hears, Replies, gateway_of, owned_table, tick_messages}
pub use Rattle.router_core.specs.Meeting.{meeting, entry_meeting, table_met, change_met, adds, brings, limit_refusal, refusal_of_new}
pub use Rattle.router_core.specs.Offering.{all_offered, Offered}
pub use Rattle.router_core.specs.Offers.{flaw, prefix_named, usable_hop, Offer}
pub use Rattle.router_core.specs.Output.{is_learned_on, pieces, selected, AreSpelled, asks_for_all, told, Message, filled, reply, reply_entry, reply_on, reply_messages, asked_on, Advertises, KeepsToLists, every_route, start_messages, IsSpelled, link_up_messages, request_on, AddsSpelled, responses, responses_at, told_entry, told_message, update_on, update_messages}
pub use Rattle.router_core.specs.Owning.{OwnsOnce, HoldsOwned}
pub use Rattle.router_core.specs.Received.{Received}
pub use Rattle.router_core.specs.Reconfiguring.{reconfigured_config, IsNamed, NamesInterface, reconfigure_fault, reconfigure_name, reconfigure_number, reconfigure_text, reconfigured_table, changes_of_reconfiguring}
pub use Rattle.router_core.specs.Settling.{settled, settled_table, told_route, may_be_told}
pub use Rattle.router_core.specs.Shutdown.{shutdown_messages}
pub use Rattle.router_core.specs.Updates.{update_due, update_of, regular_after, hold_after, entries_in}
pub use Rattle.router_core.specs.Waking.{IsIdle, or_earlier, triggered_at, wakes_at}
pub use Rattle.router_core.specs.declared.answer.Answer.{Answer}
pub use Rattle.router_core.specs.declared.answer.Destination.TheVariants.{Group, Peer}
pub use Rattle.router_core.specs.declared.reconfiguring.ReconfigureRefused.TheVariants.{OutOfMemory}
