-- The names that the clauses of this crate cite, passed on from one place. Declares nothing.
pub use Rattle.std.specs.Borrow.{ftrue}
pub use Rattle.std.specs.Duration.{as_nanos}
pub use Rattle.std.specs.IoError.{error_kind}
pub use Rattle.std.specs.Result.{result_err}
pub use Rattle.ripng_wire.specs.Wire.{first_reason}
pub use Rattle.ripngd_engine.specs.Link.{Handed, no_queue, queue_at, recv_call}
pub use Rattle.ripngd_engine.specs.Peers.{is_real}
pub use Rattle.ripngd_udp.specs.Counting.{Grows}
pub use Rattle.ripngd_udp.specs.Peers.{peer_refused_text, adding_fault, group_port_of, has_peer_address, is_group_port, links_at, on_link, removing_reasons_at, with_peer, without_peer, ChangesLink, RefusesFor, removing_fault, OnLink}
pub use Rattle.ripngd_udp.specs.ReceiveQueue.{Gives, HasRoom, Keeps, MayWait, bytes_of}
pub use Rattle.ripngd_udp.specs.SendQueue.{share_among, rate_among, real_rate, rate_of, goes_at_once, waiting_after, answers_of, answers_in, may_wait, is_to, owes, queue_of}
pub use Rattle.ripngd_udp.specs.Requests.{GivesNone, Judges, is_among, is_answered, is_command, is_taken, most_answers, others_than, with_last, with_room}
pub use Rattle.ripngd_udp.specs.Sending.{IsAt, IsLocal, Shares, is_known, is_meant, sender_from}
pub use Rattle.ripngd_udp.specs.Real.{real_sender}
pub use Rattle.ripngd_udp.specs.Udp.{NamesSocketOf, new_link, GoesOn, SendsLate, PortsState, LinkState}
