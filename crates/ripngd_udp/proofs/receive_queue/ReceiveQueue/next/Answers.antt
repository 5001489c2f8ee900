use Rattle.std.proofs.Common.{rules, refl, arith, ap, sum_by, vec_len}
use Rattle.std.proofs.lemmas.List.Sums.{sum_by-cons}
use Rattle.ripngd_udp.proofs.receive_queue.ReceiveQueue.next.Goals as goal

pub invariant_of-self-2-clause-summed : goal.invariant_of-self-2-clause-summed
invariant_of-self-2-clause-summed c =
    let first = c.in_ok-sender.field-0 in
    omega (
      arith,
      c.len.ensures,
      ap (sum_by (λ h. vec_len h.bytes)) (c.in_ok-sender.ensures.items),
      sum_by-cons (λ h. vec_len h.bytes) first c.pop_front.new.self.items,
    )

pub returns-clause-first : goal.returns-clause-first
returns-clause-first c =
    let first = c.in_ok-sender.field-0 in
    record {
      first = first;
      in_order = search rules;
      as_sent = refl;
      len_is = search rules;
      bytes_are = search rules;
    }
