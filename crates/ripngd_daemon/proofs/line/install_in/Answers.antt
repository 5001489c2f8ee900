use Rattle.std.proofs.Common.{◌∙◌, arith}
use Rattle.ripngd_daemon.proofs.Readings.{number_is_read, route_parts}
use Rattle.ripngd_daemon.proofs.line.install_in.Goals as goal

pub returns-in_err-prefix_in-clause-found : goal.returns-in_err-prefix_in-clause-found
returns-in_err-prefix_in-clause-found c p hop metric is_prefix is_hop fits e =
    let parts = route_parts _ _ _ _ _ _ _ c.first_word.ensures c.first_word-2.ensures c.first_word-3.ensures p hop metric is_prefix fits e in
    let read = c.prefix_in.ensures.found p is_prefix parts.0 in
    let none = c.in_err-prefix_in.was in
    cc

pub returns-in_err-hop_in-clause-found : goal.returns-in_err-hop_in-clause-found
returns-in_err-hop_in-clause-found c p hop metric is_prefix is_hop fits e =
    let parts = route_parts _ _ _ _ _ _ _ c.first_word.ensures c.first_word-2.ensures c.first_word-3.ensures p hop metric is_prefix fits e in
    let read = c.hop_in.ensures.found hop is_hop parts.2 in
    let none = c.in_err-hop_in.was in
    cc

pub returns-in_err-ok-clause-found : goal.returns-in_err-ok-clause-found
returns-in_err-ok-clause-found c p hop metric is_prefix is_hop fits e =
    let parts = route_parts _ _ _ _ _ _ _ c.first_word.ensures c.first_word-2.ensures c.first_word-3.ensures p hop metric is_prefix fits e in
    let read = c.ok.ensures.value ∙ number_is_read 8 metric _ c.parse.result fits (omega arith) parts.1 c.parse.ensures.value.0 in
    let none = c.in_err-ok.was in
    cc

pub returns-clause-found : goal.returns-clause-found
returns-clause-found c p hop metric is_prefix is_hop fits e =
    let parts = route_parts _ _ _ _ _ _ _ c.first_word.ensures c.first_word-2.ensures c.first_word-3.ensures p hop metric is_prefix fits e in
    let prefix_is = c.prefix_in.ensures.found p is_prefix parts.0 in
    let hop_is = c.hop_in.ensures.found hop is_hop parts.2 in
    let metric_is = c.ok.ensures.value ∙ number_is_read 8 metric _ c.parse.result fits (omega arith) parts.1 c.parse.ensures.value.0 in
    let first = c.in_ok-prefix_in.was in
    let second = c.in_ok-hop_in.was in
    let third = c.in_ok-ok.was in
    cc
