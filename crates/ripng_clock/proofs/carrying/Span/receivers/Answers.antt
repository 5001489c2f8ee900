use Rattle.std.proofs.Common.{rules, ◌≡◌, ap, ◌∙◌, filter, ◌&&◌}
use Rattle.std.proofs.lemmas.Fn.{filter_same}
use Rattle.ripng_clock.specs.Common.{is_for, takes_part}
use Rattle.ripng_clock.proofs.carrying.Span.receivers.Goals as goal

pub returns : goal.returns
returns g c =
    filter_same _ (λ at. takes_part c.args.self.now at.0 && is_for c.args.running.now.world c.args.sent.now.to at.0 at.1) _ (λ x b f' k. search rules) _ _ c.retain.ensures.filtered
    ∙ ap (filter (λ at. takes_part c.args.self.now at.0 && is_for c.args.running.now.world c.args.sent.now.to at.0 at.1)) c.in_ok-receivers.ensures
