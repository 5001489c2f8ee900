use Rattle.std.proofs.Common.{◌+◌, ◌*◌, ◌≤◌, length, sym, subst, ◌∙◌}
use Rattle.route_table.proofs.TableLaws.{Some-same}
use Rattle.router_core.specs.Machine.{State}
use Rattle.ripng_phases.proofs.Later.{phases_later}
use Rattle.ripng_phases.proofs.laws.phases_take_time.Goals as goal

pub returns : goal.returns
returns c = λ net phases w w' router first last is here at end_at.
    let l = phases_later net phases _ w w' is router first here at in
    subst (λ (t : State). first.regular + 15_000 * length phases ≤ t.regular) (Some-same l.0 last (sym l.1 ∙ end_at)) l.2
