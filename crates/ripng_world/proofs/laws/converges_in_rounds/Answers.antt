use Rattle.std.proofs.Common.{◌<◌, le_trans, subst, sym}
use Rattle.ripng_world.proofs.Rounding.{short_walks}
use Rattle.ripng_world.proofs.Converging.{converges}
use Rattle.ripng_world.proofs.laws.converges_in_rounds.Goals as goal

pub returns-clause-exact : goal.returns-clause-exact
returns-clause-exact c = λ net moments rounds cold w is_net noisy fits is run close. converges net is_net.usable is_net.owns_prefixes noisy is_net.distinct is.zoned fits moments rounds cold w is run close

pub returns-clause-fourteen : goal.returns-clause-fourteen
returns-clause-fourteen c = λ net at walk is_net is low. short_walks net is_net.usable at walk is low

pub returns-clause-settled : goal.returns-clause-settled
returns-clause-settled c = λ net moments rounds cold w is_net noisy fits is run close many router state p metric here least low.
    (converges net is_net.usable is_net.owns_prefixes noisy is_net.distinct is.zoned fits moments rounds cold w is run close router state here).found p metric
    (record {
      reached = (
        least.reached.0,
        least.reached.1,
        le_trans (short_walks net is_net.usable router least.reached.1 least.reached.2.is_walk (subst (λ n. n < 16) (sym least.reached.2.costs) low)) many,
        least.reached.2,
      );
      least = λ m t walk short reaches. least.least m t walk reaches;
      usable = low;
    })
