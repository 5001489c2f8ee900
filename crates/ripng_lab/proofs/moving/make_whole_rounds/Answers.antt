use Rattle.std.proofs.Common.{◌≡◌, All, Some, Err, ap, length, sym, subst, arith}
use Rattle.std.proofs.lemmas.List.Elements.{All-push}
use Rattle.ripng_world.specs.Watching.{failures}
use Rattle.ripng_lab.proofs.ScriptWatching.{untold, has_told, rounds_told, rounds_none, rounds_one}
use Rattle.ripng_lab.proofs.moving.make_whole_rounds.Goals as goal

pub returns-in_err-vec : goal.returns-in_err-vec
returns-in_err-vec g c =
    has_told g.V.Watch.starts g.V.Observer.takes g.V.Observer.fails g.V.Watch.notes c.from_residual.result (Some c.args.lab.now, c.args.watch.now) (Some c.args.lab.now, c.args.watch.now)
    (untold g.V.Watch.starts g.V.Observer.takes g.V.Observer.fails g.V.Watch.notes (Some c.args.lab.now, c.args.watch.now))

pub returns-in_err-push : goal.returns-in_err-push
returns-in_err-push g c =
    has_told g.V.Watch.starts g.V.Observer.takes g.V.Observer.fails g.V.Watch.notes c.from_residual-in_err-push.result (Some c.args.lab.now, c.args.watch.now) (Some c.args.lab.now, c.args.watch.now)
    (untold g.V.Watch.starts g.V.Observer.takes g.V.Observer.fails g.V.Watch.notes (Some c.args.lab.now, c.args.watch.now))

pub loop-now-preserved : goal.loop-now-preserved
loop-now-preserved g c =
    subst (All (λ t. length t.1.items ≡ c.routers-routers.result)) (sym c.in_ok-push.ensures.items)
    (All-push (λ t. length t.1.items ≡ c.routers-routers.result) c.loop-now.ticks.items (c.now-item.result, c.in_ok-vec.field-0) c.loop-now.invariant
    (omega (arith, c.in_ok-vec.ensures.len, c.in_ok-vec.field-0.ok.0)))

pub returns-in_err-rounds : goal.returns-in_err-rounds
returns-in_err-rounds g c =
    has_told g.V.Watch.starts g.V.Observer.takes g.V.Observer.fails g.V.Watch.notes c.from_residual-in_err-rounds.result (Some c.args.lab.now, c.args.watch.now) (Some c.args.lab.now, c.args.watch.now)
    (untold g.V.Watch.starts g.V.Observer.takes g.V.Observer.fails g.V.Watch.notes (Some c.args.lab.now, c.args.watch.now))

pub returns-in-Ok : goal.returns-in-Ok
returns-in-Ok g c =
    rounds_told g.V.Watch.starts g.V.Observer.takes g.V.Observer.fails g.V.Watch.notes c.args.lab.now c.run_rounds_watched.new.self _ c.args.watch.now c.run_rounds_watched.new.watch c.in-Ok.ensures.network c.in-Ok.ensures.told

pub returns-in-Err-Refused : goal.returns-in-Err-Refused
returns-in-Err-Refused g c =
    has_told g.V.Watch.starts g.V.Observer.takes g.V.Observer.fails g.V.Watch.notes (Err c.from.result) (Some c.args.lab.now, c.args.watch.now) (Some c.run_rounds_watched.new.self, c.run_rounds_watched.new.watch)
    (rounds_none g.V.Watch.starts g.V.Observer.takes g.V.Observer.fails g.V.Watch.notes c.args.lab.now c.run_rounds_watched.new.self _ c.args.watch.now c.run_rounds_watched.new.watch _ (ap failures c.in-Err-Refused.field-0-is) c.in-Err-Refused.ensures.network c.in-Err-Refused.ensures.told_in_part)

pub returns : goal.returns
returns g c =
    rounds_one g.V.Watch.starts g.V.Observer.takes g.V.Observer.fails g.V.Watch.notes c.args.lab.now c.run_rounds_watched.new.self _ c.args.watch.now c.run_rounds_watched.new.watch _ (ap failures c.in-Err-Failed.field-0-is) c.in-Err-Failed.ensures.network c.in-Err-Failed.ensures.told_in_part
