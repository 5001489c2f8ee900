use Rattle.std.proofs.Common.{◌∙◌, ap, sym}
use Rattle.ripng_trace.specs.Records.{with_routes}
use Rattle.ripng_trace.proofs.Telling.{is_known}
use Rattle.ripng_trace.proofs.known.news_of.Goals as goal

pub returns-clause-known : goal.returns-clause-known
returns-clause-known c =
    c.in_ok-routes.ensures.all ∙ is_known c.args.table.now c.forget_gone.new.known c.in_ok-gone.ensures.gone

pub returns-clause-listed : goal.returns-clause-listed
returns-clause-listed c =
    ap (λ t. with_routes t c.in_ok-routes.routes.items) (sym c.in_ok-gone.ensures.listed) ∙ sym c.in_ok-routes.ensures.listed
    ∙ c.in_ok-routes.ensures.all ∙ is_known c.args.table.now c.forget_gone.new.known c.in_ok-gone.ensures.gone
