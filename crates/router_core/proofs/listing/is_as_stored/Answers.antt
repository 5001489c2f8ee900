use Rattle.std.proofs.Common.{◌≡◌, ◌∙◌, Option, None, Some, false, is_some, not, ap, refl, sym}
use Rattle.std.specs.FinMap.{entries}
use Rattle.router_core.proofs.DueRoutes.{none_due-told}
use Rattle.router_core.proofs.listing.is_as_stored.Goals as goal

none_there : {X : Type 0} (o : Option X) → is_some o ≡ false → o ≡ None
none_there None h = refl
none_there (Some x) h = absurd (cc)

pub returns-in-Every : goal.returns-in-Every
returns-in-Every g c is =
    rw c.in-Every.is (none_due-told c.args.now (entries (g.S.RouteStore.table c.args.store.now)) (sym c.walk_due.ensures ∙ none_there _ (c.is_none.ensures ∙ ap not is)))
