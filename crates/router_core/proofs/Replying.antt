-- The reply to one entry: by the route to its prefix, if the interface announces that.
use Rattle.std.proofs.Common.{◌≡◌, ℕ, Bool, true, false, cond, nat_le, None, refl, ap, ap₂, sym, ◌∙◌}
use Rattle.std.specs.FinMap.{get}
use Rattle.ripng_wire.specs.declared.rte.Rte.{Rte}
use Rattle.route_table.specs.Table.{Table}
use Rattle.router_core.specs.Announcing.{is_announced}
use Rattle.router_core.specs.Config.{Config}
use Rattle.router_core.specs.Offers.{prefix_named}
use Rattle.router_core.specs.Output.{filled, reply_entry, reply_on}

module _ (config : Config) (iface : ℕ) (table : Table) (e : Rte) where
  -- no prefix is so long
  pub reply_past : nat_le e.len 128 ≡ false → filled e None ≡ reply_on config iface table e
  reply_past long = sym (ap (λ b. cond (is_announced config iface (prefix_named e)) (filled e (cond b (get table (prefix_named e)) None)) (filled e None)) long ∙ either (is_announced config iface (prefix_named e)))
    where
      either : (b : Bool) → cond b (filled e None) (filled e None) ≡ filled e None
      either true = refl
      either false = refl

  -- what is announced
  pub reply_found : nat_le e.len 128 ≡ true → is_announced config iface (prefix_named e) ≡ true → filled e (get table (prefix_named e)) ≡ reply_on config iface table e
  reply_found short told = sym (ap₂ (λ a b. cond a (filled e (cond b (get table (prefix_named e)) None)) (filled e None)) told short)

  -- and what is not
  pub reply_kept : is_announced config iface (prefix_named e) ≡ false → filled e None ≡ reply_on config iface table e
  reply_kept kept = sym (ap (λ a. cond a (reply_entry table e) (filled e None)) kept)
