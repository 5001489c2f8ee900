-- What an interface takes without filters and limits: everything, as RFC 2080 has it.
use Rattle.std.proofs.Common.{◌≡◌, ℕ, Bool, true, false, not, ◌&&◌, nat_lt, List, [], Option, None, refl, ap, ap₂, ◌∙◌}
use Rattle.std.specs.Prelude.{if◌then◌else◌, ◌∷◌}
use Rattle.ripng_wire.specs.declared.rte.Rte.{Rte}
use Rattle.ripng_wire.specs.Wire.{first_reason}
use Rattle.prefix6.specs.Prefix.{Prefix6}
use Rattle.route_table.specs.Route.{infinity}
use Rattle.router_core.specs.Config.{Config}
use Rattle.router_core.specs.Filters.{is_accepted, is_limit_reached, limit_at, refusal}
use Rattle.router_core.specs.Lists.{lets_through}
use Rattle.router_core.specs.Hearing.{Hearing, refusal_at, would_add, would_bring, brought_after, notes_of_new, notes_of_offer, notes_by_refusal}
use Rattle.router_core.specs.Offers.{prefix_named}
use Rattle.router_core.specs.declared.answer.NoteKind.{NoteKind}
use Rattle.router_core.specs.declared.answer.NoteKind.TheVariants.{NotAccepted, LimitReached}
use Rattle.router_core.specs.declared.filter.Filter.{Filter}
use Rattle.router_core.specs.declared.filter.Limit.{Limit}

and_false : (b : Bool) → (b && false) ≡ false
and_false true = refl
and_false false = refl

-- an interface without filters accepts every prefix
pub accepts_all : (config : Config) (iface : ℕ) (p : Prefix6) → config.filters ≡ [] → is_accepted config iface p ≡ true
accepts_all config iface p none =
    ap (λ (fs : List Filter). lets_through fs iface p) none

-- without limits none is reached
pub no_limit : (config : Config) (iface held : ℕ) → config.limits ≡ [] → is_limit_reached (limit_at config iface) held ≡ false
no_limit config iface held none = ap (λ (ls : List Limit). is_limit_reached (limit_at (record config { limits = ls }) iface) held) none

module _ (config : Config) (iface : ℕ) (e : Rte) (brings : Bool) (held : ℕ) where
  abbrev by : Bool → Bool → Option NoteKind
  by barred full = first_reason ((barred, NotAccepted) ∷ (full, LimitReached) ∷ [])

  -- what is accepted and brings nothing beyond the limit is not refused
  pub takes : is_accepted config iface (prefix_named e) ≡ true → (brings && is_limit_reached (limit_at config iface) held) ≡ false → refusal config iface e brings held ≡ None
  takes accepted below =
      ap₂ (λ a full. by (nat_lt e.metric infinity && not a) full) accepted below
      ∙ ap (λ barred. by barred false) (and_false (nat_lt e.metric infinity))

  -- a withdrawal that brings nothing is not refused, whatever the filters
  pub takes_withdrawal : nat_lt e.metric infinity ≡ false → brings ≡ false → refusal config iface e brings held ≡ None
  takes_withdrawal unreachable nothing =
      ap₂ (λ low b. by (low && not (is_accepted config iface (prefix_named e))) (b && is_limit_reached (limit_at config iface) held)) unreachable nothing

  -- without filters and limits no offer is refused
  pub takes_all : config.filters ≡ [] → config.limits ≡ [] → refusal config iface e brings held ≡ None
  takes_all no_filters no_limits =
      takes (accepts_all config iface (prefix_named e) no_filters)
      (ap (λ full. brings && full) (no_limit config iface held no_limits) ∙ and_false brings)

module _ (h : Hearing) (place : ℕ) (e : Rte) where
  -- and so the notes that are allowed on an offer are those of its flaw and of the room for a new route
  pub refuses_nothing : h.config.filters ≡ [] → h.config.limits ≡ [] → refusal_at h place e ≡ None
  refuses_nothing = takes_all h.config h.gateway.iface e (would_bring h place e) (brought_after h place)

  pub notes_without_filters : h.config.filters ≡ [] → h.config.limits ≡ []
      → notes_of_offer h place e None ≡ (if would_add h place e then notes_of_new h place else None ∷ [])
  notes_without_filters no_filters no_limits = ap (notes_by_refusal h place e) (refuses_nothing no_filters no_limits)
