-- The offers that an arrival brings (RFC 2080, 2.4.2).
use Rattle.std.specs.Prelude.{◌≡◌, ℕ, max, MatchBool, MatchOption, List, [], map, filter}
use Rattle.std.specs.List.{enumerate_from}
use Rattle.prefix6.specs.Prefix.{Prefix6}
use Rattle.ripng_wire.specs.declared.rte.Rte.{Rte}
use Rattle.ripng_wire.specs.declared.rte.Command.TheVariants.{Response}
use Rattle.ripng_wire.specs.Layout.{Spells}
use Rattle.ripng_wire.specs.Wire.{is_response}
use Rattle.router_core.specs.Adoption.{Gateway}
use Rattle.router_core.specs.Config.{Config}
use Rattle.router_core.specs.Faults.{fault}
use Rattle.router_core.specs.Machine.{State, gateway_of}
use Rattle.router_core.specs.Offers.{Offer, offer_at, is_offer, prefix_named}
use Rattle.router_core.specs.Received.{Received}

-- an offer for a prefix from a gateway
pub record Offered : Type 0 where
  pub gateway : Gateway
  pub prefix : Prefix6
  pub offer : Offer

-- the offer of the entry at a place
abbrev pub offered_at : Config → Gateway → List Rte → ℕ → Rte → Offered
offered_at config g entries place e =
    record { gateway = g; prefix = prefix_named e; offer = offer_at config g.from entries place e }

-- the offers of some entries, each with its place
abbrev pub offered_by : Config → Gateway → List Rte → List (ℕ × Rte) → List Offered
offered_by config g entries ts = map (λ t. offered_at config g entries t.0 t.1) (filter (λ t. is_offer t.1) ts)

-- the offers of all entries, in their order
abbrev pub all_offered : Config → Gateway → List Rte → List Offered
all_offered config g entries = offered_by config g entries (enumerate_from 0 entries)

-- the offers of an arrival that is a Response
pub record BringsOffers (s : State) (x : Received) (all : List Offered) : Type 0 where
  pub entries : List Rte
  pub read : Spells Response entries x.bytes
  pub are : all ≡ all_offered s.config (gateway_of s (max s.last x.now) x) entries

-- the offers that an arrival brings to a router: those of a Response that is not refused
abbrev pub Brings : State → Received → List Offered → Type 0
Brings s x all = MatchOption (fault s.config x) (MatchBool (is_response x.bytes) (BringsOffers s x all) (all ≡ [])) (λ why. all ≡ [])
