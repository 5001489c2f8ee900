-- The addresses and zones of a router stay, whatever it does; and which arrivals it refuses is by these alone.
use Rattle.std.proofs.Common.{◌≡◌, ℕ, ◌+◌, ◌%◌, max, ◌==◌, ◌&&◌, not, Bool, true, false, cond, MatchBool, MatchOption, List, [], ◌∷◌, ◌++◌, map, length, Option, Some, None, option_map, unwrap_or, slice_get, refl, ap, sym, ◌∙◌}
use Rattle.std.specs.List.{list_any}
use Rattle.prefix6.specs.Addr.{is_link_local}
use Rattle.ripng_wire.specs.Wire.{first_reason, wire_reasons, is_response}
use Rattle.router_core.specs.Ageing.{aged_table, unmarked}
use Rattle.router_core.specs.Config.{Config, is_own_address, zone_at}
use Rattle.router_core.specs.Faults.{fault, asker_reasons, ripng_port}
use Rattle.router_core.specs.Machine.{State, Happening, Arrives, Ticks, Restarts, Reconfigures, ShutsDown, LinkGoesDown, LinkComesUp, Moves, Accepts, Refuses, Hears as RouterHears, Replies, ticked, is_regular_due, is_triggered_due}
use Rattle.router_core.specs.Received.{Received}
use Rattle.router_core.specs.Reconfiguring.{reconfigured_config}
use Rattle.router_core.specs.declared.answer.Answer.{Answer}
use Rattle.router_core.specs.declared.arrival.Fault.{Fault}
use Rattle.router_core.specs.declared.arrival.Fault.TheVariants.{Wire, NotRipngPort, NotLinkLocal, OwnAddress, HopLimit, EmptyRequest}
use Rattle.router_core.specs.declared.config.Interface.{Interface}
use Rattle.router_core.specs.declared.reconfiguring.Change.{Change}
use Rattle.router_core.specs.declared.reconfiguring.Change.TheVariants.{Cost, Own, Disown}
use Rattle.ripng_world.proofs.WorldRuns.{any_map, get_map, set_addresses, zoned_address}
use Rattle.router_core.specs.Timers.{next_hold, next_regular}

-- ---- addresses stay

-- the addresses of a configuration, each with its zone
abbrev pub addresses_of : Config → List (ℕ × ℕ)
addresses_of config = map zoned_address config.interfaces

accepted_addresses : (old : State) (now : ℕ) (x : Received) (answer : Answer) (new : State) (b : Bool) → MatchBool b (RouterHears old now x answer new) (Replies old now x answer new)
    → addresses_of new.config ≡ addresses_of old.config
accepted_addresses old now x answer new true hears = ap (λ (s : State). addresses_of s.config) hears.state
accepted_addresses old now x answer new false replies = ap (λ (s : State). addresses_of s.config) replies.state

arrived_addresses : (old : State) (now : ℕ) (x : Received) (answer : Answer) (new : State) (o : Option Fault)
    → MatchOption o (Accepts old now x answer new) (λ why. Refuses old now why answer new) → addresses_of new.config ≡ addresses_of old.config
arrived_addresses old now x answer new None accepts = accepted_addresses old now x answer new (is_response x.bytes) accepts
arrived_addresses old now x answer new (Some why) refuses = ap (λ (s : State). addresses_of s.config) refuses.state

ticked_addresses : (old : State) (now word : ℕ) → addresses_of (ticked old now word).config ≡ addresses_of old.config
ticked_addresses old now word = by_due (is_regular_due old now) (is_triggered_due old now)
  where
    by_due : (b c : Bool) → addresses_of (cond b (record old { table = unmarked (aged_table now old.table); last = now; regular = next_regular now word })
        (cond c (record old { table = unmarked (aged_table now old.table); last = now; hold = next_hold now word }) (record old { table = aged_table now old.table; last = now }))).config ≡ addresses_of old.config
    by_due true c = refl
    by_due false true = refl
    by_due false false = refl

changed_addresses : (config : Config) (c : Change) → addresses_of (reconfigured_config config c) ≡ addresses_of config
changed_addresses config (Cost iface cost) = set_addresses config.interfaces iface cost
changed_addresses config (Own p tag) = refl
changed_addresses config (Disown p) = refl

pub moves_addresses : (old : State) (happening : Happening) (answer : Answer) (new : State) → Moves old happening answer new → addresses_of new.config ≡ addresses_of old.config
moves_addresses old (Arrives x) answer new moves = arrived_addresses old (max old.last x.now) x answer new (fault old.config x) moves
moves_addresses old (Ticks now word) answer new moves = ap (λ (s : State). addresses_of s.config) moves.state ∙ ticked_addresses old (max old.last now) word
moves_addresses old (Restarts now) answer new moves = ap (λ (s : State). addresses_of s.config) moves.state
moves_addresses old (ShutsDown now) answer new moves = ap (λ (s : State). addresses_of s.config) moves.state
moves_addresses old (LinkGoesDown now iface) answer new moves = ap (λ (s : State). addresses_of s.config) moves.state
moves_addresses old (LinkComesUp now iface) answer new moves = ap (λ (s : State). addresses_of s.config) moves.state
moves_addresses old (Reconfigures now c) answer new moves = ap (λ (s : State). addresses_of s.config) moves.state ∙ changed_addresses old.config c

-- ---- faults are by addresses and zones alone

-- whether one of the addresses is that of an arrival at the interface, in its zone
abbrev own_among : List (ℕ × ℕ) → ℕ → ℕ → Bool
own_among places iface a =
    let zone = unwrap_or (option_map (λ (t : ℕ × ℕ). t.0) (slice_get places iface)) 0 in
    list_any (λ (t : ℕ × ℕ). t.0 == zone && t.1 == a) places

own_by_address : (config : Config) (iface a : ℕ) → is_own_address config iface a ≡ own_among (addresses_of config) iface a
own_by_address config iface a =
    sym (any_map (λ (t : ℕ × ℕ). t.0 == zone_at config iface && t.1 == a) zoned_address config.interfaces)
    ∙ ap (λ z. list_any (λ (t : ℕ × ℕ). t.0 == z && t.1 == a) (addresses_of config)) zone
  where
    of_place : (o : Option Interface) → unwrap_or (option_map (λ (i : Interface). i.zone) o) 0 ≡ unwrap_or (option_map (λ (t : ℕ × ℕ). t.0) (option_map zoned_address o)) 0
    of_place None = refl
    of_place (Some i) = refl

    zone : zone_at config iface ≡ unwrap_or (option_map (λ (t : ℕ × ℕ). t.0) (slice_get (addresses_of config) iface)) 0
    zone =
        of_place (slice_get config.interfaces iface)
        ∙ ap (λ o. unwrap_or (option_map (λ (t : ℕ × ℕ). t.0) o) 0) (sym (get_map zoned_address config.interfaces iface))

abbrev neighbors : Bool → Received → List (Bool × Fault)
neighbors own x = (not (is_link_local x.source), NotLinkLocal) ∷ (own, OwnAddress) ∷ (x.to_group && not (x.hop_limit == 255), HopLimit) ∷ []

abbrev fault_by : Bool → Received → Option Fault
fault_by own x =
    first_reason (map (λ t. (t.0, Wire t.1)) (wire_reasons x.bytes)
    ++ cond (is_response x.bytes) ((not (x.source_port == ripng_port), NotRipngPort) ∷ neighbors own x)
    ((length x.bytes == 4, EmptyRequest) ∷ cond (x.source_port == ripng_port) (neighbors own x) (asker_reasons x)))

pub fault_same : (c d : Config) (x : Received) → addresses_of c ≡ addresses_of d → fault c x ≡ fault d x
fault_same c d x same =
    ap (λ own. fault_by own x) (own_by_address c x.iface x.source ∙ ap (λ places. own_among places x.iface x.source) same ∙ sym (own_by_address d x.iface x.source))
