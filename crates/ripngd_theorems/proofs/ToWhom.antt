-- A datagram with hop limit 255 is processed alike, to whomever it was sent.
use Rattle.std.proofs.Common.{◌≡◌, ℕ, MatchBool, MatchOption, Some, None, subst, max, ◌==◌, ◌&&◌, Bool, true, false, not, cond, List, [], ◌∷◌, ◌++◌, map, length, Option, refl, ap, sym, ◌∙◌}
use Rattle.std.proofs.lemmas.Bool.{eq-eqb}
use Rattle.prefix6.specs.Addr.{is_link_local}
use Rattle.ripng_wire.specs.Wire.{first_reason, wire_reasons, is_response}
use Rattle.router_core.specs.Config.{Config, is_own_address}
use Rattle.router_core.specs.Faults.{fault, asker_reasons, ripng_port}
use Rattle.router_core.specs.Machine.{State, Arrives, Accepts, Hears, Refuses, Replies}
use Rattle.router_core.specs.Received.{Received}
use Rattle.router_core.specs.declared.answer.Answer.{Answer}
use Rattle.ripng_world.specs.World.{World, RouterMoves}
use Rattle.router_core.specs.declared.arrival.Fault.{Fault}
use Rattle.router_core.specs.declared.arrival.Fault.TheVariants.{Wire, NotRipngPort, NotLinkLocal, OwnAddress, HopLimit, EmptyRequest}

abbrev neighbors : Config → Received → Bool → List (Bool × Fault)
neighbors config x far = (not (is_link_local x.source), NotLinkLocal) ∷ (is_own_address config x.iface x.source, OwnAddress) ∷ (far, HopLimit) ∷ []

abbrev fault_by : Config → Received → Bool → Option Fault
fault_by config x far =
    first_reason (map (λ t. (t.0, Wire t.1)) (wire_reasons x.bytes)
    ++ cond (is_response x.bytes) ((not (x.source_port == ripng_port), NotRipngPort) ∷ neighbors config x far)
    ((length x.bytes == 4, EmptyRequest) ∷ cond (x.source_port == ripng_port) (neighbors config x far) (asker_reasons x)))

and_false : (b : Bool) → (b && false) ≡ false
and_false true = refl
and_false false = refl

-- with hop limit 255 the group does not matter
pub judged_alike : (config : Config) (x : Received) (b : Bool) → x.hop_limit ≡ 255 → fault config (record x { to_group = b }) ≡ fault config x
judged_alike config x b hops = ap (fault_by config x) (near b ∙ sym (near x.to_group))
  where
    near : (b : Bool) → (b && not (x.hop_limit == 255)) ≡ false
    near b = ap (λ h. b && not h) (eq-eqb x.hop_limit 255 hops) ∙ and_false b

-- and so a router does the same
accepts : (old : State) (now : ℕ) (x : Received) (b : Bool) (answer : Answer) (new : State) (r : Bool) → MatchBool r (Hears old now x answer new) (Replies old now x answer new)
    → MatchBool r (Hears old now (record x { to_group = b }) answer new) (Replies old now (record x { to_group = b }) answer new)
accepts old now x b answer new true h =
    record { entries = h.entries; read = h.read; table = h.table; heard = h.heard; state = h.state; answer_is = h.answer_is }
accepts old now x b answer new false h = record { entries = h.entries; read = h.read; state = h.state; answer_is = h.answer_is }

judged : (old : State) (now : ℕ) (x : Received) (b : Bool) (answer : Answer) (new : State) (o : Option Fault)
    → MatchOption o (Accepts old now x answer new) (λ why. Refuses old now why answer new)
    → MatchOption o (Accepts old now (record x { to_group = b }) answer new) (λ why. Refuses old now why answer new)
judged old now x b answer new None h = accepts old now x b answer new (is_response x.bytes) h
judged old now x b answer new (Some why) h = h

pub to_whom : (w w' : World) (router : ℕ) (answer : Answer) (x : Received) (b : Bool) → x.hop_limit ≡ 255
    → RouterMoves w router (Arrives x) answer w' → RouterMoves w router (Arrives (record x { to_group = b })) answer w'
to_whom w w' router answer x b hops m =
    record {
      old = m.old;
      new = m.new;
      old_is = m.old_is;
      moves = subst (λ o. MatchOption o (Accepts m.old (max m.old.last x.now) (record x { to_group = b }) answer m.new)
          (λ why. Refuses m.old (max m.old.last x.now) why answer m.new))
          (sym (judged_alike m.old.config x b hops))
          (judged m.old (max m.old.last x.now) x b answer m.new (fault m.old.config x) m.moves);
      states = m.states;
      sent = m.sent;
      reconfigurations = m.reconfigurations;
    }
