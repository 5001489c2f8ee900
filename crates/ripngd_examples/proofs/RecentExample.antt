-- A history that meets `IsRecent`, worked out. Two routers on one link start. The owner makes a regular update after 1 second, which is
-- lost. After 190 seconds the learner starts anew, and its clock with it; the clock of the owner has lost 200 milliseconds. The next
-- update of the owner comes to the learner, as the first no longer may. After 200 seconds the learner ticks, and still holds the route.
use Rattle.std.proofs.Common.{◌≡◌, ℕ, ◌+◌, ◌-◌, ◌*◌, ◌≤◌, List, [], ◌∷◌, ◌++◌, length, All, Some, slice_get, true, refl, sym, subst, arith}
use Rattle.std.specs.FinMap as map_of
use Rattle.route_table.proofs.TableLaws.{Some-same}
use Rattle.router_core.specs.Machine.{State}
use Rattle.router_core.specs.Owning.{owned_route}
use Rattle.router_core.specs.declared.answer.Destination.TheVariants.{Group}
use Rattle.router_core.specs.declared.answer.Answer.{Answer}
use Rattle.ripng_wire.specs.declared.rte.Command.TheVariants.{Response}
use Rattle.ripng_world.specs.World.{World, Event, Deliver, Tick, Restart, IsCold, sent_by}
use Rattle.ripng_world.specs.Rounds.{moment_of, router_of}
use Rattle.ripng_world.specs.declared.event.Sent.{Sent}
use Rattle.ripng_phases.specs.Ages.{Lead, IsAwake, IsRecent, StaysUp}
use Rattle.ripng_phases.specs.Minutes.{AreFrom, Timed, untimed}
use Rattle.ripng_phases.specs.Phases.{reached}
use Rattle.ripng_phases.proofs.EachPlace.{AtEachPlace, at_each_place, head_is, tail_is}
use Rattle.ripng_phases.proofs.TwoRouters.{doc, owned, facing, nodes, get_one, state, owner, learner, no_route, one_route, learned, told_once, entry_of, datagram, request, install_own, start_answer, update_answer, learn_answer, owner_starts, learner_starts, updates, learns_route, zoned, fits_doc}

-- ---- what is sent

abbrev update : Sent
update = sent_by 0 (datagram Group Response (entry_of (owned_route 0)))

abbrev poison : Sent
poison = sent_by 1 (datagram Group Response (entry_of (learned 300)))

abbrev asks : ℕ → Sent
asks router = sent_by router request

-- ---- the worlds, after so many steps

abbrev world : State → State → List Sent → World
world first second sent = record { states = first ∷ second ∷ []; sent = sent; reconfigurations = [] }

abbrev owner_at : (last regular : ℕ) → State
owner_at last regular = state owner (one_route (owned_route 0)) last regular 0

abbrev pub w0 : World
w0 = world (owner_at 0 0) (state learner no_route 0 0 0) (asks 0 ∷ asks 1 ∷ [])

abbrev w1 : World
w1 = world (owner_at 1_000 16_000) (state learner no_route 0 0 0) (asks 0 ∷ asks 1 ∷ update ∷ [])

abbrev w2 : World
w2 = world (owner_at 1_000 16_000) (state learner no_route 0 0 0) (asks 0 ∷ asks 1 ∷ update ∷ asks 1 ∷ [])

abbrev w3 : World
w3 = world (owner_at 190_000 205_000) (state learner no_route 0 0 0) (asks 0 ∷ asks 1 ∷ update ∷ asks 1 ∷ update ∷ [])

abbrev w4 : World
w4 = world (owner_at 190_000 205_000) (state learner (one_route (learned 300)) 300 0 0) (asks 0 ∷ asks 1 ∷ update ∷ asks 1 ∷ update ∷ [])

abbrev pub w5 : World
w5 = world (owner_at 190_000 205_000) (state learner (one_route (told_once (learned 300))) 10_000 25_000 0) (asks 0 ∷ asks 1 ∷ update ∷ asks 1 ∷ update ∷ poison ∷ [])

pub is_cold : IsCold nodes (0 ∷ 0 ∷ []) w0
is_cold = record { zoned = zoned; starts = (start_answer install_own, asks 1 ∷ [], owner_starts 0, (start_answer [], [], learner_starts 0, refl, refl), refl); unchanged = refl }

-- ---- the history

abbrev timed : ℕ → Event → Answer → World → Timed
timed at event answer after = record { at = at; step = record { event = event; answer = answer; after = after } }

abbrev early : Timed
early = timed 1_000 (Tick 0 1_000 0) (update_answer (owned_route 0)) w1

abbrev anew : Timed
anew = timed 190_000 (Restart 1 0) (start_answer []) w2

abbrev late : Timed
late = timed 190_200 (Tick 0 190_000 0) (update_answer (owned_route 0)) w3

abbrev comes : Timed
comes = timed 190_300 (Deliver 4 1 0 300) learn_answer w4

abbrev tells : Timed
tells = timed 200_000 (Tick 1 10_000 0) (update_answer (learned 300)) w5

abbrev pub history : List Timed
history = early ∷ anew ∷ late ∷ comes ∷ tells ∷ []

steps : Lead nodes w0 (untimed history) w5
steps = (
  record { old = owner_at 0 0; new = owner_at 1_000 16_000; old_is = refl; moves = updates 1 owned (owned_route 0) 0 0 0 1_000 0 refl refl refl (fits_doc 0 1 (omega arith) (omega arith)); states = refl; sent = refl; reconfigurations = refl },
  (
    record { old = state learner no_route 0 0 0; new = state learner no_route 0 0 0; old_is = refl; moves = learner_starts 0; states = refl; sent = refl; reconfigurations = refl },
    (
      record { old = owner_at 1_000 16_000; new = owner_at 190_000 205_000; old_is = refl; moves = updates 1 owned (owned_route 0) 1_000 16_000 0 190_000 0 refl refl refl (fits_doc 0 1 (omega arith) (omega arith)); states = refl; sent = refl; reconfigurations = refl },
      (
        record {
          sent = update;
          sent_is = refl;
          linked = record { here = facing 1; there = facing 2; here_is = refl; there_is = refl; same_link = refl };
          moves = record { old = state learner no_route 0 0 0; new = state learner (one_route (learned 300)) 300 0 0; old_is = refl; moves = learns_route 0 0 0 300 true; states = refl; sent = refl; reconfigurations = refl };
        },
        (
          record { old = state learner (one_route (learned 300)) 300 0 0; new = state learner (one_route (told_once (learned 300))) 10_000 25_000 0; old_is = refl; moves = updates 2 [] (learned 300) 300 0 0 10_000 0 refl refl refl (fits_doc 0 16 (omega arith) (omega arith)); states = refl; sent = refl; reconfigurations = refl },
          refl,
        ),
      ),
    ),
  ),
)

in_time : AreFrom 0 history
in_time = (omega arith, (omega arith, (omega arith, (omega arith, (omega arith, tt)))))

-- ---- the four rules

-- 15 seconds before, two or three datagrams had been sent; what comes has number 4
few : (old new : List Timed) → early ∷ anew ∷ late ∷ [] ≡ old ++ new → All (λ s. s.at + 15_000 ≤ 190_300) old → length (reached w0 (untimed old)).sent ≤ 4
few [] new e all = omega arith
few (a ∷ []) new e all = subst (λ (a : Timed). length a.step.after.sent ≤ 4) (head_is early a (anew ∷ late ∷ []) new e) (omega arith)
few (a ∷ b ∷ old) new e all =
    let is = head_is anew b (late ∷ []) (old ++ new) (tail_is early a (anew ∷ late ∷ []) (b ∷ old ++ new) e) in
    absurd (not_so (subst (λ (b : Timed). b.at + 15_000 ≤ 190_300) (sym is) (all 1 a (omega arith))))
  where
    not_so : 190_000 + 15_000 ≤ 190_300 → ⊥
    not_so le = omega arith

number : (n r i m : ℕ) → Deliver 4 1 0 300 ≡ Deliver n r i m → 4 ≡ n
number n r i m e = cc

recent : (before : List Timed) (t : Timed) (after : List Timed) → history ≡ before ++ t ∷ after → 0 + 15_000 ≤ t.at
    → (datagram router iface now : ℕ) → t.step.event ≡ Deliver datagram router iface now
    → (old new : List Timed) → before ≡ old ++ new → All (λ s. s.at + 15_000 ≤ t.at) old → length (reached w0 (untimed old)).sent ≤ datagram
recent =
    at_each_place (λ before t after. 0 + 15_000 ≤ t.at → (datagram router iface now : ℕ) → t.step.event ≡ Deliver datagram router iface now
    → (old new : List Timed) → before ≡ old ++ new → All (λ s. s.at + 15_000 ≤ t.at) old → length (reached w0 (untimed old)).sent ≤ datagram)
    history (
      λ from n r i m is old new parts all. absurd cc,
      (
        λ from n r i m is old new parts all. absurd cc,
        (
          λ from n r i m is old new parts all. absurd cc,
          (
            λ from n r i m is old new parts all. subst (λ k. length (reached w0 (untimed old)).sent ≤ k) (number n r i m is) (few old new parts all),
            (λ from n r i m is old new parts all. absurd cc, tt),
          ),
        ),
      ),
    )

awake : (before : List Timed) (t : Timed) (after : List Timed) → history ≡ before ++ t ∷ after → 0 + 1_000 ≤ t.at
    → IsAwake (before ++ t ∷ []) (router_of t.step.event) t.at
awake =
    at_each_place (λ before t after. 0 + 1_000 ≤ t.at → IsAwake (before ++ t ∷ []) (router_of t.step.event) t.at) history (
      λ from. record { look = early; stands = (0, omega arith, refl); router_is = refl; looks = tt; late = omega arith },
      (
        λ from. record { look = anew; stands = (1, omega arith, refl); router_is = refl; looks = tt; late = omega arith },
        (
          λ from. record { look = late; stands = (2, omega arith, refl); router_is = refl; looks = tt; late = omega arith },
          (
            λ from. record { look = anew; stands = (1, omega arith, refl); router_is = refl; looks = tt; late = omega arith },
            (λ from. record { look = tells; stands = (4, omega arith, refl); router_is = refl; looks = tt; late = omega arith }, tt),
          ),
        ),
      ),
    )

-- the clock at the second of two moments of a router, unless it started anew between them
abbrev GoesOn : Timed → List Timed → Timed → Type 0
GoesOn s between t =
    router_of s.step.event ≡ router_of t.step.event → StaysUp (router_of t.step.event) (between ++ t ∷ [])
    → moment_of s.step.event + (t.at - s.at) ≤ moment_of t.step.event + 1_000

clocks : (a : List Timed) (s : Timed) (b : List Timed) (t : Timed) (c : List Timed) → history ≡ a ++ s ∷ (b ++ t ∷ c) → GoesOn s b t
clocks a s b t c parts =
    at_each_place (λ b t c. GoesOn s b t) (b ++ t ∷ c)
    (at_each_place (λ a s rest. AtEachPlace (λ b t c. GoesOn s b t) rest) history each a s (b ++ t ∷ c) parts)
    b t c refl
  where
    each : AtEachPlace (λ a s rest. AtEachPlace (λ b t c. GoesOn s b t) rest) history
    each = (
      (λ same up. omega arith, (λ same up. omega arith, (λ same up. omega arith, (λ same up. omega arith, tt)))),
      (
        (λ same up. omega arith, (λ same up. omega arith, (λ same up. omega arith, tt))),
        ((λ same up. omega arith, (λ same up. omega arith, tt)), ((λ same up. omega arith, tt), (tt, tt))),
      ),
    )

since : (b : List Timed) (t : Timed) (c : List Timed) → history ≡ b ++ t ∷ c → StaysUp (router_of t.step.event) (b ++ t ∷ [])
    → (s : State) → slice_get w0.states (router_of t.step.event) ≡ Some s → s.last + (t.at - 0) ≤ moment_of t.step.event + 1_000
since =
    at_each_place (λ b t c. StaysUp (router_of t.step.event) (b ++ t ∷ []) → (s : State) → slice_get w0.states (router_of t.step.event) ≡ Some s
    → s.last + (t.at - 0) ≤ moment_of t.step.event + 1_000) history (
      λ up s is. subst (λ (s : State). s.last + 1_000 ≤ 2_000) (Some-same (owner_at 0 0) s is) (omega arith),
      (
        λ up s is. absurd (up 1 early (omega arith) refl),
        (
          λ up s is. subst (λ (s : State). s.last + 190_200 ≤ 191_000) (Some-same (owner_at 0 0) s is) (omega arith),
          (λ up s is. absurd (up 1 early (omega arith) refl), (λ up s is. absurd (up 1 early (omega arith) refl), tt)),
        ),
      ),
    )

pub is_recent : IsRecent nodes w0 history 0 w5
is_recent = record { steps = steps; in_time = in_time; recent = recent; awake = awake; clocks = clocks; since = since }

-- ---- what it holds at the end

-- the route that the learner took over, of metric 2, by fe80::1
pub holds_route : map_of.get (one_route (told_once (learned 300))) doc ≡ Some (told_once (learned 300))
holds_route = get_one (told_once (learned 300)) doc

-- so late the law `forgets_old_news` speaks of a route of this metric, at a router that has looked
pub is_awake : IsAwake history 1 200_000
is_awake = record { look = tells; stands = (4, omega arith, refl); router_is = refl; looks = tt; late = omega arith }

pub late_enough : 0 + ((learned 300).metric - 1) * 197_000 ≤ 200_000
late_enough = omega arith
