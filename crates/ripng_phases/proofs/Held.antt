-- What a live route is held by: a datagram, and a moment since when it has time left. Each event keeps it.
use Rattle.std.proofs.Common.{◌≡◌, ◌⊎◌, inl, inr, ℕ, ◌+◌, max, ◌<◌, ◌≤◌, length, Some, slice_get, refl, ap, sym, subst, ◌∙◌, arith}
use Rattle.std.proofs.lemmas.Option.{slice_get_within}
use Rattle.prefix6.specs.Prefix.{Prefix6}
use Rattle.route_table.specs.Route.{RouteValue}
use Rattle.route_table.specs.declared.route.Clock.TheVariants.{Live}
use Rattle.router_core.specs.Machine.{State, gateway_of}
use Rattle.router_core.specs.Timers.{timeout, garbage_time}
use Rattle.router_core.specs.declared.answer.Answer.{Answer}
use Rattle.ripng_world.specs.Network.{Network}
use Rattle.ripng_world.specs.Rounds.{router_of, moment_of}
use Rattle.ripng_world.specs.World.{World, Event, Deliver, Happens, arrival_of}
use Rattle.ripng_world.proofs.Improving.{RouteAt}
use Rattle.ripng_phases.specs.Phases.{IsOrdinary}
use Rattle.ripng_phases.proofs.Holding.{event_keeps_sent, rests_later}
use Rattle.ripng_phases.proofs.Moving.{IsStep, HearsHere, step_of}
use Rattle.ripng_phases.proofs.Orderly.{IsOrderly}
use Rattle.ripng_phases.proofs.Resting.{IsRestingOn, taken_rests}
use Rattle.ripng_phases.proofs.Rows.{IsSame, IsTaken}
use Rattle.ripng_phases.proofs.Stepping.{live_after}

-- it rests on what was sent since that number, was set at such a moment, and has time left
pub record IsHeld (net : Network) (w : World) (first : ℕ) (moments : ℕ → ℕ → Type 0) (router last : ℕ) (p : Prefix6) (r : RouteValue) (until : ℕ) : Type 0 where
  pub rests : IsRestingOn net w first router p r
  pub ahead : last < until
  pub since : ℕ
  pub since_is : moments router since
  pub within : since + timeout ≤ until

-- so is each live route, or it is an old one
abbrev pub AllHeld : Network → World → ℕ → (ℕ → ℕ → Type 0) → (ℕ → ℕ → Type 0) → Type 0
AllHeld net w first moments old =
    (router : ℕ) (p : Prefix6) (r : RouteValue) (until : ℕ) (at : RouteAt w router p r) → r.clock ≡ Live until → IsHeld net w first moments router at.0.last p r until ⊎ old router until

pub rests_weaker : (net : Network) (w : World) (first new router : ℕ) (p : Prefix6) (r : RouteValue) → first ≤ new → IsRestingOn net w new router p r → IsRestingOn net w first router p r
rests_weaker net w first new router p r le x =
    record {
      datagram = x.datagram;
      recent = up first new x.datagram le x.recent;
      sent = x.sent;
      sent_is = x.sent_is;
      iface = x.iface;
      linked = x.linked;
      apart = x.apart;
      entries = x.entries;
      spelled = x.spelled;
      entry = x.entry;
      stands = x.stands;
      names = x.names;
      metric = x.metric;
      next_hop = x.next_hop;
      origin = x.origin;
    }
  where
    up : (a b c : ℕ) → a ≤ b → b ≤ c → a ≤ c
    up a b c e f = omega arith

split : (a b : ℕ) → (b ≤ a) ⊎ (a < b)
split a b = grind arith

-- a moment of time left stays ahead
pub still_ahead : (net : Network) (w : World) (e : Event) (answer : Answer) (router : ℕ) (s t : State) → IsStep net w e answer router s t → (until : ℕ) → s.last < until → (router_of e ≡ router → moment_of e < until) → t.last < until
still_ahead net w e answer router s t step until before now = by step
  where
    both : (l n u k : ℕ) → k ≡ max l n → l < u → n < u → k < u
    both l n u k a b c = omega arith

    by : IsStep net w e answer router s t → t.last < until
    by (inl waits) = elim waits.last [
      | inl same ↦ subst (λ n. n < until) (sym same) before
      | inr later ↦ both s.last (moment_of e) until t.last later.1 before (now later.0)
    ]
    by (inr (inl ages)) = both s.last (moment_of e) until t.last ages.last before (now ages.here)
    by (inr (inr here)) =
        both s.last (moment_of e) until t.last (ap (λ (x : State). x.last) here.hears.state ∙ ap (λ n. max s.last n) (sym (ap moment_of here.event))) before (now (ap router_of here.event))

-- one event
module _ (net : Network) (w w' : World) (e : Event) (answer : Answer) (h : Happens net w e answer w') (moments : ℕ → ℕ → Type 0) (number : ℕ) where
  -- a route that was held
  pub kept : ((x : ℕ) → moments (router_of e) x → moment_of e < x + garbage_time) → (router : ℕ) (s t : State) → IsStep net w e answer router s t → (p : Prefix6) (q r : RouteValue) (until : ℕ) → IsSame q r
      → IsHeld net w number moments router s.last p q until → IsHeld net w' number moments router t.last p r until
  kept near router s t step p q r until same x =
      record {
        rests = rests_later net w w' number router p q r (event_keeps_sent net w w' e answer h) same x.rests;
        ahead = still_ahead net w e answer router s t step until x.ahead
            (λ here. below (moment_of e) x.since until (near x.since (subst (λ k. moments k x.since) (sym here) x.since_is)) x.within);
        since = x.since;
        since_is = x.since_is;
        within = x.within;
      }
    where
      below : (n s u : ℕ) → n < s + garbage_time → s + timeout ≤ u → n < u
      below n s u a b = omega arith

  -- one that is taken
  pub took : (known : Prefix6 → Type 0) → IsOrderly net known w → moments (router_of e) (moment_of e) → (router : ℕ) (s t : State) → slice_get w.states router ≡ Some s → (here : HearsHere net w e answer router s t) → number ≤ here.datagram
      → (p : Prefix6) (r : RouteValue) (until : ℕ) → IsTaken (gateway_of s (max s.last here.now) (arrival_of net here.sent here.iface here.now)) here.hears.entries p r until
      → IsHeld net w' number moments router t.last p r until
  took known orderly now router s t s_is here late p r until taken =
      let o = orderly.states router s s_is in
      record {
        rests = rests_later net w w' number router p r r (event_keeps_sent net w w' e answer h) (record { metric = refl; tag = refl; origin = refl; clock = refl })
            (taken_rests net orderly.zoned w e answer router s t o.node o.node_is o.config_is here p r until taken number late);
        ahead = more_left t.last (max s.last here.now) until (ap (λ (x : State). x.last) here.hears.state) taken.until_is;
        since = here.now;
        since_is = subst (λ n. moments router n) (ap moment_of here.event) (subst (λ k. moments k (moment_of e)) (ap router_of here.event) now);
        within = enough s.last here.now until taken.until_is;
      }
    where
      more_left : (l m u : ℕ) → l ≡ m → u ≡ m + timeout → l < u
      more_left l m u a b = omega arith

      enough : (l n u : ℕ) → u ≡ max l n + timeout → n + timeout ≤ u
      enough l n u a = omega arith

-- in a phase: what was sent in it has a number that is new or later
module _ (net : Network) (first new : ℕ) (now_moments all_moments old : ℕ → ℕ → Type 0) where
  abbrev pub IsNew : World → ℕ → ℕ → Prefix6 → RouteValue → ℕ → Type 0
  IsNew w router last p r until = IsHeld net w new now_moments router last p r until

  abbrev pub IsOlder : World → ℕ → ℕ → Prefix6 → RouteValue → ℕ → Type 0
  IsOlder w router last p r until = (x : IsHeld net w first all_moments router last p r until) × (x.rests.datagram < new)

  abbrev pub AllHeldIn : World → Type 0
  AllHeldIn w =
      (router : ℕ) (p : Prefix6) (r : RouteValue) (until : ℕ) (at : RouteAt w router p r) → r.clock ≡ Live until
      → IsNew w router at.0.last p r until ⊎ (IsOlder w router at.0.last p r until ⊎ old router until)

  pub held_begins : (w : World) (before : ℕ → ℕ → Type 0) → new ≡ length w.sent → ((router x : ℕ) → before router x → all_moments router x) → AllHeld net w first before old → AllHeldIn w
  held_begins w before new_is more all router p r until at clock =
      elim (all router p r until at clock) [
        | inl x ↦ inr (inl (
          record { rests = x.rests; ahead = x.ahead; since = x.since; since_is = more router x.since x.since_is; within = x.within },
          subst (λ n. x.rests.datagram < n) (sym new_is) (slice_get_within w.sent x.rests.datagram x.rests.sent x.rests.sent_is),
        ))
        | inr x ↦ inr (inr x)
      ]

  pub held_is : (w : World) → first ≤ new → ((router x : ℕ) → now_moments router x → all_moments router x) → AllHeldIn w → AllHeld net w first all_moments old
  held_is w le more all router p r until at clock =
      elim (all router p r until at clock) [
        | inl x ↦ inl (record { rests = rests_weaker net w first new router p r le x.rests; ahead = x.ahead; since = x.since; since_is = more router x.since x.since_is; within = x.within })
        | inr x ↦ elim x [ inl y ↦ inl y.0 | inr y ↦ inr y ]
      ]

  module _ (known : Prefix6 → Type 0) (more : (router x : ℕ) → now_moments router x → all_moments router x)
      (w w' : World) (e : Event) (answer : Answer) (plain : IsOrdinary e) (h : Happens net w e answer w') (orderly : IsOrderly net known w)
      (recent : (datagram router iface now : ℕ) → e ≡ Deliver datagram router iface now → first ≤ datagram)
      (here_now : now_moments (router_of e) (moment_of e)) (near : (x : ℕ) → all_moments (router_of e) x → moment_of e < x + garbage_time) where
    pub held_on : AllHeldIn w → AllHeldIn w'
    unfolding kept took rests_later taken_rests
    held_on all router p r until at clock =
        let from = step_of net w w' e answer plain h router at.0 at.1 in
        elim (live_after net w e answer router from.0 at.0 from.2 p r until at.2 clock) [
          | inl was ↦ elim (all router p was.0 until (from.0, from.1, was.1) (sym was.2.clock ∙ clock)) [
            | inl x ↦ inl (kept net w w' e answer h now_moments new (λ x m. near x (more (router_of e) x m)) router from.0 at.0 from.2 p was.0 r until was.2 x)
            | inr x ↦ elim x [
              | inl y ↦ inr (inl (kept net w w' e answer h all_moments first near router from.0 at.0 from.2 p was.0 r until was.2 y.0, y.1))
              | inr y ↦ inr (inr y)
            ]
          ]
          | inr got ↦ elim (split got.0.datagram new) [
            | inl late ↦ inl (took net w w' e answer h now_moments new known orderly here_now router from.0 at.0 from.1 got.0 late p r until got.1)
            | inr early ↦ inr (inl (
              took net w w' e answer h all_moments first known orderly (more (router_of e) (moment_of e) here_now) router from.0 at.0 from.1 got.0 (recent got.0.datagram router got.0.iface got.0.now got.0.event) p r until got.1,
              early,
            ))
          ]
        ]
