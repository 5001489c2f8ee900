-- A timely history heals a network in 28 minutes, and its first part is timely, too.
use Rattle.std.proofs.Common.{◌≡◌, ℕ, ◌+◌, ◌-◌, ◌*◌, ◌/◌, ◌%◌, ◌<◌, ◌≤◌, List, [], ◌∷◌, ◌++◌, length, All, Contains, ap, sym, subst, ◌∙◌, arith, append_assoc, le_refl, le_trans}
use Rattle.ripng_world.specs.Convergence.{IsNeverQuiet}
use Rattle.ripng_world.specs.Healing.{AreHealed, FitsTablesSince, network_now}
use Rattle.ripng_world.specs.Network.{Network, IsNetwork}
use Rattle.ripng_world.specs.Packets.{PacketsArrive}
use Rattle.ripng_world.specs.World.{World, Event, IsCold, WorldRun, past_of}
use Rattle.ripng_world.proofs.Members.{at_from_contains, at_left}
use Rattle.ripng_world.proofs.PacketsAfter.{arrive_in_run}
use Rattle.ripng_phases.specs.Minutes.{Timed, AreFrom, IsPromptUpdate, IsPromptDelivery, IsTimely, untimed}
use Rattle.ripng_phases.specs.Phases.{Takes, IsCount, events_of, reached}
use Rattle.ripng_phases.proofs.Along.{contains_from}
use Rattle.ripng_phases.proofs.ByMinutes.{timely_minutes}
use Rattle.ripng_phases.proofs.Cutting.{AreNotBefore, untimed_on, from_all, in_early}
use Rattle.ripng_phases.proofs.Healing.{heals_in_phases}
use Rattle.ripng_phases.proofs.Runs.{run_on, takes_first, takes_rest, takes_reached, takes_run}
use Rattle.ripng_phases.proofs.Updating.{Grows, takes_grows, still_sent}

pub heals_in_minutes : (net : Network) (moments : List ℕ) (events : List Event) (history : List Timed) (start stop : ℕ) (cold w end : World)
    → IsNetwork net → IsNeverQuiet net → IsCold net moments cold → WorldRun net cold events w → FitsTablesSince (past_of net w)
    → IsTimely net w history start stop end → start + 28 * 60_000 ≤ stop → AreHealed (network_now (past_of net end)) end
heals_in_minutes net moments events history start stop cold w end is_net noisy is run fits timely late =
    let x = timely_minutes net w history start stop end timely ((stop - start) / 60_000) ((stop - start) % 60_000) (whole start stop late) (little (stop - start)) in
    heals_in_phases net moments events x.phases x.since cold w end is_net noisy is run fits x.are (subst (λ n. 28 ≤ n) (sym x.many) (many start stop late))
  where
    whole : (s e : ℕ) → s + 28 * 60_000 ≤ e → s + 60_000 * ((e - s) / 60_000) + (e - s) % 60_000 ≡ e
    whole s e f = omega arith

    little : (n : ℕ) → n % 60_000 ≤ 60_000
    little n = omega arith

    many : (s e : ℕ) → s + 28 * 60_000 ≤ e → 28 ≤ (e - s) / 60_000
    many s e f = omega arith

-- and packets arrive
pub arrive_in_minutes : (net : Network) (moments : List ℕ) (events : List Event) (history : List Timed) (start stop : ℕ) (cold w end : World)
    → IsNetwork net → IsNeverQuiet net → IsCold net moments cold → WorldRun net cold events w → FitsTablesSince (past_of net w)
    → IsTimely net w history start stop end → start + 28 * 60_000 ≤ stop → PacketsArrive (network_now (past_of net end)) end
arrive_in_minutes net moments events history start stop cold w end is_net noisy is run fits timely late =
    arrive_in_run net is_net moments (events ++ events_of (untimed history)) cold end is (run_on net events (events_of (untimed history)) cold w end run (takes_run net (untimed history) w end timely.takes))
    (heals_in_minutes net moments events history start stop cold w end is_net noisy is run fits timely late)

-- what is before a moment
module _ (net : Network) (w : World) (history before after : List Timed) (start until stop : ℕ) (end : World) (timely : IsTimely net w history start stop end) (parts : history ≡ before ++ after)
    (within : until ≤ stop) (soon : All (λ t. t.at < until) before) (far : AreFrom until after) where
  steps_parts : untimed history ≡ untimed before ++ untimed after
  steps_parts = ap untimed parts ∙ untimed_on before after

  takes : Takes net w (untimed before ++ untimed after) end
  takes = subst (λ xs. Takes net w xs end) steps_parts timely.takes

  not_before : AreNotBefore until after
  not_before = from_all until until after (le_refl until) far

  grown : Grows (reached w (untimed before)) (reached w (untimed history))
  grown =
      subst (Grows (reached w (untimed before))) (takes_reached net (untimed history) w end timely.takes)
      (takes_grows net (untimed after) (reached w (untimed before)) end (takes_rest net (untimed before) (untimed after) w end takes))

  from_first : (start : ℕ) (a b : List Timed) → AreFrom start (a ++ b) → AreFrom start a
  from_first start [] b is = tt
  from_first start (t ∷ a) b is = (is.0, from_first t.at a b is.1)

  count_on : (c : ℕ) → IsCount w (untimed before) c → IsCount w (untimed history) c
  count_on c x = record { before = x.before; after = x.after ++ untimed after; parts = steps_parts ∙ ap (λ xs. xs ++ untimed after) x.parts ∙ append_assoc x.before x.after (untimed after); count_is = x.count_is }

  in_history : (t : Timed) → Contains before t → Contains history t
  in_history t c =
      let a = at_from_contains before t c in
      subst (λ xs. Contains xs t) (sym parts) (contains_from (before ++ after) t (at_left before after t a))

  updates : (router from : ℕ) → router < length net → start ≤ from → from + 60_000 ≤ until → IsPromptUpdate net w before router from (from + 45_000)
  updates router from here begun fits = by (timely.updates router from here begun (le_trans fits within))
    where
      in_tick : (t f u : ℕ) → t < f + 45_000 → f + 60_000 ≤ u → t < u
      in_tick t f u a b = omega arith

      in_delivery : (d t f u : ℕ) → d < t + 15_000 → t < f + 45_000 → f + 60_000 ≤ u → d < u
      in_delivery d t f u a b c = omega arith

      by : IsPromptUpdate net w history router from (from + 45_000) → IsPromptUpdate net w before router from (from + 45_000)
      by p =
          let c = in_early before after p.before p.tick p.after (sym parts ∙ p.parts) until (in_tick p.tick.at from until p.in_time fits) not_before in
          record {
            before = p.before;
            tick = p.tick;
            after = c.0;
            parts = c.1;
            not_before = p.not_before;
            in_time = p.in_time;
            now = p.now;
            word = p.word;
            ticks = p.ticks;
            due = p.due;
            heard = λ datagram other iface d late is linked elsewhere.
                let k : IsPromptDelivery p.after (p.tick.at + 15_000) datagram other iface = p.heard datagram other iface d late is linked elsewhere in
                let x = in_early c.0 after k.before k.delivery k.after (sym c.2 ∙ k.parts) until (in_delivery k.delivery.at p.tick.at from until k.prompt p.in_time fits) not_before in
                record { before = k.before; delivery = k.delivery; after = x.0; parts = x.1; moment = k.moment; event = k.event; prompt = k.prompt };
          }

  pub timely_until : IsTimely net w before start until (reached w (untimed before))
  timely_until =
      record {
        takes = takes_first net (untimed before) (untimed after) w end takes;
        in_time = from_first start before after (subst (AreFrom start) parts timely.in_time);
        ended = soon;
        updates = updates;
        recent = λ b t a is far_on. timely.recent b t (a ++ after) (parts ∙ ap (λ xs. xs ++ after) is ∙ append_assoc b (t ∷ a) after) far_on;
        in_order = λ o. timely.in_order (record {
          before = o.before;
          later = o.later;
          between = o.between;
          earlier = o.earlier;
          after = o.after ++ untimed after;
          parts = steps_parts ∙ ap (λ xs. xs ++ untimed after) o.parts ∙ append_assoc (o.before ++ o.later ∷ o.between) (o.earlier ∷ o.after) (untimed after);
          new = o.new;
          old = o.old;
          router = o.router;
          iface = o.iface;
          now = o.now;
          moment = o.moment;
          first = o.first;
          second = o.second;
          new_sent = o.new_sent;
          old_sent = o.old_sent;
          new_is = still_sent (reached w (untimed before)) (reached w (untimed history)) grown o.new o.new_sent o.new_is;
          old_is = still_sent (reached w (untimed before)) (reached w (untimed history)) grown o.old o.old_sent o.old_is;
          same_router = o.same_router;
          same_iface = o.same_iface;
          count = o.count;
          counted = count_on o.count o.counted;
          old_before = o.old_before;
          new_after = o.new_after;
        });
        clocks = λ s t s_in t_in same le. timely.clocks s t (in_history s s_in) (in_history t t_in) same le;
      }
