-- Daemons forget old news: what they did is a history of the model in which nothing is old.
use Rattle.std.proofs.Common.{◌≡◌, ℕ, ◌+◌, ◌-◌, ◌*◌, ◌<◌, ◌≤◌, ◌==◌, Bool, true, false, cond, nat_lt, List, [], ◌∷◌, ◌++◌, length, All, Contains, Option, Some, None, option_map, option_and_then, slice_get, refl, ap, ap₂, sym, subst, ◌∙◌, append_assoc, append-nil, arith, length-append, le_refl}
use Rattle.std.specs.List.{AllByRecursion, cons_option}
use Rattle.std.specs.FinMap as map_of
use Rattle.std.proofs.lemmas.Bool.{eqb-true, ltb-true}
use Rattle.std.proofs.lemmas.List.Elements.{All-from_recursion, filter_map-append, recursion_from_All}
use Rattle.prefix6.specs.Prefix.{Prefix6}
use Rattle.fib.specs.Forwarding.{Forward}
use Rattle.route_table.specs.Route.{RouteValue, infinity}
use Rattle.route_table.proofs.TableLaws.{Some-same, None-Some, get-map_values}
use Rattle.router_core.specs.Changes.{forward, forwards, hop_of}
use Rattle.router_core.specs.Config.{Config}
use Rattle.router_core.specs.Machine.{State}
use Rattle.router_core.specs.declared.reconfiguring.Change.{Change}
use Rattle.ripng_world.specs.declared.event.Sent.{Sent}
use Rattle.ripng_world.specs.Healing.{network_now}
use Rattle.ripng_world.specs.Network.{Network, Node, IsNetwork, config_of}
use Rattle.ripng_world.specs.Past.{IsBackedSince}
use Rattle.ripng_world.specs.Rounds.{moment_of, router_of}
use Rattle.ripng_world.specs.World as world
use Rattle.ripng_world.specs.World.{World}
use Rattle.ripng_world.proofs.Members.{At, at_right}
use Rattle.ripng_phases.specs.Ages as phases
use Rattle.ripng_phases.specs.Minutes.{Timed, AreFrom, untimed}
use Rattle.ripng_phases.specs.Phases.{Step, events_of, reached}
use Rattle.ripng_phases.proofs.Ages.{by_metric}
use Rattle.ripng_phases.proofs.Along.{contains_from}
use Rattle.ripng_phases.proofs.Births.{lead_here}
use Rattle.ripng_phases.proofs.Leading.{lead_run}
use Rattle.ripng_phases.proofs.Runs.{run_on}
use Rattle.ripng_phases.proofs.Sliding.{awake_from, recent_from}
use Rattle.ripng_world.proofs.WorldRuns.{done_from}
use Rattle.ripngd_engine.specs.Run.{Machine, Trace}
use Rattle.ripngd_theorems.specs.Ages.{GoOnAnyhow, IsAwake, IsLook, IsStart, StaysUp, past_since}
use Rattle.ripngd_theorems.specs.Daemons.{Act, Start, Listen, Tick, Reconfigure, Shutdown, LinkDown, LinkUp, Ask, Refuse, Deed, Happened, Does, Lives, own_deeds, reconfiguration_by, reconfigurations_by}
use Rattle.ripngd_theorems.specs.Links.{HaveRun, all_handed}
use Rattle.ripngd_theorems.specs.OnTime.{Dated, HappenFrom, undated}
use Rattle.ripngd_theorems.proofs.Deeds.{IsEventOf, IsStateOf}
use Rattle.ripngd_theorems.proofs.Events.{gift_of}
use Rattle.ripngd_theorems.proofs.Following.{Follows, IfUp, life_follows}
use Rattle.ripngd_theorems.proofs.Pairs.{all_timed, ArePairs, Paired, agrees_here, all_handed_on, dated_of, dated_on, deeds_of, filter_on, happen_on, history_of, old_deeds, point, split_filter, timed, timed_when}
use Rattle.ripngd_theorems.proofs.Places.{happen_first, located, timed_is, timed_split}
use Rattle.ripngd_theorems.proofs.Running.{IsSimulated, agrees_end, simulated_from_cold, there_is}
use Rattle.ripngd_theorems.proofs.Simulating.{IsEventThen, IsFaithful, IsFaithfulPairing, changes_of, event_then, faithful_pairing, lead_all, lives_ticking}
use Rattle.ripngd_theorems.proofs.Truth.{follows}

-- ---- a daemon that is not up does not do anything but start

start_only : (config : Config) (act : Act) (t : Trace) (n : Machine) → (IsStart act → ⊥) → Does config None act t n → ⊥
start_only config Start t n never did = never tt
start_only config (Listen call) t n never did = did
start_only config Tick t n never did = did
start_only config (Reconfigure c) t n never did = did
start_only config Shutdown t n never did = did
start_only config (LinkDown on) t n never did = did
start_only config (LinkUp on) t n never did = did
start_only config (Ask on) t n never did = did
start_only config Refuse t n never did = did

stays_down : (config : Config) (deeds : List Deed) (after : Option Machine) → AllByRecursion (λ (d : Deed). IsStart d.act → ⊥) deeds → Lives config None deeds after → after ≡ None
stays_down config [] after never lives = lives
stays_down config (d ∷ deeds) after never lives = absurd (start_only config d.act d.trace lives.0 never.0 lives.1)

own_none : (router : ℕ) (history : List Dated) → AllByRecursion (λ (t : Dated). t.happened.router ≡ router → IsStart t.happened.deed.act → ⊥) history
    → AllByRecursion (λ (d : Deed). IsStart d.act → ⊥) (own_deeds router (undated history))
own_none router [] all = tt
own_none router (t ∷ history) all = by (t.happened.router == router) refl (own_none router history all.1)
  where
    by : (b : Bool) → (t.happened.router == router) ≡ b → AllByRecursion (λ (d : Deed). IsStart d.act → ⊥) (own_deeds router (undated history))
        → AllByRecursion (λ (d : Deed). IsStart d.act → ⊥) (cons_option (cond b (Some t.happened.deed) None) (own_deeds router (undated history)))
    by true same rest = (all.0 (eqb-true t.happened.router router same), rest)
    by false other rest = rest

-- ---- a router that stays up in the model has a daemon that does

stays_up : (count router : ℕ) (ps : List Paired) → AllByRecursion (IsFaithful count) ps → AllByRecursion (λ (t : Timed). phases.StartsAnew router t.step.event → ⊥) (history_of ps) → StaysUp router (dated_of ps)
stays_up count router [] all up = tt
stays_up count router (p ∷ ps) all up = by p.step refl up (λ u. stays_up count router ps all.1 u)
  where
    start_looks : (act : Act) → IsStart act → IsLook act
    start_looks Start start = tt
    start_looks (Listen call) start = absurd start
    start_looks Tick start = absurd start
    start_looks (Reconfigure c) start = absurd start
    start_looks Shutdown start = absurd start
    start_looks (LinkDown on) start = absurd start
    start_looks (LinkUp on) start = absurd start
    start_looks (Ask on) start = absurd start
    start_looks Refuse start = absurd start

    by : (o : Option Step) → p.step ≡ o → AllByRecursion (λ (t : Timed). phases.StartsAnew router t.step.event → ⊥) (cons_option (option_map (timed_when p.dated.at) o) (history_of ps))
        → (AllByRecursion (λ (t : Timed). phases.StartsAnew router t.step.event → ⊥) (history_of ps) → StaysUp router (dated_of ps)) → StaysUp router (p.dated ∷ dated_of ps)
    by None is u later = (λ same start. (all.0.idle is).0 (start_looks p.dated.happened.deed.act start), later u)
    by (Some s) is u later = (
      λ same start.
          u.0 (subst (λ r. phases.StartsAnew r s.event) same
          ((event_then count p.dated.happened.router p.dated.happened.deed.act p.dated.number p.dated.happened.deed.trace s.event s.answer (all.0.event s is)).starts start)),
      later u.1,
    )

first_of : {X : Type 0} (P : X → Type 0) (xs ys : List X) → AllByRecursion P (xs ++ ys) → AllByRecursion P xs
first_of P [] ys all = tt
first_of P (x ∷ xs) ys all = (all.0, first_of P xs ys all.1)

rest_of : {X : Type 0} (P : X → Type 0) (xs ys : List X) → AllByRecursion P (xs ++ ys) → AllByRecursion P ys
rest_of P [] ys all = all
rest_of P (x ∷ xs) ys all = rest_of P xs ys all.1

-- deeds in two parts
record IsSplitAt (ps : List Paired) (early late : List Dated) : Type 0 where
  before : List Paired
  after : List Paired
  parts : ps ≡ before ++ after
  before_is : dated_of before ≡ early
  after_is : dated_of after ≡ late

split_dated : (ps : List Paired) (early late : List Dated) → dated_of ps ≡ early ++ late → IsSplitAt ps early late
split_dated ps [] late e = record { before = []; after = ps; parts = refl; before_is = refl; after_is = e }
split_dated [] (t ∷ early) late e = absurd (cc)
split_dated (p ∷ ps) (t ∷ early) late e =
    let r = split_dated ps early late (rest e) in
    record { before = p ∷ r.before; after = r.after; parts = ap (λ l. p ∷ l) r.parts; before_is = ap (λ ts. p.dated ∷ ts) r.before_is ∙ ap (λ d. d ∷ early) (head e); after_is = r.after_is }
  where
    head : p.dated ∷ dated_of ps ≡ t ∷ (early ++ late) → p.dated ≡ t
    head e = cc

    rest : p.dated ∷ dated_of ps ≡ t ∷ (early ++ late) → dated_of ps ≡ early ++ late
    rest e = cc

module _ (net : Network) (before : List Happened) (daemons : ℕ → Option Machine) (history : List Dated) (start : ℕ) (daemons' : ℕ → Option Machine) (is_net : IsNetwork net)
    (ran : HaveRun net before daemons) (go : GoOnAnyhow net before daemons history start daemons') where
  simulation : IsSimulated net before daemons
  simulation = simulated_from_cold net before daemons ran

  abbrev w : World
  w = simulation.after

  abbrev first : List Sent
  first = simulation.cold.sent

  whole : IsFaithfulPairing net simulation.cold.sent daemons' history daemons (all_handed before) (reconfigurations_by before) simulation.after
  whole =
      faithful_pairing net simulation.cold.sent daemons' history daemons (all_handed before) (reconfigurations_by before) simulation.after simulation.agrees go.known go.lives go.given

  abbrev all : List Paired
  all = whole.pairing.pairs

  -- ---- where a step stands

  record IsThere (ps : List Paired) (b : List Timed) (t : Timed) (a : List Timed) : Type 0 where
    xs : List Paired
    p : Paired
    ys : List Paired
    parts : ps ≡ xs ++ p ∷ ys
    before_is : history_of xs ≡ b
    after_is : history_of ys ≡ a
    step_is : p.step ≡ Some t.step
    at_is : p.dated.at ≡ t.at
    event : IsEventOf (length simulation.cold.sent) p.dated.happened.router p.dated.happened.deed.act p.dated.number p.dated.happened.deed.trace t.step.event t.step.answer
    then : IsEventThen p.dated.happened.router p.dated.happened.deed.act p.dated.happened.deed.trace t.step.event

  there_in : (ps : List Paired) → AllByRecursion (IsFaithful (length simulation.cold.sent)) ps → (b : List Timed) (t : Timed) (a : List Timed) → history_of ps ≡ b ++ t ∷ a → IsThere ps b t a
  there_in ps faithful b t a is =
      let q = split_filter Paired Timed timed ps b t a is in
      let ti = timed_is q.here t q.here_is in
      let f : IsFaithful (length simulation.cold.sent) q.here = (rest_of (IsFaithful (length simulation.cold.sent)) q.before (q.here ∷ q.after) (subst (AllByRecursion (IsFaithful (length simulation.cold.sent))) q.parts faithful)).0 in
      let e = f.event t.step ti.0 in
      record {
        xs = q.before;
        p = q.here;
        ys = q.after;
        parts = q.parts;
        before_is = q.before_is;
        after_is = q.after_is;
        step_is = ti.0;
        at_is = ti.1;
        event = e;
        then = event_then (length simulation.cold.sent) q.here.dated.happened.router q.here.dated.happened.deed.act q.here.dated.number q.here.dated.happened.deed.trace t.step.event t.step.answer e;
      }

  dated_parts : (xs : List Paired) (p : Paired) (ys : List Paired) → whole.pairing.pairs ≡ xs ++ p ∷ ys → history ≡ dated_of xs ++ p.dated ∷ dated_of ys
  dated_parts xs p ys parts = sym whole.pairing.dated_are ∙ ap dated_of parts ∙ dated_on xs (p ∷ ys)

  -- the moment of a step is one of its deed
  moment_there : (ps : List Paired) (b : List Timed) (t : Timed) (a : List Timed) (k : IsThere ps b t a) → Contains k.p.dated.happened.deed.trace.moments (moment_of t.step.event)
  moment_there ps b t a k =
      contains_from k.p.dated.happened.deed.trace.moments (moment_of t.step.event) (subst (λ ns. At ns (moment_of t.step.event)) (sym k.then.moment) (0, refl))

  -- ---- nothing old comes

  count_then : (xs ys : List Paired) → whole.pairing.pairs ≡ xs ++ ys
      → length (reached simulation.after (untimed (history_of xs))).sent ≡ length simulation.cold.sent + length (all_handed (before ++ deeds_of xs))
  count_then xs ys parts =
      let x = point net first daemons' xs ys daemons (all_handed before) (reconfigurations_by before) w (subst (ArePairs net first daemons' daemons (all_handed before) (reconfigurations_by before) w) parts whole.pairing.are) in
      ap length ((agrees_here net first daemons' x.now (all_handed before ++ all_handed (deeds_of xs)) x.changed (reached w (untimed (history_of xs))) ys x.are).sent
      ∙ ap (λ ds. first ++ ds) (sym (all_handed_on before (deeds_of xs))))
      ∙ length-append first (all_handed (before ++ deeds_of xs))

  recent : (b : List Timed) (t : Timed) (a : List Timed) → history_of whole.pairing.pairs ≡ b ++ t ∷ a → start + 15_000 ≤ t.at
      → (datagram router iface now : ℕ) → t.step.event ≡ world.Deliver datagram router iface now
      → (old new : List Timed) → b ≡ old ++ new → All (λ s. s.at + 15_000 ≤ t.at) old → length (reached simulation.after (untimed old)).sent ≤ datagram
  recent b t a is far datagram router iface now event old new split long_ago = by (there_in all whole.faithful b t a is)
    where
      enough : (n c l p d : ℕ) → n ≡ c + l → d ≡ c + p → l ≤ p → n ≤ d
      enough n c l p d e f g = omega arith

      by : IsThere whole.pairing.pairs b t a → length (reached simulation.after (untimed old)).sent ≤ datagram
      by k =
          let h = k.p.dated.happened in
          let g = gift_of (length first) h.router h.deed.act k.p.dated.number h.deed.trace t.step.event t.step.answer datagram router iface now k.event event in
          let parts = dated_parts k.xs k.p k.ys k.parts in
          let o = old_deeds 15_000 t.at start k.xs old new (k.before_is ∙ split) (happen_first start (dated_of k.xs) (k.p.dated ∷ dated_of k.ys) (subst (HappenFrom start) parts go.in_time))
          (recursion_from_All (λ (s : Timed). s.at + 15_000 ≤ t.at) old long_ago) in
          let le = go.recent (dated_of o.before) (dated_of o.after) k.p.dated (dated_of k.ys)
          (parts ∙ ap (λ ts. ts ++ k.p.dated ∷ dated_of k.ys) (ap dated_of o.parts ∙ dated_on o.before o.after))
          (subst (λ n. start + 15_000 ≤ n) (sym k.at_is) far)
          (subst (λ n. AllByRecursion (λ (s : Dated). s.at + 15_000 ≤ n) (dated_of o.before)) (sym k.at_is) o.old_are) g.place g.number_is in
          let cut : all ≡ o.before ++ (o.after ++ k.p ∷ k.ys) = k.parts ∙ ap (λ zs. zs ++ k.p ∷ k.ys) o.parts ∙ append_assoc o.before o.after (k.p ∷ k.ys) in
          let count = ap (λ bs. length (reached w (untimed bs)).sent) (sym o.before_is) ∙ count_then o.before (o.after ++ k.p ∷ k.ys) cut in
          enough (length (reached w (untimed old)).sent) (length first) (length (all_handed (before ++ deeds_of o.before))) g.place datagram count g.datagram_is le

  -- ---- routers are awake

  awake_then : (xs ys : List Paired) → whole.pairing.pairs ≡ xs ++ ys → (router now : ℕ) → IsAwake (dated_of xs) router now → phases.IsAwake (history_of xs) router now
  awake_then xs ys parts router now k =
      let l = located xs k.look k.stands in
      let f : IsFaithful (length first) l.here =
      (rest_of (IsFaithful (length first)) l.before (l.here ∷ l.after) (subst (AllByRecursion (IsFaithful (length first))) l.parts
      (first_of (IsFaithful (length first)) xs ys (subst (AllByRecursion (IsFaithful (length first))) parts whole.faithful)))).0 in
      by l.before l.here l.after l.parts l.dated_is f l.here.step refl
    where
      by : (a : List Paired) (p : Paired) (b : List Paired) → xs ≡ a ++ p ∷ b → p.dated ≡ k.look → IsFaithful (length simulation.cold.sent) p → (o : Option Step) → p.step ≡ o → phases.IsAwake (history_of xs) router now
      by a p b split same f None is = absurd ((f.idle is).0 (subst (λ (d : Dated). IsLook d.happened.deed.act) (sym same) k.looks))
      by a p b split same f (Some s) is =
          let e = event_then (length simulation.cold.sent) p.dated.happened.router p.dated.happened.deed.act p.dated.number p.dated.happened.deed.trace s.event s.answer (f.event s is) in
          record {
            look = timed_when p.dated.at s;
            stands = contains_from (history_of xs) (timed_when p.dated.at s)
                (subst (λ ts. At ts (timed_when p.dated.at s)) (sym (timed_split xs a p b split s is)) (at_right (history_of a) (timed_when p.dated.at s ∷ history_of b) (timed_when p.dated.at s) (0, refl)));
            router_is = e.router_is ∙ subst (λ (d : Dated). d.happened.router ≡ router) (sym same) k.router_is;
            looks = e.looks (subst (λ (d : Dated). IsLook d.happened.deed.act) (sym same) k.looks);
            late = subst (λ (d : Dated). now ≤ d.at + 1_000) (sym same) k.late;
          }

  awake : (b : List Timed) (t : Timed) (a : List Timed) → history_of whole.pairing.pairs ≡ b ++ t ∷ a → start + 1_000 ≤ t.at → phases.IsAwake (b ++ t ∷ []) (router_of t.step.event) t.at
  awake b t a is far = by (there_in all whole.faithful b t a is)
    where
      by : IsThere whole.pairing.pairs b t a → phases.IsAwake (b ++ t ∷ []) (router_of t.step.event) t.at
      by k =
          let d = go.awake (dated_of k.xs) k.p.dated (dated_of k.ys) (dated_parts k.xs k.p k.ys k.parts) (subst (λ n. start + 1_000 ≤ n) (sym k.at_is) far) in
          let m = awake_then (k.xs ++ k.p ∷ []) k.ys (k.parts ∙ sym (append_assoc k.xs (k.p ∷ []) k.ys)) k.p.dated.happened.router k.p.dated.at
          (subst (λ ts. IsAwake ts k.p.dated.happened.router k.p.dated.at) (sym (dated_on k.xs (k.p ∷ []))) d) in
          subst (λ ts. phases.IsAwake ts (router_of t.step.event) t.at)
          (filter_on Paired Timed timed k.xs (k.p ∷ []) ∙ ap₂ (λ (x : List Timed) (o : Option Step). x ++ cons_option (option_map (timed_when k.p.dated.at) o) []) k.before_is k.step_is ∙ ap (λ n. b ++ timed_when n t.step ∷ []) k.at_is)
          (subst (λ n. phases.IsAwake (history_of (k.xs ++ k.p ∷ [])) (router_of t.step.event) n) k.at_is
          (subst (λ r. phases.IsAwake (history_of (k.xs ++ k.p ∷ [])) r k.p.dated.at) (sym k.then.router_is) m))

  -- ---- clocks go on

  clocks : (a : List Timed) (s : Timed) (b : List Timed) (t : Timed) (c : List Timed) → history_of whole.pairing.pairs ≡ a ++ s ∷ (b ++ t ∷ c)
      → router_of s.step.event ≡ router_of t.step.event → phases.StaysUp (router_of t.step.event) (b ++ t ∷ [])
      → moment_of s.step.event + (t.at - s.at) ≤ moment_of t.step.event + 1_000
  clocks a s b t c is same up = by (there_in all whole.faithful a s (b ++ t ∷ c) is)
    where
      by_both : (k : IsThere whole.pairing.pairs a s (b ++ t ∷ c)) → AllByRecursion (IsFaithful (length simulation.cold.sent)) k.ys → IsThere k.ys b t c → moment_of s.step.event + (t.at - s.at) ≤ moment_of t.step.event + 1_000
      by_both k faithful l =
          let parts : history ≡ dated_of k.xs ++ k.p.dated ∷ (dated_of l.xs ++ l.p.dated ∷ dated_of l.ys) =
          dated_parts k.xs k.p k.ys k.parts ∙ ap (λ ts. dated_of k.xs ++ k.p.dated ∷ ts) (ap dated_of l.parts ∙ dated_on l.xs (l.p ∷ l.ys)) in
          let stays : StaysUp l.p.dated.happened.router (dated_of (l.xs ++ l.p ∷ [])) =
          stays_up (length first) l.p.dated.happened.router (l.xs ++ l.p ∷ [])
          (first_of (IsFaithful (length first)) (l.xs ++ l.p ∷ []) l.ys (subst (AllByRecursion (IsFaithful (length first))) (l.parts ∙ sym (append_assoc l.xs (l.p ∷ []) l.ys)) faithful))
          (subst (λ r. AllByRecursion (λ (x : Timed). phases.StartsAnew r x.step.event → ⊥) (history_of (l.xs ++ l.p ∷ []))) l.then.router_is
          (subst (AllByRecursion (λ (x : Timed). phases.StartsAnew (router_of t.step.event) x.step.event → ⊥))
          (sym (filter_on Paired Timed timed l.xs (l.p ∷ []) ∙ ap₂ (λ (x : List Timed) (o : Option Step). x ++ cons_option (option_map (timed_when l.p.dated.at) o) []) l.before_is l.step_is ∙ ap (λ n. b ++ timed_when n t.step ∷ []) l.at_is))
          (recursion_from_All (λ (x : Timed). phases.StartsAnew (router_of t.step.event) x.step.event → ⊥) (b ++ t ∷ []) up))) in
          let d = go.clocks (dated_of k.xs) k.p.dated (dated_of l.xs) l.p.dated (dated_of l.ys) parts (sym k.then.router_is ∙ same ∙ l.then.router_is)
          (subst (StaysUp l.p.dated.happened.router) (dated_on l.xs (l.p ∷ [])) stays)
          (moment_of s.step.event) (moment_of t.step.event) (moment_there all a s (b ++ t ∷ c) k) (moment_there k.ys b t c l) in
          subst (λ n. moment_of s.step.event + (n - s.at) ≤ moment_of t.step.event + 1_000) l.at_is
          (subst (λ n. moment_of s.step.event + (l.p.dated.at - n) ≤ moment_of t.step.event + 1_000) k.at_is d)

      by : IsThere whole.pairing.pairs a s (b ++ t ∷ c) → moment_of s.step.event + (t.at - s.at) ≤ moment_of t.step.event + 1_000
      by k =
          let faithful : AllByRecursion (IsFaithful (length first)) k.ys = (rest_of (IsFaithful (length first)) k.xs (k.p ∷ k.ys) (subst (AllByRecursion (IsFaithful (length first))) k.parts whole.faithful)).1 in
          by_both k faithful (there_in k.ys faithful b t c k.after_is)

  since : (b : List Timed) (t : Timed) (c : List Timed) → history_of whole.pairing.pairs ≡ b ++ t ∷ c → phases.StaysUp (router_of t.step.event) (b ++ t ∷ [])
      → (s : State) → slice_get simulation.after.states (router_of t.step.event) ≡ Some s → s.last + (t.at - start) ≤ moment_of t.step.event + 1_000
  since b t c is up s at = by (there_in all whole.faithful b t c is)
    where
      by : IsThere whole.pairing.pairs b t c → s.last + (t.at - start) ≤ moment_of t.step.event + 1_000
      by k =
          let r : ℕ = k.p.dated.happened.router in
          let x = point net first daemons' k.xs (k.p ∷ k.ys) daemons (all_handed before) (reconfigurations_by before) w (subst (ArePairs net first daemons' daemons (all_handed before) (reconfigurations_by before) w) k.parts whole.pairing.are) in
          let pair = x.are.0 in
          let stays : StaysUp r (dated_of (k.xs ++ k.p ∷ [])) =
          stays_up (length first) r (k.xs ++ k.p ∷ [])
          (first_of (IsFaithful (length first)) (k.xs ++ k.p ∷ []) k.ys (subst (AllByRecursion (IsFaithful (length first))) (k.parts ∙ sym (append_assoc k.xs (k.p ∷ []) k.ys)) whole.faithful))
          (subst (λ q. AllByRecursion (λ (y : Timed). phases.StartsAnew q y.step.event → ⊥) (history_of (k.xs ++ k.p ∷ []))) k.then.router_is
          (subst (AllByRecursion (λ (y : Timed). phases.StartsAnew (router_of t.step.event) y.step.event → ⊥))
          (sym (filter_on Paired Timed timed k.xs (k.p ∷ []) ∙ ap₂ (λ (y : List Timed) (o : Option Step). y ++ cons_option (option_map (timed_when k.p.dated.at) o) []) k.before_is k.step_is ∙ ap (λ n. b ++ timed_when n t.step ∷ []) k.at_is))
          (recursion_from_All (λ (y : Timed). phases.StartsAnew (router_of t.step.event) y.step.event → ⊥) (b ++ t ∷ []) up))) in
          let both : StaysUp r (dated_of k.xs ++ k.p.dated ∷ []) = subst (StaysUp r) (dated_on k.xs (k.p ∷ [])) stays in
          let h = simulation.agrees.states r pair.node pair.node_is in
          let same : h.state ≡ s = Some-same h.state s (sym h.state_is ∙ ap (slice_get w.states) (sym k.then.router_is) ∙ at) in
          of_daemon k pair.node both (x.lives r pair.node pair.node_is) (λ down. start_only (config_of pair.node) k.p.dated.happened.deed.act k.p.dated.happened.deed.trace pair.after
          ((rest_of (λ (y : Dated). y.happened.router ≡ r → IsStart y.happened.deed.act → ⊥) (dated_of k.xs) (k.p.dated ∷ []) both).0 refl)
          (subst (λ o. Does (config_of pair.node) o k.p.dated.happened.deed.act k.p.dated.happened.deed.trace pair.after) down pair.does)) (subst (IsStateOf (daemons r)) same h.agrees) (daemons r) refl
        where
          of_daemon : (k : IsThere whole.pairing.pairs b t c) (node : Node) → StaysUp k.p.dated.happened.router (dated_of k.xs ++ k.p.dated ∷ [])
              → {now : Option Machine} → Lives (config_of node) (daemons k.p.dated.happened.router) (own_deeds k.p.dated.happened.router (deeds_of k.xs)) now → (now ≡ None → ⊥)
              → IsStateOf (daemons k.p.dated.happened.router) s → (o : Option Machine) → daemons k.p.dated.happened.router ≡ o → s.last + (t.at - start) ≤ moment_of t.step.event + 1_000
          of_daemon k node both {now} lives up agrees None none =
              absurd (up (stays_down (config_of node) (own_deeds k.p.dated.happened.router (deeds_of k.xs)) now
              (own_none k.p.dated.happened.router (dated_of k.xs) (first_of (λ (y : Dated). y.happened.router ≡ k.p.dated.happened.router → IsStart y.happened.deed.act → ⊥) (dated_of k.xs) (k.p.dated ∷ []) both))
              (subst (λ o. Lives (config_of node) o (own_deeds k.p.dated.happened.router (deeds_of k.xs)) now) none lives)))
          of_daemon k node both lives up agrees (Some m) some =
              let state : s ≡ m.router = subst (λ o. IsStateOf o s) some agrees in
              let d = go.since (dated_of k.xs) k.p.dated (dated_of k.ys) (dated_parts k.xs k.p k.ys k.parts) both m some (moment_of t.step.event) (moment_there all b t c k) in
              subst (λ (x : State). x.last + (t.at - start) ≤ moment_of t.step.event + 1_000) (sym state) (subst (λ n. m.router.last + (n - start) ≤ moment_of t.step.event + 1_000) k.at_is d)

  -- ---- so it is a recent history

  abbrev w' : World
  w' = reached simulation.after (untimed (history_of whole.pairing.pairs))

  is_recent : phases.IsRecent net simulation.after (history_of whole.pairing.pairs) start (reached simulation.after (untimed (history_of whole.pairing.pairs)))
  is_recent =
      record {
        steps = lead_all net first daemons' all daemons (all_handed before) (reconfigurations_by before) w whole.pairing.are;
        in_time = happen_on all start start (le_refl start) (subst (HappenFrom start) (sym whole.pairing.dated_are) go.in_time);
        recent = recent;
        awake = awake;
        clocks = clocks;
        since = since;
      }

  past_is : phases.past_from net simulation.after (history_of whole.pairing.pairs) ≡ past_since net before history
  past_is =
      ap₂ (λ (ds cs : List (ℕ × Change)). record { net = network_now (record { net = net; reconfigurations = ds }); reconfigurations = cs }) simulation.agrees.reconfigurations
      (changes_of (length first) all whole.faithful ∙ ap (λ ts. reconfigurations_by (undated ts)) whole.pairing.dated_are)

  -- each daemon is as its router in the world
  state_then : (router : ℕ) (m : Machine) → router < length net → daemons' router ≡ Some m
      → slice_get (reached simulation.after (untimed (history_of whole.pairing.pairs))).states router ≡ Some m.router
  state_then router m low up =
      let x = point net first daemons' all [] daemons (all_handed before) (reconfigurations_by before) w
      (subst (ArePairs net first daemons' daemons (all_handed before) (reconfigurations_by before) w) (sym (append-nil all)) whole.pairing.are) in
      let agrees = agrees_end net first x.now daemons' (all_handed before ++ all_handed (deeds_of all)) x.changed w' x.are.0 x.are.1 in
      let node = there_is net router low in
      let h = agrees.states router node.0 node.1 in
      h.state_is ∙ ap Some (subst (λ o. IsStateOf o h.state) up h.agrees)

  pub daemon_by_metric : (stop router : ℕ) (m : Machine) (p : Prefix6) (r : RouteValue) → router < length net → daemons' router ≡ Some m → IsAwake history router stop
      → map_of.get m.router.table p ≡ Some r → r.metric < infinity → start + (r.metric - 1) * 197_000 ≤ stop → IsBackedSince (past_since net before history) router p r
  daemon_by_metric stop router m p r low up awake at below late =
      let k = awake_then all [] (sym (append-nil all)) router stop (subst (λ ts. IsAwake ts router stop) (sym whole.pairing.dated_are) awake) in
      subst (λ past. IsBackedSince past router p r) past_is
      (by_metric net is_net simulation.moments simulation.events simulation.cold simulation.after simulation.is_cold simulation.run (history_of all) start w' is_recent stop router m.router p r
      (state_then router m low up) (λ some. k) at below late)

  -- ---- since a later moment

  module _ (early late : List Dated) (from : ℕ) (parts : history ≡ early ++ late) (begun : start ≤ from) (soon : AllByRecursion (λ t. t.at < from) early) (after : HappenFrom from late) where
    halves : IsSplitAt whole.pairing.pairs early late
    halves = split_dated whole.pairing.pairs early late (whole.pairing.dated_are ∙ parts)

    both : history_of whole.pairing.pairs ≡ history_of halves.before ++ history_of halves.after
    both = ap history_of halves.parts ∙ filter_on Paired Timed timed halves.before halves.after

    recent_both : phases.IsRecent net simulation.after (history_of halves.before ++ history_of halves.after) start (reached simulation.after (untimed (history_of whole.pairing.pairs)))
    recent_both = subst (λ ts. phases.IsRecent net w ts start w') both is_recent

    abbrev mid : World
    mid = reached simulation.after (untimed (history_of halves.before))

    lead_mid : phases.Lead net simulation.after (untimed (history_of halves.before)) (reached simulation.after (untimed (history_of halves.before)))
    lead_mid =
        lead_here net is_net simulation.moments simulation.events simulation.cold simulation.after simulation.is_cold simulation.run (history_of halves.before ++ history_of halves.after) start w' recent_both
        (history_of halves.before) (history_of halves.after) refl

    early_steps : All (λ t. t.at < from) (history_of halves.before)
    early_steps =
        All-from_recursion (λ (t : Timed). t.at < from) (history_of halves.before) (all_timed (λ n. n < from) halves.before (subst (AllByRecursion (λ (t : Dated). t.at < from)) (sym halves.before_is) soon))

    late_steps : AreFrom from (history_of halves.after)
    late_steps = happen_on halves.after from from (le_refl from) (subst (HappenFrom from) (sym halves.after_is) after)

    recent_late : phases.IsRecent net (reached simulation.after (untimed (history_of halves.before))) (history_of halves.after) from (reached simulation.after (untimed (history_of whole.pairing.pairs)))
    recent_late =
        recent_from net is_net simulation.moments simulation.events simulation.cold simulation.after simulation.is_cold simulation.run (history_of halves.before) (history_of halves.after) start w' recent_both
        from begun early_steps late_steps

    faithful_halves : AllByRecursion (IsFaithful (length simulation.cold.sent)) (halves.before ++ halves.after)
    faithful_halves = subst (AllByRecursion (IsFaithful (length first))) halves.parts whole.faithful

    changes_mid : (reached simulation.after (untimed (history_of halves.before))).reconfigurations ≡ reconfigurations_by (before ++ undated early)
    changes_mid =
        done_from net (events_of (untimed (history_of halves.before))) w mid (lead_run net (untimed (history_of halves.before)) w mid lead_mid)
        ∙ ap₂ (λ (cs ds : List (ℕ × Change)). cs ++ ds) simulation.agrees.reconfigurations
        (changes_of (length first) halves.before (first_of (IsFaithful (length first)) halves.before halves.after faithful_halves) ∙ ap (λ ts. reconfigurations_by (undated ts)) halves.before_is)
        ∙ sym (filter_map-append reconfiguration_by before (undated early))

    past_late : phases.past_from net (reached simulation.after (untimed (history_of halves.before))) (history_of halves.after) ≡ past_since net (before ++ undated early) late
    past_late =
        ap₂ (λ (ds cs : List (ℕ × Change)). record { net = network_now (record { net = net; reconfigurations = ds }); reconfigurations = cs }) changes_mid
        (changes_of (length first) halves.after (rest_of (IsFaithful (length first)) halves.before halves.after faithful_halves) ∙ ap (λ ts. reconfigurations_by (undated ts)) halves.after_is)

    pub daemon_by_age : (stop router : ℕ) (m : Machine) (p : Prefix6) (r : RouteValue) → router < length net → daemons' router ≡ Some m → IsAwake history router stop
        → map_of.get m.router.table p ≡ Some r → r.metric < infinity → from + (r.metric - 1) * 197_000 ≤ stop → IsBackedSince (past_since net (before ++ undated early) late) router p r
    daemon_by_age stop router m p r low up awake at below long =
        let k : phases.IsAwake (history_of halves.before ++ history_of halves.after) router stop =
        subst (λ ts. phases.IsAwake ts router stop) both (awake_then all [] (sym (append-nil all)) router stop (subst (λ ts. IsAwake ts router stop) (sym whole.pairing.dated_are) awake)) in
        subst (λ past. IsBackedSince past router p r) past_late
        (by_metric net is_net simulation.moments (simulation.events ++ events_of (untimed (history_of halves.before))) simulation.cold mid simulation.is_cold
        (run_on net simulation.events (events_of (untimed (history_of halves.before))) simulation.cold w mid simulation.run (lead_run net (untimed (history_of halves.before)) w mid lead_mid))
        (history_of halves.after) from w' recent_late stop router m.router p r (state_then router m low up)
        (λ some. awake_from net is_net simulation.moments simulation.events simulation.cold simulation.after simulation.is_cold simulation.run (history_of halves.before) (history_of halves.after) start w' recent_both
        from begun early_steps late_steps (history_of halves.after) router stop (later from (r.metric - 1) stop long some) k) at below long)
      where
        later : (s n t : ℕ) → s + n * 197_000 ≤ t → 1 ≤ n → s + 1_000 ≤ t
        later s n t e f = omega arith

  -- and forwards by its table, unless it has ended
  pub daemon_follows : (router : ℕ) (m : Machine) → router < length net → daemons' router ≡ Some m → m.ended ≡ false → m.fib ≡ forwards m.router.table
  daemon_follows router m low up going = life going
    where
      before_it : (o : Option Machine) → daemons router ≡ o → IfUp o
      before_it None is = tt
      before_it (Some n) is = follows net before daemons ran router n low is

      life : Follows m
      life =
          let node = there_is net router low in
          life_follows (config_of node.0) (daemons router) (own_deeds router (undated history)) m (before_it (daemons router) refl)
          (subst (λ o. Lives (config_of node.0) (daemons router) (own_deeds router (undated history)) o) up (lives_ticking (config_of node.0) (daemons router) (own_deeds router (undated history)) (daemons' router) (go.lives router node.0 node.1)))

  -- an entry of it is of a route that is backed
  pub daemon_backed : (stop router : ℕ) (m : Machine) (p : Prefix6) (f : Forward) → start + 46 * 60_000 ≤ stop → router < length net → daemons' router ≡ Some m → m.ended ≡ false → IsAwake history router stop
      → map_of.get m.fib p ≡ Some f
      → (r : RouteValue) × (map_of.get m.router.table p ≡ Some r) × (forward r ≡ Some f) × IsBackedSince (past_since net before history) router p r
  daemon_backed stop router m p f late low up going awake at =
      by_route (map_of.get m.router.table p) refl (sym (get-map_values forward m.router.table p) ∙ sym (ap (λ t. map_of.get t p) (daemon_follows router m low up going)) ∙ at)
    where
      in_all : (n s t : ℕ) → n < 16 → s + 46 * 60_000 ≤ t → s + (n - 1) * 197_000 ≤ t
      in_all n s t e f = omega arith

      usable : (r : RouteValue) → forward r ≡ Some f → r.metric < infinity
      usable r is = by_test (nat_lt r.metric infinity) refl is
        where
          by_test : (b : Bool) → nat_lt r.metric infinity ≡ b → cond b (Some (record { hop = hop_of r.origin; metric = r.metric })) None ≡ Some f → r.metric < infinity
          by_test true low is = ltb-true r.metric infinity low
          by_test false high is = absurd (None-Some f is)

      by_route : (o : Option RouteValue) → map_of.get m.router.table p ≡ o → option_and_then forward o ≡ Some f
          → (r : RouteValue) × (map_of.get m.router.table p ≡ Some r) × (forward r ≡ Some f) × IsBackedSince (past_since net before history) router p r
      by_route None none is = absurd (None-Some f is)
      by_route (Some r) here is = (r, here, is, daemon_by_metric stop router m p r low up awake here (usable r is) (in_all r.metric start stop (usable r is) late))
