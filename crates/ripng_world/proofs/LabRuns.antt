-- What holds of a network that has run since a cold start, and how runs and cold starts go on.
use Rattle.std.proofs.Common.{◌≡◌, ℕ, zero, suc, ◌+◌, ◌<◌, ◌≤◌, List, [], ◌∷◌, ◌++◌, map, take, drop, length, get_or, refl, ap, ap₂, sym, subst, ◌∙◌, arith, append_assoc}
use Rattle.std.specs.Prelude.{Option, Some, None, Result, Ok, Err, IfErr, IfOk, IfSome}
use Rattle.std.specs.Borrow.{Bor}
use Rattle.std.specs.Option.{option_copied}
use Rattle.std.specs.Result.{result_err}
use Rattle.std.proofs.lemmas.List.{append-nil, map-append, length-map, length-append, take_more, take_all}
use Rattle.router_core.specs.Machine.{State, Starts}
use Rattle.router_core.specs.declared.answer.Answer.{Answer}
use Rattle.ripng_world.specs.Network.{Network, Node, AreZoned, config_of}
use Rattle.ripng_world.specs.World.{World, Event, Happens, WorldRun, IsCold, StartsFrom, past_of, sent_by}
use Rattle.ripng_world.specs.Stations.{StationValue, network_of, world_of}
use Rattle.ripng_world.specs.Labs.{LabValue, HasRun, HappensGiving, AreRoutesBacked, AreRoutesBackedSince, HaveNoneBelowLeast, HaveNoneBelowLeastSince, AreDatagramsSoundSince, HoldsFixed, Keeps}
use Rattle.ripng_world.specs.Truth.{IsSoundDatagram}
use Rattle.ripng_world.specs.TruthSince.{IsSoundDatagramSince}
use Rattle.ripng_world.specs.Watching.{Told, WatchedInPart, failures}
use Rattle.ripng_world.specs.declared.event.LabError.{LabError}
use Rattle.ripng_world.specs.declared.watch.Stopped.{Stopped}
use Rattle.ripng_world.specs.declared.event.Sent.{Sent}
use Rattle.ripng_world.proofs.Each.{each_weaker}
use Rattle.ripng_world.proofs.Growing.{backed_first}
use Rattle.ripng_world.proofs.WorldRuns.{IsGood, run_from_cold}
use Rattle.ripng_world.proofs.Unchanged.{truth_first}
use Rattle.ripng_world.proofs.RoundRuns.{run_on}
use Rattle.ripng_world.proofs.Watched.{until_run}

module _ (net : Network) (w : World) (has_run : HasRun net w) where
  good : IsGood net has_run.lawful.owns_prefixes w
  good = run_from_cold net has_run.lawful.owns_prefixes has_run.moments has_run.events has_run.cold w has_run.is_cold has_run.run

  pub backed : AreRoutesBackedSince net w
  backed = λ router state here p r at low. ((good.states_good router state here).sound p r at).backed low

  pub least : HaveNoneBelowLeastSince net w
  least = λ router state here p r metric at low least.
      let b = backed router state here p r at low in
      least.least r.metric r.tag b.0 b.1

  pub truth : AreDatagramsSoundSince net w
  truth = good.sent_true

  fixed_backed : w.reconfigurations ≡ [] → AreRoutesBacked net w
  fixed_backed unchanged router state here p r at low = backed_first (past_of net w) unchanged router p r (backed router state here p r at low)

  fixed_least : w.reconfigurations ≡ [] → HaveNoneBelowLeast net w
  fixed_least unchanged router state here p r metric at low least =
      let b = fixed_backed unchanged router state here p r at low in
      least.least r.metric r.tag b.0 b.1

  pub fixed : HoldsFixed net w
  fixed =
      record {
        backed = fixed_backed;
        least = fixed_least;
        truth = λ unchanged.
            each_weaker (λ (d : Sent). IsSoundDatagram net d.router d.bytes) (λ (d : Sent). IsSoundDatagramSince (past_of net w) d.router d.bytes)
            (λ d. truth_first (past_of net w) unchanged d.router d.bytes) w.sent good.sent_true;
      }

  pub went_on : (events : List Event) (w' : World) → WorldRun net w events w' → HasRun net w'
  went_on events w' run =
      record {
        lawful = has_run.lawful;
        moments = has_run.moments;
        events = has_run.events ++ events;
        cold = has_run.cold;
        is_cold = has_run.is_cold;
        run = run_on net has_run.events events has_run.cold w w' has_run.run run;
      }

pub keeps : (lab : LabValue) → HasRun lab.network lab.world → Keeps lab
keeps lab has_run =
    let net = lab.network in
    let w = lab.world in
    record { backed = backed net w has_run; least = least net w has_run; truth = truth net w has_run; fixed = fixed net w has_run }

pub one_event : (net : Network) (w w' : World) (e : Event) (answer : Answer) → Happens net w e answer w' → WorldRun net w (e ∷ []) w'
one_event net w w' e answer happens = (w', answer, happens, refl)

-- a lab has run on, once its routers have done an event or refused it
pub step_on : (lab lab' : LabValue) (e : Event) (r : Result Answer LabError) → IfOk r (λ answer. HappensGiving lab e answer lab'.world) → lab'.network ≡ lab.network → IfSome (result_err r) (λ _. lab' ≡ lab)
    → HasRun lab.network lab.world → HasRun lab'.network lab'.world
step_on lab lab' e (Ok answer) happens same still has_run =
    subst (λ (net : Network). HasRun net lab'.world) (sym same)
    (went_on lab.network lab.world has_run (e ∷ []) lab'.world (one_event lab.network lab.world lab'.world e happens.0 happens.1))
step_on lab lab' e (Err why) happens same still has_run = subst (λ (l : LabValue). HasRun l.network l.world) (sym still) has_run

-- so it has once an observer is told of the event, or fails
pub step_watched_on : {V F : Type 0} (t f : V → Told → V → Type 0) (lab lab' : LabValue) (e : Event) (v v' : V) (r : Result Answer (Stopped LabError F)) → IfOk r (λ answer. HappensGiving lab e answer lab'.world)
    → IfErr r (λ why. WatchedInPart t f (failures why) lab.network (lab.world, v) (e ∷ []) (lab'.world, v')) → lab'.network ≡ lab.network → HasRun lab.network lab.world → HasRun lab'.network lab'.world
step_watched_on t f lab lab' e v v' (Ok answer) happens stopped same has_run =
    subst (λ (net : Network). HasRun net lab'.world) (sym same)
    (went_on lab.network lab.world has_run (e ∷ []) lab'.world (one_event lab.network lab.world lab'.world e happens.0 happens.1))
step_watched_on t f lab lab' e v v' (Err why) happens stopped same has_run =
    subst (λ (net : Network). HasRun net lab'.world) (sym same)
    (went_on lab.network lab.world has_run stopped.part lab'.world (until_run t f (failures why) lab.network stopped.part (lab.world, v) (lab'.world, v') stopped.run))

-- what is said of what was found, if it was
pub if_found : {X : Type 0} (o : Option (Bor X)) (q : Option X) (P : X → Type 0) → option_copied o ≡ q → ((x : X) → q ≡ Some x → P x) → IfSome o (λ r. P r.now)
if_found None q P is each = tt
if_found (Some r) q P is each = each r.now (sym is)

-- one more router has started
pub starts_next : (n : ℕ) (nodes : List Node) (moments : List ℕ) (states : List State) (sent : List Sent) (node : Node) (now : ℕ) (answer : Answer) (s : State)
    → StartsFrom n nodes moments states sent → Starts (config_of node) now answer s
    → StartsFrom n (nodes ++ node ∷ []) (moments ++ now ∷ []) (states ++ s ∷ []) (sent ++ map (sent_by (n + length nodes)) answer.sends)
starts_next n [] [] [] sent node now answer s from starts =
    let here : n + 0 ≡ n = omega arith in
    (answer, [], starts, refl, ap₂ (λ (xs : List Sent) (k : ℕ). xs ++ map (sent_by k) answer.sends) from here ∙ sym (append-nil (map (sent_by n) answer.sends)))
starts_next n (x ∷ nodes) (m ∷ moments) (t ∷ states) sent node now answer s from starts =
    let later = starts_next (suc n) nodes moments states from.1 node now answer s from.3 starts in
    let place : n + suc (length nodes) ≡ suc n + length nodes = omega arith in (
      from.0,
      from.1 ++ map (sent_by (suc n + length nodes)) answer.sends,
      from.2,
      later,
      ap₂ (λ (xs : List Sent) (k : ℕ). xs ++ map (sent_by k) answer.sends) from.4 place
          ∙ append_assoc (map (sent_by n) from.0.sends) from.1 (map (sent_by (suc n + length nodes)) answer.sends),
    )
starts_next n _ _ _ sent node now answer s from starts = absurd from

-- one more station of those that the routers of a network become
pub listed_on : (stations stations' : List StationValue) (s : StationValue) (node : Node) (left rest all : List Node) → stations' ≡ stations ++ s ∷ []
    → s.node ≡ node → left ≡ node ∷ rest → network_of stations ++ left ≡ all → network_of stations' ++ rest ≡ all
listed_on stations stations' s node left rest all more same is so_far =
    ap (λ (ss : List StationValue). network_of ss ++ rest) more
    ∙ ap (λ (ns : List Node). ns ++ rest) (map-append (λ (t : StationValue). t.node) stations (s ∷ []))
    ∙ append_assoc (network_of stations) (s.node ∷ []) rest
    ∙ ap (λ (n : Node). network_of stations ++ n ∷ rest) same
    ∙ ap (λ (ns : List Node). network_of stations ++ ns) (sym is)
    ∙ so_far

pub cold_on : (stations stations' : List StationValue) (moments : List ℕ) (sent sent' : List Sent) (s : StationValue) (now : ℕ) (answer : Answer) (n n' k : ℕ)
    → stations' ≡ stations ++ s ∷ [] → n ≡ length stations → n' ≡ n + 1 → k ≡ n → sent' ≡ sent ++ map (sent_by k) answer.sends
    → n < length moments → now ≡ get_or moments k now
    → StartsFrom 0 (network_of stations) (take n moments) (map (λ t. t.state) stations) sent → Starts (config_of s.node) now answer s.state
    → StartsFrom 0 (network_of stations') (take n' moments) (map (λ t. t.state) stations') sent'
cold_on stations stations' moments sent sent' s now answer n n' k more size next number added here is from starts =
    let nodes : network_of stations' ≡ network_of stations ++ s.node ∷ [] = ap network_of more ∙ map-append (λ (t : StationValue). t.node) stations (s ∷ []) in
    let states : map (λ (t : StationValue). t.state) stations' ≡ map (λ (t : StationValue). t.state) stations ++ s.state ∷ [] =
    ap (map (λ (t : StationValue). t.state)) more ∙ map-append (λ (t : StationValue). t.state) stations (s ∷ []) in
    let times : take n' moments ≡ take n moments ++ now ∷ [] =
    ap (λ (m : ℕ). take m moments) next ∙ take_more moments n now here
    ∙ ap (λ (m : ℕ). take n moments ++ m ∷ []) (ap (λ (m : ℕ). get_or moments m now) (sym number) ∙ sym is) in
    let place : k ≡ 0 + length (network_of stations) = omega (arith, number, size, length-map stations (λ (t : StationValue). t.node)) in
    let datagrams : sent' ≡ sent ++ map (sent_by (0 + length (network_of stations))) answer.sends = added ∙ ap (λ (m : ℕ). sent ++ map (sent_by m) answer.sends) place in
    let all = starts_next 0 (network_of stations) (take n moments) (map (λ (t : StationValue). t.state) stations) sent s.node now answer s.state from starts in
    subst (λ (ns : List Node). StartsFrom 0 ns (take n' moments) (map (λ (t : StationValue). t.state) stations') sent') (sym nodes)
    (subst (λ (ms : List ℕ). StartsFrom 0 (network_of stations ++ s.node ∷ []) ms (map (λ (t : StationValue). t.state) stations') sent') (sym times)
    (subst (λ (ss : List State). StartsFrom 0 (network_of stations ++ s.node ∷ []) (take n moments ++ now ∷ []) ss sent') (sym states)
    (subst (λ (ds : List Sent). StartsFrom 0 (network_of stations ++ s.node ∷ []) (take n moments ++ now ∷ []) (map (λ (t : StationValue). t.state) stations ++ s.state ∷ []) ds) (sym datagrams) all)))

-- there is a moment for each router that is still to start
pub started_few : (stations : List StationValue) (left rest all : List Node) (node : Node) (moments : List ℕ) (n : ℕ) → network_of stations ++ left ≡ all → left ≡ node ∷ rest
    → length moments ≡ length all → n ≡ length stations → n < length moments
started_few stations left rest all node moments n listed is each size =
    omega (arith, ap length listed, length-append (network_of stations) left, length-map stations (λ (s : StationValue). s.node), ap length is)

-- room for all that are left is room for the next, and then for the others
pub next_room : {X : Type 0} (n room : ℕ) (left rest : List X) (x : X) → left ≡ x ∷ rest → n + length left ≤ room → n < room
next_room n room left rest x is fits = omega (arith, ap length is)

pub room_left : {X : Type 0} (n room n' room' : ℕ) (left rest : List X) (x : X) → left ≡ x ∷ rest → n + length left ≤ room → n' ≡ n + 1 → room' ≡ room → n' + length rest ≤ room'
room_left n room n' room' left rest x is fits more same = omega (arith, ap length is)

-- every router has started
pub all_listed : (stations : List StationValue) (left all : List Node) → network_of stations ++ left ≡ all → length left ≡ 0 → network_of stations ≡ all
all_listed stations [] all listed none = sym (append-nil (network_of stations)) ∙ listed
all_listed stations (n ∷ left) all listed none = absurd (omega arith)

pub all_cold : (stations : List StationValue) (nodes : List Node) (moments : List ℕ) (sent : List Sent) (n : ℕ) → AreZoned nodes → network_of stations ≡ nodes → length moments ≡ length nodes
    → n ≡ length stations → StartsFrom 0 (network_of stations) (take n moments) (map (λ s. s.state) stations) sent → IsCold nodes moments (world_of stations sent [])
all_cold stations nodes moments sent n zoned are each size from =
    let states = map (λ (s : StationValue). s.state) stations in
    let all : take n moments ≡ moments = take_all n moments (omega (arith, ap length are, length-map stations (λ (s : StationValue). s.node))) in
    record {
      zoned = zoned;
      starts = subst (λ (ns : List Node). StartsFrom 0 ns moments states sent) are (subst (λ (ms : List ℕ). StartsFrom 0 (network_of stations) ms states sent) all from);
      unchanged = refl;
    }

-- a slice that was written back whole
pub written_back : {X : Type 0} (n : ℕ) (xs ys : List X) → length xs ≡ length ys → n ≡ length ys → take n (xs ++ drop (length xs) ys) ≡ xs
written_back zero [] [] same all = refl
written_back (suc n) (x ∷ xs) (y ∷ ys) same all = ap (λ zs. x ∷ zs) (written_back n xs ys (omega arith) (omega arith))
written_back (suc n) [] [] same all = refl
written_back zero (x ∷ xs) (y ∷ ys) same all = absurd (omega arith)
written_back n [] (y ∷ ys) same all = absurd (omega arith)
written_back n (x ∷ xs) [] same all = absurd (omega arith)
