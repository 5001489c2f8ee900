-- Where a deed stands among those of a history, and what is known there.
use Rattle.std.proofs.Common.{◌≡◌, ◌≢◌, ◌⊎◌, inl, inr, ℕ, zero, suc, ◌+◌, ◌-◌, ◌^◌, ◌<◌, ◌≤◌, cond, List, [], ◌∷◌, ◌++◌, length, All, Contains, Option, Some, None, option_map, slice_get, refl, ap, sym, subst, ◌∙◌, arith, length-append}
use Rattle.std.specs.List.{AllByRecursion, cons_option}
use Rattle.std.proofs.lemmas.Bool.{eq-eqb}
use Rattle.std.proofs.lemmas.List.Elements.{All-nil}
use Rattle.route_table.proofs.TableLaws.{Some-same, None-Some}
use Rattle.router_core.specs.declared.answer.Note.{Note}
use Rattle.router_core.specs.declared.answer.NoteKind.TheVariants.{NoMemory}
use Rattle.router_core.specs.declared.arrival.Fault.{Fault}
use Rattle.router_core.specs.declared.reconfiguring.Change.{Change}
use Rattle.ripng_world.specs.declared.event.Sent.{Sent}
use Rattle.ripng_world.specs.Network.{Network, Node, config_of}
use Rattle.ripng_world.specs.World as world
use Rattle.ripng_world.specs.World.{World}
use Rattle.ripng_world.proofs.Each.{each_at_place}
use Rattle.ripng_world.proofs.Members.{At, at_from_contains, at_map, at_right}
use Rattle.ripng_phases.specs.Minutes.{Timed, untimed}
use Rattle.ripng_phases.specs.Phases.{Step, Takes, reached}
use Rattle.ripng_phases.proofs.Along.{contains_from}
use Rattle.ripngd_engine.specs.Link.{Datagram, Gave}
use Rattle.ripngd_engine.specs.Run.{Machine}
use Rattle.ripngd_engine.specs.Observer.{LinkReport, Processed}
use Rattle.ripngd_engine.specs.declared.observer.Arrived.{Arrived}
use Rattle.ripngd_theorems.specs.Daemons.{Listen, Tick, Happened, Lives, own_deeds}
use Rattle.ripngd_theorems.specs.Links.{LiveOn, handed_by, all_handed}
use Rattle.ripngd_theorems.specs.OnTime.{Dated, GoOn, HappenFrom, IsPlain, undated}
use Rattle.ripngd_theorems.proofs.Deeds.{Agrees, HasLost, IsHeard, IsEventOf, IsIdle, IsStepOf, change_done, with_daemon, world_after}
use Rattle.ripngd_theorems.proofs.Events.{IsPlainEvent, plain_event}
use Rattle.ripngd_theorems.proofs.Lossless.{ArePlain, IsAfter, does_from, lives_from, lives_to, none_lost, plain_own}
use Rattle.ripngd_theorems.proofs.Pairs.{ArePairs, IsPair, IsPairing, Paired, agrees_here, all_handed_on, dated_of, dated_on, deeds_of, filter_on, history_of, pairing, point, timed, timed_when}

-- ---- lists

pub all_left : (P : Dated → Type 0) (xs ys : List Dated) → AllByRecursion P (xs ++ ys) → AllByRecursion P xs
all_left P [] ys all = tt
all_left P (x ∷ xs) ys all = (all.0, all_left P xs ys all.1)

pub all_right : (P : Dated → Type 0) (xs ys : List Dated) → AllByRecursion P (xs ++ ys) → AllByRecursion P ys
all_right P [] ys all = all
all_right P (x ∷ xs) ys all = all_right P xs ys all.1

pub happen_first : (start : ℕ) (xs ys : List Dated) → HappenFrom start (xs ++ ys) → HappenFrom start xs
happen_first start [] ys is = tt
happen_first start (x ∷ xs) ys is = (is.0, happen_first x.at xs ys is.1)

pub plain_deeds : (ts : List Dated) → AllByRecursion (λ t. IsPlain t.happened.deed.act) ts → AllByRecursion (λ h. IsPlain h.deed.act) (undated ts)
plain_deeds [] all = tt
plain_deeds (t ∷ ts) all = (all.0, plain_deeds ts all.1)

each_by_place : (P : Paired → Type 0) (ps : List Paired) → ((p : Paired) → At ps p → P p) → AllByRecursion P ps
each_by_place P [] each = tt
each_by_place P (p ∷ ps) each = (each p (0, refl), each_by_place P ps (λ q a. each q (suc a.0, a.1)))

-- a router of the network
is_there : (net : Network) (router : ℕ) (node : Node) → slice_get net router ≡ Some node → router < length net
is_there [] router node is = absurd (None-Some node is)
is_there (n ∷ net) zero node is = omega arith
is_there (n ∷ net) (suc router) node is = let l = is_there net router node is in omega (arith, l)

-- where a deed stands
pub record IsLocated (ps : List Paired) (t : Dated) : Type 0 where
  pub before : List Paired
  pub here : Paired
  pub after : List Paired
  pub parts : ps ≡ before ++ here ∷ after
  pub dated_is : here.dated ≡ t

pub located : (ps : List Paired) (t : Dated) → Contains (dated_of ps) t → IsLocated ps t
located ps t c = let a = at_from_contains (dated_of ps) t c in by_place ps a.0 a.1
  where
    by_place : (qs : List Paired) (i : ℕ) → slice_get (dated_of qs) i ≡ Some t → IsLocated qs t
    by_place [] i is = absurd (None-Some t is)
    by_place (q ∷ qs) zero is = record { before = []; here = q; after = qs; parts = refl; dated_is = Some-same q.dated t is }
    by_place (q ∷ qs) (suc i) is =
        let r = by_place qs i is in
        record { before = q ∷ r.before; here = r.here; after = r.after; parts = ap (λ l. q ∷ l) r.parts; dated_is = r.dated_is }

-- a step of the history, of its deed
pub timed_is : (p : Paired) (t : Timed) → timed p ≡ Some t → (p.step ≡ Some t.step) × (p.dated.at ≡ t.at)
timed_is p t = by p.step
  where
    by : (o : Option Step) → option_map (timed_when p.dated.at) o ≡ Some t → (o ≡ Some t.step) × (p.dated.at ≡ t.at)
    by None is = absurd (None-Some t is)
    by (Some s) is = let e = Some-same (timed_when p.dated.at s) t is in (ap (λ (x : Timed). Some x.step) e, ap (λ (x : Timed). x.at) e)

pub timed_split : (ps xs : List Paired) (p : Paired) (ys : List Paired) → ps ≡ xs ++ p ∷ ys → (s : Step) → p.step ≡ Some s → history_of ps ≡ history_of xs ++ timed_when p.dated.at s ∷ history_of ys
timed_split ps xs p ys parts s is =
    ap history_of parts ∙ filter_on Paired Timed timed xs (p ∷ ys) ∙ ap (λ o. history_of xs ++ cons_option (option_map (timed_when p.dated.at) o) (history_of ys)) is

-- ---- deeds that go on

-- nothing new is noted
abbrev pub IsRoomy : Paired → Type 0
IsRoomy p = (x : Arrived) (bytes : List ℕ) (why : Option Fault) (notes : List Note) → Contains p.dated.happened.deed.trace.told (Processed x bytes why notes) → All (λ n. n.kind ≢ NoMemory) notes

takes_all : (net : Network) (first : List Sent) (ends : ℕ → Option Machine) (ps : List Paired) (daemons : ℕ → Option Machine) (handed_over : List Sent) (done : List (ℕ × Change)) (w : World)
    → ArePairs net first ends daemons handed_over done w ps → AllByRecursion (λ p. IsPlain p.dated.happened.deed.act × IsRoomy p) ps
    → Takes net w (untimed (history_of ps)) (reached w (untimed (history_of ps)))
takes_all net first ends [] daemons handed_over done w are good = refl
takes_all net first ends (p ∷ ps) daemons handed_over done w are good =
    let h = p.dated.happened in
    by p.step are.0.is
    (takes_all net first ends ps (with_daemon daemons h.router are.0.after) (handed_over ++ handed_by h) (done ++ change_done h.router h.deed) (world_after w p.step) are.2 good.1)
  where
    by : (o : Option Step) → IsStepOf net w (length first) p.dated.happened.router (daemons p.dated.happened.router) p.dated.happened.deed p.dated.number are.0.after o
        → Takes net (world_after w o) (untimed (history_of ps)) (reached (world_after w o) (untimed (history_of ps)))
        → Takes net w (untimed (cons_option (option_map (timed_when p.dated.at) o) (history_of ps))) (reached w (untimed (cons_option (option_map (timed_when p.dated.at) o) (history_of ps))))
    by None is rest = rest
    by (Some s) is rest = (event.ordinary, is.0, notes event.notes, rest)
      where
        event : IsPlainEvent p.dated.happened.router p.dated.happened.deed.trace s.event s.answer
        event = plain_event (length first) p.dated.happened.router p.dated.happened.deed.act p.dated.number p.dated.happened.deed.trace s.event s.answer good.0.0 is.1

        notes : (s.answer.notes ≡ []) ⊎ ((now : ℕ) × IsHeard p.dated.happened.deed.trace now s.answer) → All (λ n. n.kind ≢ NoMemory) s.answer.notes
        notes (inl none) = subst (All (λ n. n.kind ≢ NoMemory)) (sym none) (All-nil (λ n. n.kind ≢ NoMemory))
        notes (inr heard) =
            let it : LinkReport = Processed heard.1.who heard.1.bytes s.answer.fault s.answer.notes in
            good.0.1 heard.1.who heard.1.bytes s.answer.fault s.answer.notes
            (contains_from p.dated.happened.deed.trace.told it (subst (λ (xs : List LinkReport). At xs it) (sym heard.1.told) (0, refl)))

module _ (net : Network) (before : List Happened) (daemons : ℕ → Option Machine) (history : List Dated) (start end : ℕ) (daemons' : ℕ → Option Machine)
    (go : GoOn net before daemons history start end daemons') (first : List Sent) (done : List (ℕ × Change)) (w : World) (agrees : Agrees net first daemons (all_handed before) done w) where
  pub pairs : IsPairing net first daemons' history daemons (all_handed before) done w
  pairs = pairing net first daemons' history daemons (all_handed before) done w agrees go.known go.lives go.given

  -- how it is where a deed happens
  pub record IsPlace (xs : List Paired) (p : Paired) (ys : List Paired) : Type 0 where
    pub now : ℕ → Option Machine
    pub changed : List (ℕ × Change)
    pub lives : LiveOn net (deeds_of xs) daemons now
    pub pair : IsPair net first daemons' now (all_handed before ++ all_handed (deeds_of xs)) (reached w (untimed (history_of xs))) p ys
    pub agrees_then : Agrees net first now (all_handed before ++ all_handed (deeds_of xs)) changed (reached w (untimed (history_of xs)))
    pub sent_after : (world_after (reached w (untimed (history_of xs))) p.step).sent ≡ first ++ ((all_handed before ++ all_handed (deeds_of xs)) ++ handed_by p.dated.happened)

  pub place_at : (xs : List Paired) (p : Paired) (ys : List Paired) → pairs.pairs ≡ xs ++ p ∷ ys → IsPlace xs p ys
  place_at xs p ys parts =
      let x = point net first daemons' xs (p ∷ ys) daemons (all_handed before) done w (subst (ArePairs net first daemons' daemons (all_handed before) done w) parts pairs.are) in
      let h = p.dated.happened in
      record {
        now = x.now;
        changed = x.changed;
        lives = x.lives;
        pair = x.are.0;
        agrees_then = x.are.1;
        sent_after = (agrees_here net first daemons' (with_daemon x.now h.router x.are.0.after) ((all_handed before ++ all_handed (deeds_of xs)) ++ handed_by h)
            (x.changed ++ change_done h.router h.deed) (world_after (reached w (untimed (history_of xs))) p.step) ys x.are.2).sent;
      }

  -- what was sent by then
  pub sent_by_then : (xs ys : List Paired) → pairs.pairs ≡ xs ++ ys → (reached w (untimed (history_of xs))).sent ≡ first ++ all_handed (before ++ deeds_of xs)
  sent_by_then xs ys parts =
      let x = point net first daemons' xs ys daemons (all_handed before) done w (subst (ArePairs net first daemons' daemons (all_handed before) done w) parts pairs.are) in
      (agrees_here net first daemons' x.now (all_handed before ++ all_handed (deeds_of xs)) x.changed (reached w (untimed (history_of xs))) ys x.are).sent
      ∙ ap (λ ds. first ++ ds) (sym (all_handed_on before (deeds_of xs)))

  pub count_by_then : (xs ys : List Paired) → pairs.pairs ≡ xs ++ ys → length (reached w (untimed (history_of xs))).sent ≡ length first + length (all_handed (before ++ deeds_of xs))
  count_by_then xs ys parts = ap length (sent_by_then xs ys parts) ∙ length-append first (all_handed (before ++ deeds_of xs))

  -- ---- a deed of the history

  module _ (xs : List Paired) (p : Paired) (ys : List Paired) (parts : pairs.pairs ≡ xs ++ p ∷ ys) where
    pub dated_split : history ≡ dated_of xs ++ p.dated ∷ dated_of ys
    dated_split = sym pairs.dated_are ∙ ap dated_of parts ∙ dated_on xs (p ∷ ys)

    stands : At history p.dated
    stands = subst (λ ts. At ts p.dated) (sym dated_split) (at_right (dated_of xs) (p.dated ∷ dated_of ys) p.dated (0, refl))

    pub in_history : Contains history p.dated
    in_history = contains_from history p.dated stands

    pub plain_here : IsPlain p.dated.happened.deed.act
    plain_here = each_at_place (λ (t : Dated). IsPlain t.happened.deed.act) history go.plain stands.0 p.dated stands.1

    plain_parts : AllByRecursion (λ (t : Dated). IsPlain t.happened.deed.act) (dated_of xs ++ p.dated ∷ dated_of ys)
    plain_parts = subst (AllByRecursion (λ (t : Dated). IsPlain t.happened.deed.act)) dated_split go.plain

    plain_before : (router : ℕ) → ArePlain (own_deeds router (deeds_of xs))
    plain_before router = plain_own router (deeds_of xs) (plain_deeds (dated_of xs) (all_left (λ t. IsPlain t.happened.deed.act) (dated_of xs) (p.dated ∷ dated_of ys) plain_parts))

    plain_after : (router : ℕ) → ArePlain (own_deeds router (deeds_of ys))
    plain_after router =
        plain_own router (deeds_of ys) (plain_deeds (dated_of ys) (all_right (λ t. IsPlain t.happened.deed.act) (dated_of xs) (p.dated ∷ dated_of ys) plain_parts).1)

    abbrev router : ℕ
    router = p.dated.happened.router

    -- the daemon as it was at first, and then
    pub record IsUp (k : IsPlace xs p ys) : Type 0 where
      pub daemon : Machine
      pub daemon_is : k.now router ≡ Some daemon
      pub lived : Lives (config_of k.pair.node) (daemons router) (own_deeds router (deeds_of xs)) (Some daemon)
      pub at_first : Machine
      pub first_is : daemons router ≡ Some at_first
      pub fewer : at_first.lost_memory ≤ daemon.lost_memory

    pub up_here : (k : IsPlace xs p ys) → IsUp k
    up_here k =
        let now = does_from (config_of k.pair.node) p.dated.happened.deed.act (k.now router) p.dated.happened.deed.trace k.pair.after plain_here k.pair.does in
        let lived : Lives (config_of k.pair.node) (daemons router) (own_deeds router (deeds_of xs)) (Some now.was) =
        subst (λ o. Lives (config_of k.pair.node) (daemons router) (own_deeds router (deeds_of xs)) o) now.was_up (k.lives router k.pair.node k.pair.node_is) in
        let was = lives_from (config_of k.pair.node) (own_deeds router (deeds_of xs)) (daemons router) now.was (plain_before router) lived in
        record { daemon = now.was; daemon_is = now.was_up; lived = lived; at_first = was.was; first_is = was.was_up; fewer = was.fewer }

    -- what it is at the end
    pub after_all : (k : IsPlace xs p ys) → IsAfter k.pair.after (daemons' router)
    after_all k =
        lives_to (config_of k.pair.node) (own_deeds router (deeds_of ys)) k.pair.after (daemons' router) (plain_after router)
        (subst (λ b. Lives (config_of k.pair.node) (cond b (Some k.pair.after) (k.now router)) (own_deeds router (deeds_of ys)) (daemons' router)) (eq-eqb router router refl)
        (k.pair.later router k.pair.node k.pair.node_is))

    -- its step was not lost
    not_lost : (k : IsPlace xs p ys) → HasLost (k.now router) k.pair.after → ⊥
    not_lost k lost =
        let up = up_here k in
        let ended = after_all k in
        let counts = go.lossless router up.at_first ended.end (is_there net router k.pair.node k.pair.node_is) up.first_is ended.is_up in
        none_lost up.at_first.lost_memory up.daemon.lost_memory k.pair.after.lost_memory ended.end.lost_memory (2 ^ 64 - 1) up.fewer
        (subst (λ o. HasLost o k.pair.after) up.daemon_is lost) ended.more counts.0 counts.1

    -- a tick is one of the model
    pub record IsTickHere : Type 0 where
      pub step : Step
      pub step_is : p.step ≡ Some step
      pub now : ℕ
      pub word : ℕ
      pub event : step.event ≡ world.Tick p.dated.happened.router now word

    pub tick_here : p.dated.happened.deed.act ≡ Tick → IsTickHere
    tick_here ticks = by (place_at xs p ys parts)
      where
        of_step : (k : IsPlace xs p ys) (o : Option Step) → p.step ≡ o
            → IsStepOf net (reached w (untimed (history_of xs))) (length first) router (k.now router) p.dated.happened.deed p.dated.number k.pair.after o → IsTickHere
        of_step k None is none = absurd (not_lost k (subst (λ a. IsIdle (k.now router) a k.pair.after) ticks none))
        of_step k (Some s) is some =
            let e = subst (λ a. IsEventOf (length first) router a p.dated.number p.dated.happened.deed.trace s.event s.answer) ticks some.1 in
            record { step = s; step_is = is; now = e.0; word = e.1; event = e.2 }

        by : IsPlace xs p ys → IsTickHere
        by k = of_step k p.step refl k.pair.is

    -- what a link gave is delivered
    pub record IsDeliveredHere (datagram iface : ℕ) : Type 0 where
      pub step : Step
      pub step_is : p.step ≡ Some step
      pub now : ℕ
      pub event : step.event ≡ world.Deliver datagram p.dated.happened.router iface now

    pub delivered_here : (d : Datagram) (number : ℕ) → p.dated.happened.deed.act ≡ Listen (Gave d) → p.dated.number ≡ Some number → IsDeliveredHere (length first + number) d.iface
    delivered_here d number gave number_is = by (place_at xs p ys parts)
      where
        of_step : (k : IsPlace xs p ys) (o : Option Step) → p.step ≡ o
            → IsStepOf net (reached w (untimed (history_of xs))) (length first) router (k.now router) p.dated.happened.deed p.dated.number k.pair.after o
            → IsDeliveredHere (length first + number) d.iface
        of_step k None is none = absurd (not_lost k (subst (λ a. IsIdle (k.now router) a k.pair.after) gave none))
        of_step k (Some s) is some =
            let e =
            subst (λ o. IsEventOf (length first) router (Listen (Gave d)) o p.dated.happened.deed.trace s.event s.answer) number_is
            (subst (λ a. IsEventOf (length first) router a p.dated.number p.dated.happened.deed.trace s.event s.answer) gave some.1) in
            record { step = s; step_is = is; now = e.0; event = e.1 }

        by : IsPlace xs p ys → IsDeliveredHere (length first + number) d.iface
        by k = of_step k p.step refl k.pair.is

  -- all of it is steps
  pub takes : Takes net w (untimed (history_of pairs.pairs)) (reached w (untimed (history_of pairs.pairs)))
  takes = takes_all net first daemons' pairs.pairs daemons (all_handed before) done w pairs.are (each_by_place (λ p. IsPlain p.dated.happened.deed.act × IsRoomy p) pairs.pairs good)
    where
      good : (p : Paired) → At pairs.pairs p → IsPlain p.dated.happened.deed.act × IsRoomy p
      good p a =
          let b : At history p.dated = subst (λ ts. At ts p.dated) pairs.dated_are (at_map (λ (q : Paired). q.dated) pairs.pairs p a) in
          (each_at_place (λ (t : Dated). IsPlain t.happened.deed.act) history go.plain b.0 p.dated b.1, λ x bytes why notes c. go.roomy p.dated x bytes why notes (contains_from history p.dated b) c)
