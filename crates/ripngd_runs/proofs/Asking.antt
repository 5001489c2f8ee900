-- What a run does is so much of a daemon's life, and the daemon asks by itself only when it may.
use Rattle.std.proofs.Common.{◌≡◌, ◌≢◌, ◌⊎◌, inl, inr, ℕ, zero, suc, ◌+◌, ◌-◌, ◌<◌, ◌≤◌, max, ◌==◌, ◌||◌, Bool, true, false, cond, nat_lt, List, [], ◌∷◌, ◌++◌, length, Option, Some, refl, ap, sym, subst, ◌∙◌, append-nil, arith}
use Rattle.std.specs.FinMap as map_of
use Rattle.std.specs.List.{AllByRecursion}
use Rattle.std.proofs.lemmas.Bool.{eqb-true, false≢true, lt-ltb, ltb-false, ltb-true, ne_eqb, or_cases, or_left, or_right}
use Rattle.router_core.proofs.OwnedStay.{each_append}
use Rattle.router_core.specs.Config.{Config}
use Rattle.router_core.specs.Machine.{State}
use Rattle.ripngd_control.specs.Commands.{control_text}
use Rattle.ripngd_engine.specs.Changing.{LinkComesUpOnce, ReconfiguresNothing}
use Rattle.ripngd_engine.specs.Run.{Machine, Trace, all_joined, no_step}
use Rattle.ripngd_engine.specs.Seen.{Acts, Seen, Shows}
use Rattle.ripngd_engine.proofs.Steps.{Shows-no_step, Shows-trans}
use Rattle.ripngd_daemon.specs.Questions.{AsksAll, AsksOn, AsksOnFirst, LosesRoute}
use Rattle.ripngd_daemon.specs.Run.{AreDone, AsksRightly as HasAskedRightly, HasLostSince, IsSecondAfter, Steps, Begun, Turned, Told, Asked, lines_in}
use Rattle.ripngd_theorems.specs.Daemons.{Act, Start, Ask, Deed, Does as DoesNext, Lives, traces_of}
use Rattle.ripngd_runs.specs.Lives.{ordered_acts, AreActsForLines}
use Rattle.ripngd_runs.specs.Questions.{Waiting, AsksRightly, MayAsk, asks_on, has_lost, unreachable_in, waits_after, waits_for_nothing}
use Rattle.ripngd_runs.proofs.Obeying.{AreUnasked, AreUnstarted, Did, followed_by-no_step, joined-append, lines_more, lives_on, obeyed, ordered-append, traces-append, turned}
use Rattle.ripngd_runs.proofs.Staying.{lives_interfaces}

-- ---- what is lost

lost_by : ℕ → ℕ → ℕ → ℕ → Bool
lost_by f u g v = nat_lt g f || nat_lt u v

-- what is lost between two moments is lost before or after a third
split_by : (f u g v h w : ℕ) → lost_by f u h w ≡ true → (lost_by f u g v ≡ true) ⊎ (lost_by g v h w ≡ true)
unfolding lost_by
split_by f u g v h w is = elim (or_cases (nat_lt h f) (nat_lt u w) is) [ inl fewer ↦ by_first (nat_lt g f) refl (ltb-true h f fewer) | inr more ↦ by_second (nat_lt u v) refl (ltb-true u w more) ]
  where
    by_first : (b : Bool) → nat_lt g f ≡ b → h < f → ((nat_lt g f || nat_lt u v) ≡ true) ⊎ ((nat_lt h g || nat_lt v w) ≡ true)
    by_first true fewer low = inl (or_left (nat_lt g f) (nat_lt u v) fewer)
    by_first false more low = inr (or_left (nat_lt h g) (nat_lt v w) (lt-ltb h g (omega (arith, low, ltb-false g f more))))

    by_second : (b : Bool) → nat_lt u v ≡ b → u < w → ((nat_lt g f || nat_lt u v) ≡ true) ⊎ ((nat_lt h g || nat_lt v w) ≡ true)
    by_second true more low = inl (or_right (nat_lt g f) (nat_lt u v) more)
    by_second false fewer low = inr (or_right (nat_lt h g) (nat_lt v w) (lt-ltb v w (omega (arith, low, ltb-false u v fewer))))

split : (m k n : Machine) → has_lost m n ≡ true → (has_lost m k ≡ true) ⊎ (has_lost k n ≡ true)
unfolding lost_by
split m k n is = split_by (map_of.len m.fib) (unreachable_in m) (map_of.len k.fib) (unreachable_in k) (map_of.len n.fib) (unreachable_in n) is

lost_nothing : (m : Machine) → has_lost m m ≡ true → ⊥
lost_nothing m is =
    elim (or_cases (nat_lt (map_of.len m.fib) (map_of.len m.fib)) (nat_lt (unreachable_in m) (unreachable_in m)) is) [
      | inl low ↦ omega (arith, ltb-true (map_of.len m.fib) (map_of.len m.fib) low)
      | inr low ↦ omega (arith, ltb-true (unreachable_in m) (unreachable_in m) low)
    ]

-- a loss of the daemon's is one
lost_is : (a b : Seen) → LosesRoute a b → has_lost a.machine b.machine ≡ true
lost_is a b (inl fewer) =
    or_left (nat_lt (map_of.len b.machine.fib) (map_of.len a.machine.fib)) (nat_lt (unreachable_in a.machine) (unreachable_in b.machine))
    (lt-ltb (map_of.len b.machine.fib) (map_of.len a.machine.fib) fewer)
lost_is a b (inr more) =
    or_right (nat_lt (map_of.len b.machine.fib) (map_of.len a.machine.fib)) (nat_lt (unreachable_in a.machine) (unreachable_in b.machine))
    (lt-ltb (unreachable_in a.machine) (unreachable_in b.machine) more)

-- ---- what is waited for

-- what is waited for after a step, by whether it asked on the link
abbrev waits_by : Bool → Waiting → Machine → Machine → Waiting
waits_by b w m n = cond b (record { lost = false; free_at = n.router.last + 1000 }) (record { lost = has_lost m n || w.lost; free_at = w.free_at })

free_by : (b : Bool) (w : Waiting) (m n : Machine) → w.free_at ≤ n.router.last + 1000 → (waits_by b w m n).free_at ≤ n.router.last + 1000
free_by true w m n le = omega arith
free_by false w m n le = le

stays_lost : (b : Bool) (w : Waiting) (m n : Machine) → b ≡ false → w.lost ≡ true → (waits_by b w m n).lost ≡ true
stays_lost b w m n is lost = subst (λ c. (waits_by c w m n).lost ≡ true) (sym is) (or_right (has_lost m n) w.lost lost)

stays_free : (b : Bool) (w : Waiting) (m n : Machine) → b ≡ false → (waits_by b w m n).free_at ≡ w.free_at
stays_free b w m n is = ap (λ c. (waits_by c w m n).free_at) is

-- by these deeds a daemon went on, asked on a link only when it might, and then waits for this
abbrev AsksTo : ℕ → Config → Waiting → Machine → List Deed → Machine → Waiting → Type 0
AsksTo iface config w m [] n v = (n ≡ m) × (v ≡ w)
AsksTo iface config w m (d ∷ deeds) n v =
    (k : Machine) × DoesNext config (Some m) d.act d.trace k × (asks_on iface d.act ≡ true → MayAsk w m)
    × AsksTo iface config (waits_after iface w m d.act k) k deeds n v

asked_rightly : (iface : ℕ) (config : Config) (w : Waiting) (m : Machine) (deeds : List Deed) (n : Machine) (v : Waiting)
    → AsksTo iface config w m deeds n v → AsksRightly iface config w m deeds n
asked_rightly iface config w m [] n v asks = asks.0
asked_rightly iface config w m (d ∷ deeds) n v asks =
    (asks.0, asks.1, asks.2, asked_rightly iface config (waits_after iface w m d.act asks.0) asks.0 deeds n v asks.3)

asks_then : (iface : ℕ) (config : Config) (w : Waiting) (a : Machine) (xs ys : List Deed) (m : Machine) (v : Waiting) (b : Machine) (u : Waiting)
    → AsksTo iface config w a xs m v → AsksTo iface config v m ys b u → AsksTo iface config w a (xs ++ ys) b u
asks_then iface config w a [] ys m v b u first later =
    subst (λ x. AsksTo iface config w x ys b u) first.0 (subst (λ x. AsksTo iface config x m ys b u) first.1 later)
asks_then iface config w a (d ∷ xs) ys m v b u first later =
    (first.0, first.1, first.2, asks_then iface config (waits_after iface w a d.act first.0) first.0 xs ys m v b u first.3 later)

-- deeds that are no questions keep what is waited for, and mind what is lost
abbrev Minds : ℕ → Config → Waiting → Machine → List Deed → Machine → Type 0
Minds iface config w m deeds n =
    (v : Waiting) × AsksTo iface config w m deeds n v × (v.free_at ≡ w.free_at) × (w.lost ≡ true → v.lost ≡ true) × (has_lost m n ≡ true → v.lost ≡ true)

minds : (iface : ℕ) (config : Config) (w : Waiting) (m : Machine) (deeds : List Deed) (n : Machine) → Lives config (Some m) deeds (Some n) → AreUnasked iface deeds
    → Minds iface config w m deeds n
minds iface config w m [] n lives none =
    let same : n ≡ m = cc lives in
    (w, (same, refl), refl, (λ lost. lost), (λ lost. absurd (lost_nothing m (subst (λ x. has_lost m x ≡ true) same lost))))
minds iface config w m (d ∷ deeds) n (k, does, lives) none =
    let after : Waiting = record { lost = has_lost m k || w.lost; free_at = w.free_at } in
    let is : waits_after iface w m d.act k ≡ after = ap (λ b. waits_by b w m k) none.0 in
    let later = minds iface config after k deeds n lives none.1 in (
      later.0,
      (k, does, (λ asks. (let e : false ≡ true = sym none.0 ∙ asks in absurd (false≢true e))), subst (λ x. AsksTo iface config x k deeds n later.0) (sym is) later.1),
      later.2,
      (λ lost. later.3 (or_right (has_lost m k) w.lost lost)),
      (λ lost. elim (split m k n lost) [ inl early ↦ later.3 (or_left (has_lost m k) w.lost early) | inr late ↦ later.4 late ]),
    )

-- ---- so much of a life, with its questions

-- deeds that lead on, of which the outside gained just what they did, and clients ordered just these acts; R says how each link was asked
pub record Led (config : Config) (R : ℕ → List Deed → Type 0) (a : Seen) (acts : List Act) (b : Seen) : Type 0 where
  pub deeds : List Deed
  pub lives : Lives config (Some a.machine) deeds (Some b.machine)
  pub shows : Shows a.outside (all_joined (traces_of deeds)) b.outside
  pub ordered : ordered_acts deeds ≡ acts
  pub unstarted : AreUnstarted deeds
  pub asks : (iface : ℕ) → R iface deeds

pub led_on : (config : Config) (P Q R : ℕ → List Deed → Type 0) (a m b : Seen) (xs ys : List Act) (first : Led config P a xs m) (later : Led config Q m ys b)
    → ((iface : ℕ) → P iface first.deeds → Q iface later.deeds → R iface (first.deeds ++ later.deeds)) → Led config R a (xs ++ ys) b
led_on config P Q R a m b xs ys first later both = record {
  deeds = first.deeds ++ later.deeds;
  lives = lives_on config (Some a.machine) (Some m.machine) (Some b.machine) first.deeds later.deeds first.lives later.lives;
  shows =
      subst (λ t. Shows a.outside t b.outside)
      (sym (ap all_joined (traces-append first.deeds later.deeds) ∙ joined-append (traces_of first.deeds) (traces_of later.deeds)))
      (Shows-trans a.outside m.outside b.outside (all_joined (traces_of first.deeds)) (all_joined (traces_of later.deeds)) first.shows later.shows);
  ordered = ordered-append first.deeds later.deeds ∙ ap (λ x. x ++ ordered_acts later.deeds) first.ordered ∙ ap (λ y. xs ++ y) later.ordered;
  unstarted = each_append (λ d. d.act ≢ Start) first.deeds later.deeds first.unstarted later.unstarted;
  asks = λ iface. both iface (first.asks iface) (later.asks iface);
}

led_nowhere : (config : Config) (R : ℕ → List Deed → Type 0) (a b : Seen) → b ≡ a → ((iface : ℕ) → R iface []) → Led config R a [] b
led_nowhere config R a b same asks = record {
  deeds = [];
  lives = ap (λ x. Some x.machine) same;
  shows = subst (λ x. Shows a.outside no_step x.outside) (sym same) (Shows-no_step a.outside);
  ordered = refl;
  unstarted = tt;
  asks = asks;
}

-- deeds without a question
abbrev Unasked : Config → Seen → Seen → ℕ → List Deed → Type 0
Unasked config a b iface deeds = Lives config (Some a.machine) deeds (Some b.machine) × AreUnasked iface deeds

led_unasked : (config : Config) (a : Seen) (acts : List Act) (b : Seen) → Did config a acts b → Led config (Unasked config a b) a acts b
led_unasked config a acts b did = record {
  deeds = did.deeds;
  lives = did.lives;
  shows = did.shows;
  ordered = did.ordered;
  unstarted = did.unstarted;
  asks = λ iface. (did.lives, did.unasked iface);
}

-- ---- a question

-- time does not go back while it asks on a link
asks_later : (iface : ℕ) (a b : Seen) → AsksOn iface a b → a.machine.router.last ≤ b.machine.router.last
asks_later iface a b (inl up) = by up.does.0 (ap (λ (s : State). s.last) up.does.1.moves.state)
  where
    by : (now : ℕ) → b.machine.router.last ≡ max a.machine.router.last now → a.machine.router.last ≤ b.machine.router.last
    by now is = omega (arith, is)
asks_later iface a b (inr nothing) = omega (arith, ap (λ (m : Machine). m.router.last) nothing.does.2)

-- on one link, which no client ordered
abbrev AsksAt : ℕ → Config → Seen → Seen → ℕ → List Deed → Type 0
AsksAt on config a b iface deeds =
    (w : Waiting) → (asks_on iface (Ask on) ≡ true → MayAsk w a.machine) → AsksTo iface config w a.machine deeds b.machine (waits_after iface w a.machine (Ask on) b.machine)

asked_on : (config : Config) (on : ℕ) (a b : Seen) → a.machine.ended ≡ false → AsksOn on a b → Led config (AsksAt on config a b) a [] b
asked_on config on a b going asks = by asks
  where
    own : (acts : Acts (λ m t n. LinkComesUpOnce on m t n ⊎ ReconfiguresNothing m t n) a b) → Led config (AsksAt on config a b) a [] b
    own acts = record {
      deeds = record { act = Ask on; trace = acts.trace } ∷ [];
      lives = (b.machine, (going, acts.does), refl);
      shows = subst (λ t. Shows a.outside t b.outside) (sym (followed_by-no_step acts.trace)) acts.shows;
      ordered = refl;
      unstarted = ((λ e. cc e), tt);
      asks = λ iface w may. (b.machine, (going, acts.does), may, (refl, refl));
    }

    by : AsksOn on a b → Led config (AsksAt on config a b) a [] b
    by (inl up) = own (record { trace = up.trace; does = inl up.does; shows = up.shows })
    by (inr nothing) = own (record { trace = nothing.trace; does = inr nothing.does; shows = nothing.shows })

-- on the first links, one after another: what is due at the start is asked once, and those behind them wait as before
abbrev AsksFirst : ℕ → Config → Seen → Seen → ℕ → List Deed → Type 0
AsksFirst count config a b iface deeds = (w : Waiting) → MayAsk w a.machine
    → (v : Waiting) × AsksTo iface config w a.machine deeds b.machine v × (v.free_at ≤ b.machine.router.last + 1000) × (count ≤ iface → MayAsk v b.machine)

asked_more : (config : Config) (on : ℕ) (a m b : Seen) → AsksOn on m b → (iface : ℕ) (xs ys : List Deed) → AsksFirst on config a m iface xs → AsksAt on config m b iface ys
    → AsksFirst (suc on) config a b iface (xs ++ ys)
asked_more config on a m b asks iface xs ys first then w may =
    (waits_by (on == iface) v m.machine b.machine, asks_then iface config w a.machine xs ys m.machine v b.machine _ early.1 (then v due), bound, rest)
  where
    early : (v : Waiting) × AsksTo iface config w a.machine xs m.machine v × (v.free_at ≤ m.machine.router.last + 1000) × (on ≤ iface → MayAsk v m.machine)
    early = first w may

    v : Waiting
    v = early.0

    later : m.machine.router.last ≤ b.machine.router.last
    later = asks_later on m b asks

    due : (on == iface) ≡ true → MayAsk v m.machine
    due is = early.3 (omega (arith, eqb-true on iface is))

    bound : (waits_by (on == iface) v m.machine b.machine).free_at ≤ b.machine.router.last + 1000
    bound = free_by (on == iface) v m.machine b.machine (omega (arith, later, early.2))

    rest : suc on ≤ iface → MayAsk (waits_by (on == iface) v m.machine b.machine) b.machine
    rest behind =
        let other : (on == iface) ≡ false = ne_eqb on iface (λ e. omega (arith, e, behind)) in
        let still = early.3 (omega (arith, behind)) in
        (stays_lost (on == iface) v m.machine b.machine other still.0, omega (arith, stays_free (on == iface) v m.machine b.machine other, still.1, later))

asked_first : (config : Config) (count : ℕ) (a b : Seen) → AsksOnFirst count a b → Led config (AsksFirst count config a b) a [] b
asked_first config zero a b same =
    led_nowhere config (AsksFirst zero config a b) a b same
    (λ iface w may. (w, (ap (λ x. x.machine) same, refl), omega (arith, may.1, ap (λ x. x.machine.router.last) same), (λ behind. (may.0, omega (arith, may.1, ap (λ x. x.machine.router.last) same)))))
asked_first config (suc on) a b (m, before, going, asks) =
    let early = asked_first config on a m before in
    let then = asked_on config on m b going asks in
    led_on config (AsksFirst on config a m) (AsksAt on config m b) (AsksFirst (suc on) config a b) a m b [] [] early then
    (λ iface. asked_more config on a m b asks iface early.deeds then.deeds)

-- ---- all steps

-- the link was asked only when it might be, and what is waited for then is what these say
abbrev AsksSo : Type 0 → (ℕ → Type 0) → Config → Seen → Seen → ℕ → List Deed → Type 0
AsksSo Lost IsFree config a b iface deeds =
    (w : Waiting) × AsksTo iface config waits_for_nothing a.machine deeds b.machine w × (Lost → w.lost ≡ true) × ((now : ℕ) → IsFree now → w.free_at ≤ now)

-- what is no question keeps this
pub minds_more : (config : Config) (Lost After : Type 0) (IsFree : ℕ → Type 0) (a m b : Seen) → (After → (has_lost m.machine b.machine ≡ true) ⊎ Lost) → (iface : ℕ) (xs ys : List Deed)
    → AsksSo Lost IsFree config a m iface xs → Unasked config m b iface ys → AsksSo After IsFree config a b iface (xs ++ ys)
minds_more config Lost After IsFree a m b lost iface xs ys (w, asks, minded, free) unasked =
    let next = minds iface config w m.machine ys b.machine unasked.0 unasked.1 in (
      next.0,
      asks_then iface config waits_for_nothing a.machine xs ys m.machine w b.machine next.0 asks next.1,
      (λ after. elim (lost after) [ inl now ↦ next.4 now | inr early ↦ next.3 (minded early) ]),
      (λ now is. omega (arith, next.2, free now is)),
    )

-- a question begins anew
asks_more : (config : Config) (Lost : Type 0) (IsFree : ℕ → Type 0) (count : ℕ) (a m b : Seen) → Lost → IsFree m.machine.router.last → (iface : ℕ) (xs ys : List Deed)
    → AsksSo Lost IsFree config a m iface xs → AsksFirst count config m b iface ys → AsksSo ⊥ (λ now. b.machine.router.last + 1000 ≤ now) config a b iface (xs ++ ys)
asks_more config Lost IsFree count a m b lost is iface xs ys (w, asks, minded, free) asked =
    let next = asked w (minded lost, free m.machine.router.last is) in (
      next.0,
      asks_then iface config waits_for_nothing a.machine xs ys m.machine w b.machine next.0 asks next.1,
      (λ none. absurd none),
      (λ now le. omega (arith, next.2, le)),
    )

module _ (config : Config) (first : Config) (seconds : Option ℕ) where
  -- what steps left of losses and questions
  abbrev pub StepsAsk : (steps : Steps) (a b : Seen) → AreDone seconds steps a b → ℕ → List Deed → Type 0
  StepsAsk steps a b done iface deeds =
      AsksSo (HasLostSince seconds steps a b done) (λ now. IsSecondAfter now seconds steps a b done) config a b iface deeds

  -- so much was done, for these lines
  abbrev pub DidSteps : (steps : Steps) (a b : Seen) → AreDone seconds steps a b → Type 0
  DidSteps steps a b done = (acts : List Act) × AreActsForLines first (lines_in steps) acts × Led config (StepsAsk steps a b done) a acts b

  pub all_done : (steps : Steps) (a b : Seen) → length a.machine.router.config.interfaces ≡ length first.interfaces
      → (done : AreDone seconds steps a b) → HasAskedRightly seconds steps a b done → DidSteps steps a b done
  all_done Begun a b same done asks = (
    [],
    refl,
    led_nowhere config (StepsAsk Begun a b done) a b done
        (λ iface. (waits_for_nothing, (ap (λ x. x.machine) done, refl), (λ lost. absurd lost), (λ now is. omega arith))),
  )
  all_done (Turned before) a b same done asks =
      let m = done.0 in
      let early = all_done before a m same done.1 asks in
      let then = led_unasked config m [] b (turned config m b done.2.1) in (
        early.0,
        early.1,
        subst (λ acts. Led config (StepsAsk (Turned before) a b done) a acts b) (append-nil early.0)
            (led_on config (StepsAsk before a m done.1) (Unasked config m b) (StepsAsk (Turned before) a b done) a m b early.0 [] early.2 then
            (λ iface.
            minds_more config (HasLostSince seconds before a m done.1) (HasLostSince seconds (Turned before) a b done) (λ now. IsSecondAfter now seconds before a m done.1) a m b
            (λ lost. elim lost [ inl now ↦ inl (lost_is m b now) | inr before ↦ inr before ]) iface early.2.deeds then.deeds)),
      )
  all_done (Asked before) a b same done asks =
      let m = done.0 in
      let early = all_done before a m same done.1 asks.2 in
      let then = asked_first config done.2.count m b done.2.asks in (
        early.0,
        early.1,
        subst (λ acts. Led config (StepsAsk (Asked before) a b done) a acts b) (append-nil early.0)
            (led_on config (StepsAsk before a m done.1) (AsksFirst done.2.count config m b) (StepsAsk (Asked before) a b done) a m b early.0 [] early.2 then
            (λ iface.
            asks_more config (HasLostSince seconds before a m done.1) (λ now. IsSecondAfter now seconds before a m done.1) done.2.count a m b asks.0 asks.1 iface early.2.deeds then.deeds)),
      )
  all_done (Told before line) a b same done asks =
      let m = done.0 in
      let early = all_done before a m same done.1 asks in
      let here : length m.machine.router.config.interfaces ≡ length first.interfaces =
      lives_interfaces config (Some a.machine) early.2.deeds m.machine early.2.lives ∙ same in
      let obeys = done.3 in
      let did = obeyed config first m b here done.2 obeys.0 obeys.1 obeys.3 in
      let then = led_unasked config m did.0 b did.2 in (
        early.0 ++ did.0,
        lines_more config first (lines_in before) early.0 line obeys.0 did.0 early.1 obeys.2 did.1,
        led_on config (StepsAsk before a m done.1) (Unasked config m b) (StepsAsk (Told before line) a b done) a m b early.0 did.0 early.2 then
            (λ iface.
            minds_more config (HasLostSince seconds before a m done.1) (HasLostSince seconds (Told before line) a b done) (λ now. IsSecondAfter now seconds before a m done.1) a m b
            (λ lost. elim lost [ inl now ↦ inl (lost_is m b now.0) | inr before ↦ inr before ]) iface early.2.deeds then.deeds),
      )

  -- and then clients order nothing more, and nothing is asked
  pub led_then : (steps : Steps) (a m b : Seen) (done : AreDone seconds steps a m) (acts : List Act) → Led config (StepsAsk steps a m done) a acts m → Did config m [] b
      → Led config (λ iface deeds. AsksRightly iface config waits_for_nothing a.machine deeds b.machine) a acts b
  led_then steps a m b done acts early did =
      let then = led_unasked config m [] b did in
      subst (λ acts. Led config (λ iface deeds. AsksRightly iface config waits_for_nothing a.machine deeds b.machine) a acts b) (append-nil acts)
      (led_on config (StepsAsk steps a m done) (Unasked config m b) (λ iface deeds. AsksRightly iface config waits_for_nothing a.machine deeds b.machine) a m b acts [] early then
      (λ iface before unasked.
      (let all = minds_more config (HasLostSince seconds steps a m done) ⊥ (λ now. IsSecondAfter now seconds steps a m done) a m b (λ none. absurd none) iface early.deeds then.deeds before unasked in
      asked_rightly iface config waits_for_nothing a.machine (early.deeds ++ then.deeds) b.machine all.0 all.1)))
