-- Deeds of many routers are brought into the order of their calls: each where its first call is.
use Rattle.std.proofs.Common.{◌≡◌, ◌≢◌, inl, inr, ℕ, zero, suc, ◌<◌, ◌≤◌, ◌==◌, Bool, true, false, cond, List, [], ◌∷◌, ◌++◌, map, filter_map, flat_map, length, Option, Some, None, slice_get, Contains, refl, ap, sym, subst, ◌∙◌, arith}
use Rattle.std.specs.List.{AllByRecursion, cons_option}
use Rattle.std.proofs.lemmas.Bool.{eq-eqb, eqb-true}
use Rattle.std.proofs.lemmas.List.Elements.{Contains-append_left, Contains-append_right, Contains-append_cases}
use Rattle.ripng_world.specs.Network.{Network, Node, config_of}
use Rattle.ripng_world.specs.World.{sent_by}
use Rattle.ripng_world.specs.declared.event.Sent.{Sent}
use Rattle.ripngd_engine.specs.Link.{Call, Gave, Silent, RecvFailed, Handed}
use Rattle.ripngd_theorems.specs.Daemons.{Act, Start, Listen, Tick, Reconfigure, Shutdown, LinkDown, LinkUp, Ask, Refuse, Deed, Happened, own_deeds}
use Rattle.ripngd_theorems.specs.Links.{handed_in, handed_by, IsGiven, AreGiven}
use Rattle.ripngd_runs.specs.Networks.{LinkCall, own_calls, handed_at, AreCallsGiven}
use Rattle.router_core.specs.Config.{Config}
use Rattle.router_core.specs.declared.answer.Outgoing.{Outgoing}

-- ---- the calls of a deed

-- a datagram was handed over
abbrev pub IsHanded : Call → Type 0
IsHanded (Handed o went) = Unit {0}
IsHanded _ = ⊥

-- the calls of a deed: a `recv` that it begins with, if it listens, and then datagrams that it hands over
abbrev pub HasCalls : Act → List Call → Type 0
HasCalls (Listen call) calls = (rest : List Call) × (calls ≡ call ∷ rest) × AllByRecursion IsHanded rest
HasCalls _ calls = AllByRecursion IsHanded calls

abbrev pub IsShaped : Deed → Type 0
IsShaped d = HasCalls d.act d.trace.calls

-- the calls of deeds
abbrev pub calls_in : List Deed → List Call
calls_in deeds = flat_map (λ d. d.trace.calls) deeds

handed_later : (act : Act) (x : Call) (xs : List Call) → HasCalls act (x ∷ xs) → AllByRecursion IsHanded xs
handed_later (Listen call) x xs has = let same : xs ≡ has.0 = cc in subst (AllByRecursion IsHanded) (sym same) has.2
handed_later Start x xs has = has.1
handed_later Tick x xs has = has.1
handed_later (Reconfigure c) x xs has = has.1
handed_later Shutdown x xs has = has.1
handed_later (LinkDown on) x xs has = has.1
handed_later (LinkUp on) x xs has = has.1
handed_later (Ask on) x xs has = has.1
handed_later Refuse x xs has = has.1

-- ---- what is given

given_more : (net : Network) (few many : List Sent) (router : ℕ) (config : Config) (act : Act) → ((s : Sent) → Contains few s → Contains many s)
    → IsGiven net few router config act → IsGiven net many router config act
given_more net few many router config (Listen (Gave d)) more (inl o) = inl (record { sent = o.sent; before = more o.sent o.before; copy = o.copy })
given_more net few many router config (Listen (Gave d)) more (inr s) = inr s
given_more net few many router config (Listen Silent) more given = tt
given_more net few many router config (Listen RecvFailed) more given = tt
given_more net few many router config (Listen (Handed o went)) more given = tt
given_more net few many router config Start more given = tt
given_more net few many router config Tick more given = tt
given_more net few many router config (Reconfigure c) more given = tt
given_more net few many router config Shutdown more given = tt
given_more net few many router config (LinkDown on) more given = tt
given_more net few many router config (LinkUp on) more given = tt
given_more net few many router config (Ask on) more given = tt
given_more net few many router config Refuse more given = tt

-- a deed with no call listened to nothing
given_silent : (net : Network) (handed : List Sent) (router : ℕ) (config : Config) (act : Act) (calls : List Call) → calls ≡ [] → HasCalls act calls → IsGiven net handed router config act
given_silent net handed router config (Listen call) calls none has = let e : call ∷ has.0 ≡ [] = sym has.1 ∙ none in absurd (cc e)
given_silent net handed router config Start calls none has = tt
given_silent net handed router config Tick calls none has = tt
given_silent net handed router config (Reconfigure c) calls none has = tt
given_silent net handed router config Shutdown calls none has = tt
given_silent net handed router config (LinkDown on) calls none has = tt
given_silent net handed router config (LinkUp on) calls none has = tt
given_silent net handed router config (Ask on) calls none has = tt
given_silent net handed router config Refuse calls none has = tt

-- one with a first call listened to that, or to nothing
given_first : (net : Network) (handed : List Sent) (router : ℕ) (config : Config) (act : Act) (x : Call) (xs : List Call) → HasCalls act (x ∷ xs)
    → IsGiven net handed router config (Listen x) → IsGiven net handed router config act
given_first net handed router config (Listen call) x xs has given = let same : x ≡ call = cc in subst (λ y. IsGiven net handed router config (Listen y)) same given
given_first net handed router config Start x xs has given = tt
given_first net handed router config Tick x xs has given = tt
given_first net handed router config (Reconfigure c) x xs has given = tt
given_first net handed router config Shutdown x xs has given = tt
given_first net handed router config (LinkDown on) x xs has given = tt
given_first net handed router config (LinkUp on) x xs has given = tt
given_first net handed router config (Ask on) x xs has given = tt
given_first net handed router config Refuse x xs has given = tt

-- ---- one of many

pub differ_not : false ≡ true → ⊥
differ_not e = cc e

-- one of them is now this
abbrev pub put_at : {X : Type 0} → (ℕ → X) → ℕ → X → ℕ → X
put_at f router x other = cond (router == other) x (f other)

pub put_here : {X : Type 0} (f : ℕ → X) (router : ℕ) (x : X) → put_at f router x router ≡ x
put_here f router x = ap (λ b. cond b x (f router)) (eq-eqb router router refl)

-- what holds of the one, and of the others, holds of each
pub at_each : {X : Type 0} (P : ℕ → X → Type 0) (f : ℕ → X) (router : ℕ) (x : X) → P router x → (other : ℕ) → P other (f other) → P other (put_at f router x other)
at_each {X} P f router x here other there = by_test (router == other) refl
  where
    by_test : (b : Bool) → (router == other) ≡ b → P other (cond b x (f other))
    by_test true same = subst (λ r. P r x) (eqb-true router other same) here
    by_test false differ = there

-- ---- what the first call hands over

sent_first : (router : ℕ) (x : Call) (xs : List Call) (s : Sent) → Contains (map (sent_by router) (filter_map handed_in (x ∷ []))) s
    → Contains (map (sent_by router) (filter_map handed_in (x ∷ xs))) s
sent_first router x xs s has = by (handed_in x) has
  where
    by : (o : Option Outgoing) → Contains (map (sent_by router) (cons_option o [])) s → Contains (map (sent_by router) (cons_option o (filter_map handed_in xs))) s
    by None has = absurd (omega (arith, has.1))
    by (Some o) has = Contains-append_left (sent_by router o ∷ []) (map (sent_by router) (filter_map handed_in xs)) s has

sent_later : (router : ℕ) (x : Call) (xs : List Call) (s : Sent) → Contains (map (sent_by router) (filter_map handed_in xs)) s
    → Contains (map (sent_by router) (filter_map handed_in (x ∷ xs))) s
sent_later router x xs s has = by (handed_in x)
  where
    by : (o : Option Outgoing) → Contains (map (sent_by router) (cons_option o (filter_map handed_in xs))) s
    by None = has
    by (Some o) = Contains-append_right (sent_by router o ∷ []) (map (sent_by router) (filter_map handed_in xs)) s has

module _ (net : Network) where
  -- deeds of all routers in one order, of which each router's own are these
  pub record Woven (handed : List Sent) (todo : ℕ → List Deed) : Type 0 where
    pub order : List Happened
    pub known : AllByRecursion (λ h. h.router < length net) order
    pub own : (router : ℕ) → router < length net → own_deeds router order ≡ todo router
    pub given : AreGiven net handed order

  -- a deed before them
  before : (handed : List Sent) (todo : ℕ → List Deed) (h : Happened) (ds : List Deed) → h.router < length net → todo h.router ≡ h.deed ∷ ds
      → ((node : Node) → slice_get net h.router ≡ Some node → IsGiven net handed h.router (config_of node) h.deed.act)
      → Woven (handed ++ handed_by h) (put_at todo h.router ds) → Woven handed todo
  before handed todo h ds low is given w = record {
    order = h ∷ w.order;
    known = (low, w.known);
    own = λ other there. by_test other (h.router == other) refl (w.own other there);
    given = (given, w.given);
  }
    where
      by_test : (other : ℕ) (b : Bool) → (h.router == other) ≡ b → own_deeds other w.order ≡ cond b ds (todo other)
          → cons_option (cond b (Some h.deed) None) (own_deeds other w.order) ≡ todo other
      by_test other true same own = ap (λ x. h.deed ∷ x) own ∙ sym is ∙ ap todo (eqb-true h.router other same)
      by_test other false differ own = own

  -- ---- no call is left

  abbrev Silents : (ℕ → List Deed) → Type 0
  Silents todo = (router : ℕ) → router < length net → (calls_in (todo router) ≡ []) × AllByRecursion IsShaped (todo router)

  silent_first : (d : Deed) (ds : List Deed) → calls_in (d ∷ ds) ≡ [] → (d.trace.calls ≡ []) × (calls_in ds ≡ [])
  silent_first d ds none = by d.trace.calls none
    where
      by : (xs : List Call) → xs ++ calls_in ds ≡ [] → (xs ≡ []) × (calls_in ds ≡ [])
      by [] e = (refl, e)
      by (x ∷ xs) e = absurd (cc e)

  drained : (router : ℕ) → router < length net
      → ((handed : List Sent) (todo : ℕ → List Deed) → todo router ≡ [] → ((other : ℕ) → router < other → other < length net → todo other ≡ []) → Silents todo → Woven handed todo)
      → (ds : List Deed) (handed : List Sent) (todo : ℕ → List Deed) → todo router ≡ ds → ((other : ℕ) → router < other → other < length net → todo other ≡ []) → Silents todo → Woven handed todo
  drained router low next [] handed todo is done silents = next handed todo is done silents
  drained router low next (d ∷ ds) handed todo is done silents =
      let here = silents router low in
      let first = silent_first d ds (ap calls_in (sym is) ∙ here.0) in
      let shaped : AllByRecursion IsShaped (d ∷ ds) = subst (AllByRecursion IsShaped) is here.1 in
      before handed todo (record { router = router; deed = d }) ds low is
      (λ node node_is. given_silent net handed router (config_of node) d.act d.trace.calls first.0 shaped.0)
      (drained router low next ds (handed ++ handed_by (record { router = router; deed = d })) (put_at todo router ds) (put_here todo router ds)
      (λ other past there. at_each (λ r (x : List Deed). router < r → x ≡ []) todo router ds (λ late. absurd (omega (arith, late))) other (λ p. done other p there) past)
      (λ other there. at_each (λ r (x : List Deed). (calls_in x ≡ []) × AllByRecursion IsShaped x) todo router ds (first.1, shaped.1) other (silents other there)))

  ended : (count : ℕ) → count ≤ length net → (handed : List Sent) (todo : ℕ → List Deed) → ((other : ℕ) → count ≤ other → other < length net → todo other ≡ []) → Silents todo → Woven handed todo
  ended zero low handed todo done silents = record { order = []; known = tt; own = λ router there. sym (done router (omega arith) there); given = tt }
  ended (suc count) low handed todo done silents =
      drained count (omega (arith, low))
      (λ handed' todo' here later silents'. ended count (omega (arith, low)) handed' todo'
      (λ other past there. from_here todo' here later other past there) silents')
      (todo count) handed todo refl (λ other past there. done other (omega (arith, past)) there) silents
    where
      from_here : (todo' : ℕ → List Deed) → todo' count ≡ [] → ((other : ℕ) → count < other → other < length net → todo' other ≡ [])
          → (other : ℕ) → count ≤ other → other < length net → todo' other ≡ []
      from_here todo' here later other past there = by_test (count == other) refl
        where
          by_test : (b : Bool) → (count == other) ≡ b → todo' other ≡ []
          by_test true same = ap todo' (sym (eqb-true count other same)) ∙ here
          by_test false differ = let other_is : count ≢ other = λ e. differ_not (sym differ ∙ eq-eqb count other e) in later other (omega (arith, past, other_is)) there

  -- ---- one call after another

  -- the calls that are left are, of each router, the rest of the deed in which it is, and its deeds to come. What was handed over in
  -- calls was by deeds, and so will be what that rest hands over
  pub record Stands (order : List LinkCall) (rest : ℕ → List Call) (todo : ℕ → List Deed) (called handed : List Sent) : Type 0 where
    pub calls : (router : ℕ) → router < length net → own_calls router order ≡ rest router ++ calls_in (todo router)
    pub in_deed : (router : ℕ) → router < length net → AllByRecursion IsHanded (rest router)
    pub shaped : (router : ℕ) → router < length net → AllByRecursion IsShaped (todo router)
    pub sent : (s : Sent) → Contains called s → Contains handed s
    pub sending : (router : ℕ) → router < length net → (s : Sent) → Contains (map (sent_by router) (filter_map handed_in (rest router))) s → Contains handed s

  -- the first call is of its own router
  own_here : (c : LinkCall) (order : List LinkCall) → own_calls c.router (c ∷ order) ≡ c.call ∷ own_calls c.router order
  own_here c order = ap (λ b. cons_option (cond b (Some c.call) None) (own_calls c.router order)) (eq-eqb c.router c.router refl)

  -- the calls of the others are as before
  calls_on : (c : LinkCall) (order : List LinkCall) (f g : ℕ → List Call) (x : List Call) → own_calls c.router order ≡ x
      → (router : ℕ) → ((c.router ≡ router → ⊥) → g router ≡ f router) → (c.router ≡ router → g router ≡ x)
      → own_calls router (c ∷ order) ≡ f router → own_calls router order ≡ g router
  calls_on c order f g x here router others own e = by_test (c.router == router) refl e
    where
      by_test : (b : Bool) → (c.router == router) ≡ b → cons_option (cond b (Some c.call) None) (own_calls router order) ≡ f router → own_calls router order ≡ g router
      by_test true same e = let at = eqb-true c.router router same in ap (λ r. own_calls r order) (sym at) ∙ here ∙ sym (own at)
      by_test false differ e = e ∙ sym (others (λ at. differ_not (sym differ ∙ eq-eqb c.router router at)))

  elsewhere : {X : Type 0} (f : ℕ → X) (router : ℕ) (x : X) (other : ℕ) → (router ≡ other → ⊥) → put_at f router x other ≡ f other
  elsewhere {X} f router x other differ = by_test (router == other) refl
    where
      by_test : (b : Bool) → (router == other) ≡ b → cond b x (f other) ≡ f other
      by_test true same = absurd (differ (eqb-true router other same))
      by_test false not = refl

  at_one : {X : Type 0} (f : ℕ → X) (router : ℕ) (x : X) (other : ℕ) → router ≡ other → put_at f router x other ≡ x
  at_one f router x other same = ap (λ b. cond b x (f other)) (eq-eqb router other same)

  -- a call of the deed in which its router is
  stands_in_deed : (c : LinkCall) (order : List LinkCall) (rest : ℕ → List Call) (todo : ℕ → List Deed) (called handed : List Sent) (x : Call) (xs : List Call) → c.router < length net
      → rest c.router ≡ x ∷ xs → Stands (c ∷ order) rest todo called handed → Stands order (put_at rest c.router xs) todo (called ++ handed_at c) handed
  stands_in_deed c order rest todo called handed x xs low is s =
      let whole : c.call ∷ own_calls c.router order ≡ (x ∷ xs) ++ calls_in (todo c.router) = sym (own_here c order) ∙ s.calls c.router low ∙ ap (λ y. y ++ calls_in (todo c.router)) is in
      let first : c.call ≡ x = cc whole in
      let later : own_calls c.router order ≡ xs ++ calls_in (todo c.router) = cc whole in
      let told : (d : Sent) → Contains (map (sent_by c.router) (filter_map handed_in (x ∷ xs))) d → Contains handed d =
      subst (λ y. (d : Sent) → Contains (map (sent_by c.router) (filter_map handed_in y)) d → Contains handed d) is (s.sending c.router low) in
      record {
        calls = λ router there. calls_on c order (λ r. rest r ++ calls_in (todo r)) (λ r. put_at rest c.router xs r ++ calls_in (todo r)) (xs ++ calls_in (todo c.router)) later router
            (λ differ. ap (λ y. y ++ calls_in (todo router)) (elsewhere rest c.router xs router differ))
            (λ at. ap (λ y. y ++ calls_in (todo router)) (at_one rest c.router xs router at) ∙ ap (λ r. xs ++ calls_in (todo r)) (sym at)) (s.calls router there);
        in_deed = λ router there. at_each (λ r y. AllByRecursion IsHanded y) rest c.router xs ((subst (AllByRecursion IsHanded) is (s.in_deed c.router low)).1) router (s.in_deed router there);
        shaped = s.shaped;
        sent = λ d has. elim (Contains-append_cases called (handed_at c) d has) [
          | inl old ↦ s.sent d old
          | inr new ↦ told d (sent_first c.router x xs d (subst (λ y. Contains (map (sent_by c.router) (filter_map handed_in (y ∷ []))) d) first new))
        ];
        sending = λ router there. at_each (λ r y. (d : Sent) → Contains (map (sent_by r) (filter_map handed_in y)) d → Contains handed d) rest c.router xs
            (λ d has. told d (sent_later c.router x xs d has)) router (s.sending router there);
      }

  -- its next deed has no call
  stands_silent : (c : LinkCall) (order : List LinkCall) (rest : ℕ → List Call) (todo : ℕ → List Deed) (called handed more : List Sent) (d : Deed) (ds : List Deed) → c.router < length net
      → todo c.router ≡ d ∷ ds → d.trace.calls ≡ [] → Stands (c ∷ order) rest todo called handed → Stands (c ∷ order) rest (put_at todo c.router ds) called (handed ++ more)
  stands_silent c order rest todo called handed more d ds low is none s =
      let deeds_calls : calls_in (todo c.router) ≡ calls_in ds = ap calls_in is ∙ ap (λ y. y ++ calls_in ds) none in
      record {
        calls = λ router there. at_each (λ r y. own_calls r (c ∷ order) ≡ rest r ++ calls_in y) todo c.router ds
            (s.calls c.router low ∙ ap (λ y. rest c.router ++ y) deeds_calls) router (s.calls router there);
        in_deed = s.in_deed;
        shaped = λ router there. at_each (λ r y. AllByRecursion IsShaped y) todo c.router ds ((subst (AllByRecursion IsShaped) is (s.shaped c.router low)).1) router (s.shaped router there);
        sent = λ x has. Contains-append_left handed more x (s.sent x has);
        sending = λ router there x has. Contains-append_left handed more x (s.sending router there x has);
      }

  -- its next deed begins with the call
  stands_first : (c : LinkCall) (order : List LinkCall) (rest : ℕ → List Call) (todo : ℕ → List Deed) (called handed : List Sent) (d : Deed) (ds : List Deed) (x : Call) (xs : List Call)
      → c.router < length net → rest c.router ≡ [] → todo c.router ≡ d ∷ ds → d.trace.calls ≡ x ∷ xs → Stands (c ∷ order) rest todo called handed
      → (c.call ≡ x) × Stands order (put_at rest c.router xs) (put_at todo c.router ds) (called ++ handed_at c) (handed ++ handed_by (record { router = c.router; deed = d }))
  stands_first c order rest todo called handed d ds x xs low none is begins s =
      let whole : c.call ∷ own_calls c.router order ≡ (x ∷ xs) ++ calls_in ds =
      sym (own_here c order) ∙ s.calls c.router low ∙ ap (λ y. y ++ calls_in (todo c.router)) none ∙ ap calls_in is ∙ ap (λ y. y ++ calls_in ds) begins in
      let first : c.call ≡ x = cc whole in
      let later : own_calls c.router order ≡ xs ++ calls_in ds = cc whole in
      let shaped : AllByRecursion IsShaped (d ∷ ds) = subst (AllByRecursion IsShaped) is (s.shaped c.router low) in
      let news : List Sent = map (sent_by c.router) (filter_map handed_in d.trace.calls) in
      let told : (y : Sent) → Contains (map (sent_by c.router) (filter_map handed_in (x ∷ xs))) y → Contains (handed ++ news) y =
      λ y has. Contains-append_right handed news y (subst (λ z. Contains (map (sent_by c.router) (filter_map handed_in z)) y) (sym begins) has) in (
        first,
        record {
          calls = λ router there. calls_on c order (λ r. rest r ++ calls_in (todo r)) (λ r. put_at rest c.router xs r ++ calls_in (put_at todo c.router ds r)) (xs ++ calls_in ds) later router
              (λ differ. ap (λ y. y ++ calls_in (put_at todo c.router ds router)) (elsewhere rest c.router xs router differ)
              ∙ ap (λ y. rest router ++ calls_in y) (elsewhere todo c.router ds router differ))
              (λ at. ap (λ y. y ++ calls_in (put_at todo c.router ds router)) (at_one rest c.router xs router at) ∙ ap (λ y. xs ++ calls_in y) (at_one todo c.router ds router at)) (s.calls router there);
          in_deed = λ router there. at_each (λ r y. AllByRecursion IsHanded y) rest c.router xs
              (handed_later d.act x xs (subst (HasCalls d.act) begins shaped.0)) router (s.in_deed router there);
          shaped = λ router there. at_each (λ r y. AllByRecursion IsShaped y) todo c.router ds shaped.1 router (s.shaped router there);
          sent = λ y has. elim (Contains-append_cases called (handed_at c) y has) [
            | inl old ↦ Contains-append_left handed news y (s.sent y old)
            | inr new ↦ told y (sent_first c.router x xs y (subst (λ z. Contains (map (sent_by c.router) (filter_map handed_in (z ∷ []))) y) first new))
          ];
          sending = λ router there. at_each (λ r y. (z : Sent) → Contains (map (sent_by r) (filter_map handed_in y)) z → Contains (handed ++ news) z) rest c.router xs
              (λ z has. told z (sent_later c.router x xs z has)) router (λ z has. Contains-append_left handed news z (s.sending router there z has));
        },
      )

  -- the deeds of a router up to that which begins with its next call
  begun : (c : LinkCall) (order : List LinkCall) (rest : ℕ → List Call) (called : List Sent) → c.router < length net → rest c.router ≡ []
      → ((node : Node) → slice_get net c.router ≡ Some node → IsGiven net called c.router (config_of node) (Listen c.call))
      → ((rest' : ℕ → List Call) (todo' : ℕ → List Deed) (handed' : List Sent) → Stands order rest' todo' (called ++ handed_at c) handed' → Woven handed' todo')
      → (ds : List Deed) (todo : ℕ → List Deed) (handed : List Sent) → todo c.router ≡ ds → Stands (c ∷ order) rest todo called handed → Woven handed todo
  begun c order rest called low none given next [] todo handed is s =
      let clash : c.call ∷ own_calls c.router order ≡ [] = sym (own_here c order) ∙ s.calls c.router low ∙ ap (λ y. y ++ calls_in (todo c.router)) none ∙ ap calls_in is in
      absurd (cc clash)
  begun c order rest called low none given next (d ∷ ds) todo handed is s = by_calls d.trace.calls refl
      (λ todo' handed' is' s'. begun c order rest called low none given next ds todo' handed' is' s')
    where
      shaped : AllByRecursion IsShaped (d ∷ ds)
      shaped = subst (AllByRecursion IsShaped) is (s.shaped c.router low)

      h : Happened
      h = record { router = c.router; deed = d }

      by_calls : (calls : List Call) → d.trace.calls ≡ calls
          → ((todo' : ℕ → List Deed) (handed' : List Sent) → todo' c.router ≡ ds → Stands (c ∷ order) rest todo' called handed' → Woven handed' todo') → Woven handed todo
      by_calls [] silent later =
          before handed todo (record { router = c.router; deed = d }) ds low is
          (λ node node_is. given_silent net handed c.router (config_of node) d.act d.trace.calls silent shaped.0)
          (later (put_at todo c.router ds) (handed ++ handed_by (record { router = c.router; deed = d })) (put_here todo c.router ds)
          (stands_silent c order rest todo called handed (handed_by (record { router = c.router; deed = d })) d ds low is silent s))
      by_calls (x ∷ xs) begins later =
          let on = stands_first c order rest todo called handed d ds x xs low none is begins s in
          before handed todo (record { router = c.router; deed = d }) ds low is
          (λ node node_is. given_first net handed c.router (config_of node) d.act x xs (subst (HasCalls d.act) begins shaped.0)
          (subst (λ y. IsGiven net handed c.router (config_of node) (Listen y)) on.0
          (given_more net called handed c.router (config_of node) (Listen c.call) s.sent (given node node_is))))
          (next (put_at rest c.router xs) (put_at todo c.router ds) (handed ++ handed_by (record { router = c.router; deed = d })) on.1)

  pub woven : (order : List LinkCall) (rest : ℕ → List Call) (todo : ℕ → List Deed) (called handed : List Sent) → AllByRecursion (λ c. c.router < length net) order
      → AreCallsGiven net called order → Stands order rest todo called handed → Woven handed todo
  woven [] rest todo called handed known given s =
      ended (length net) (omega arith) handed todo (λ other past there. absurd (omega (arith, past, there)))
      (λ router there. (by_rest router (rest router) (s.calls router there), s.shaped router there))
    where
      by_rest : (router : ℕ) (xs : List Call) → [] ≡ xs ++ calls_in (todo router) → calls_in (todo router) ≡ []
      by_rest router [] e = sym e
      by_rest router (x ∷ xs) e = absurd (cc e)
  woven (c ∷ order) rest todo called handed known given s =
      by_rest (rest c.router) refl
      (λ rest' todo' handed' s'. woven order rest' todo' (called ++ handed_at c) handed' known.1 given.1 s')
    where
      by_rest : (xs : List Call) → rest c.router ≡ xs
          → ((rest' : ℕ → List Call) (todo' : ℕ → List Deed) (handed' : List Sent) → Stands order rest' todo' (called ++ handed_at c) handed' → Woven handed' todo') → Woven handed todo
      by_rest [] none next = begun c order rest called known.0 none given.0 next (todo c.router) todo handed refl s
      by_rest (x ∷ xs) is next = next (put_at rest c.router xs) todo handed (stands_in_deed c order rest todo called handed x xs known.0 is s)

  -- the deeds of each router, in the order of its calls
  pub woven_from : (order : List LinkCall) (deeds : ℕ → List Deed) → AllByRecursion (λ c. c.router < length net) order → AreCallsGiven net [] order
      → ((router : ℕ) → router < length net → AllByRecursion IsShaped (deeds router)) → ((router : ℕ) → router < length net → own_calls router order ≡ calls_in (deeds router)) → Woven [] deeds
  woven_from order deeds known given shaped calls =
      woven order (λ router. []) deeds [] [] known given
      (record {
        calls = calls;
        in_deed = λ router there. tt;
        shaped = shaped;
        sent = λ d has. has;
        sending = λ router there d has. has;
      })
