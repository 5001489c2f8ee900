-- Deliveries one after another: how they go on, and how they stop.
use Rattle.std.proofs.Common.{◌≡◌, ℕ, inl, inr, ◌+◌, ◌%◌, ◌<◌, ◌≤◌, Bool, true, false, cond, not, List, [], ◌∷◌, ◌++◌, map, take, drop, filter, filter_map, length, get_or, Option, Some, slice_get, option_map, refl, ap, sym, subst, ◌∙◌, arith, append_assoc}
use Rattle.std.specs.List.{enumerate_from}
use Rattle.std.proofs.lemmas.List.{length-append, map-append, take-append-drop, append-nil}
use Rattle.std.proofs.Math.Seq.{take-append_seam}
use Rattle.std.proofs.lemmas.List.Elements.{filter-append, filter_map-append}
use Rattle.router_core.specs.declared.answer.Answer.{Answer}
use Rattle.ripng_world.specs.AskedRounds.{delivery, deliveries_of, is_picked, other_deliveries, picked_deliveries}
use Rattle.ripng_world.specs.Delivering.{StopAt, StopForMemory, StopForWatcher}
use Rattle.ripng_world.specs.Network.{Network}
use Rattle.ripng_world.specs.Rounds.{AllHeard}
use Rattle.ripng_world.specs.World.{World, Event, Deliver, Stranger, Tick, Restart, Shutdown, LinkDown, LinkUp, Reconfigure, Happens, WorldRun, sent_by}
use Rattle.ripng_world.specs.declared.lab.delivering.Pair.{Pair}
use Rattle.ripng_world.specs.declared.event.Sent.{Sent}
use Rattle.ripng_world.proofs.Among.{enumerate_append}
use Rattle.ripng_world.proofs.Picking.{others_more, others_same, picked_more}
use Rattle.ripng_world.specs.declared.watch.Stopped.{Stopped}
use Rattle.ripng_world.specs.declared.watch.Stopped.TheVariants.{Refused, Failed}
use Rattle.ripng_world.specs.Watching.{Told, HeardInPart, WatchedRun, WatchedInPart, IfRefused, any, failures, heard, refused_as, wanting}
use Rattle.ripng_world.proofs.Watched.{failed_at, until_all, watched_any, watched_on, whole_one}

pub delivered_heard : {V : Type 0} (t : V → Told → V → Type 0) (net : Network) (es : List Event) (w w' : World × V) → WatchedRun t heard net w es w' → AllHeard net w.0 es w'.0
delivered_heard t net [] w w' is = ap (λ v. v.0) is
delivered_heard t net (e ∷ es) w w' is = (is.0.0, is.1, is.3, is.2, delivered_heard t net es is.0 w' is.5)

-- deliveries go on in a network that is the same
pub delivered_next : {V : Type 0} (t : V → Told → V → Type 0) (net net' : Network) (part this next : List Event) (w mid w' : World × V) → net' ≡ net → WatchedRun t heard net w part mid
    → WatchedRun t heard net' mid this w' → next ≡ part ++ this → WatchedRun t heard net w next w'
delivered_next t net net' part this next w mid w' same first rest is =
    subst (λ (es : List Event). WatchedRun t heard net w es w') (sym is)
    (watched_on t heard net part this w mid w' first (subst (λ (n : Network). WatchedRun t heard n mid this w') same rest))

-- ---- how they stop

-- nothing more happens
pub all_heard : {V R F : Type 0} (t f : V → Told → V → Type 0) (why : R) (net : Network) (es left : List Event) (s s' : World × V) → WatchedRun t heard net s es s' → HeardInPart {V = V} {R = R} {F = F} t f (Refused why) net s (es ++ left) s'
all_heard t f why net es left s s' run =
    let few : 0 ≤ 1 = omega arith in
    record { part = es; last = []; left = left; events_are = refl; before = s'; run = run; ends = (few, refl) }

pub none_heard : {V R F : Type 0} (t f : V → Told → V → Type 0) (why : R) (net : Network) (es : List Event) (s s' : World × V) → s' ≡ s → HeardInPart {V = V} {R = R} {F = F} t f (Refused why) net s es s'
none_heard t f why net es s s' same = all_heard t f why net [] es s s' same

-- one delivery, at which a new route wants for memory
pub wanting_one : {V R F : Type 0} (t f : V → Told → V → Type 0) (why : R) (net : Network) (e e' : Event) (s s' : World × V) → e ≡ e' → WatchedRun t wanting net s (e ∷ []) s'
    → HeardInPart {V = V} {R = R} {F = F} t f (Refused why) net s (e' ∷ []) s'
wanting_one t f why net e e' s s' same run =
    let few : length (e ∷ []) ≤ 1 = omega arith in
    record { part = []; last = e ∷ []; left = []; events_are = ap (λ (x : Event). x ∷ []) (sym same); before = s; run = refl; ends = (few, run) }

-- one that is refused, or at which the watcher fails
pub stopped_one : {V R Q F : Type 0} (t f : V → Told → V → Type 0) (why : Stopped R F) (other : Q) (net : Network) (e e' : Event) (s s' : World × V) → e ≡ e' → WatchedInPart t f (failures why) net s (e ∷ []) s'
    → IfRefused why (λ _. s' ≡ s) → HeardInPart t f (refused_as why other) net s (e' ∷ []) s'
stopped_one t f (Refused why) other net e e' s s' same stop still = none_heard t f other net (e' ∷ []) s s' still
stopped_one t f (Failed fault) other net e e' s s' same stop still =
    record {
      part = [];
      last = e ∷ [];
      left = [];
      events_are = ap (λ (x : Event). x ∷ []) (sym same);
      before = s;
      run = refl;
      ends = (refl, failed_at t f net e s s' (whole_one t f net e s s' stop));
    }

joined : {X : Type 0} (part this last left more : List X) → (part ++ (this ++ (last ++ left))) ++ more ≡ (part ++ this) ++ (last ++ (left ++ more))
joined part this last left more =
    ap (λ xs. xs ++ more) (sym (append_assoc part this (last ++ left)))
    ∙ append_assoc (part ++ this) (last ++ left) more
    ∙ ap (λ xs. (part ++ this) ++ xs) (append_assoc last left more)

-- in the midst of all
pub part_next : {V R F : Type 0} (t f : V → Told → V → Type 0) (why : Stopped R F) (net net' : Network) (part this next left whole : List Event) (w mid w' : World × V) → net' ≡ net → WatchedRun t heard net w part mid
    → HeardInPart t f why net' mid this w' → next ≡ part ++ this → whole ≡ next ++ left → HeardInPart t f why net w whole w'
part_next t f why net net' part this next left whole w mid w' same first stops next_is whole_is =
    let stop : HeardInPart t f why net mid this w' = subst (λ (n : Network). HeardInPart t f why n mid this w') same stops in
    record {
      part = part ++ stop.part;
      last = stop.last;
      left = stop.left ++ left;
      events_are = whole_is
          ∙ ap (λ (es : List Event). es ++ left) (next_is ∙ ap (λ (es : List Event). part ++ es) stop.events_are)
          ∙ joined part stop.part stop.last stop.left left;
      before = stop.before;
      run = watched_on t heard net part stop.part w mid stop.before first stop.run;
      ends = stop.ends;
    }

-- what is told
pub heard_part : {V R F : Type 0} (t f : V → Told → V → Type 0) (why : Stopped R F) (net : Network) (es : List Event) (w w' : World × V) → HeardInPart t f why net w es w' → WatchedInPart t f (failures why) net w es w'
heard_part t f (Refused why) net es w w' p =
    record {
      part = p.part ++ p.last;
      left = p.left;
      events_are = p.events_are ∙ sym (append_assoc p.part p.last p.left);
      run = until_all t f net (p.part ++ p.last) w w'
          (watched_on t any net p.part p.last w p.before w' (watched_any t heard net p.part w p.before p.run) (watched_any t wanting net p.last p.before w' p.ends.1));
    }
heard_part t f (Failed fault) net es w w' p =
    record {
      part = p.part ++ p.last;
      left = p.left;
      events_are = p.events_are ∙ sym (append_assoc p.part p.last p.left);
      run = record {
        done = p.part;
        last = p.last;
        events_are = refl;
        as_many = p.ends.0;
        before = p.before;
        run = watched_any t heard net p.part w p.before p.run;
        failed = p.ends.1;
      };
    }

-- as far as the world goes
at_seam : {X : Type 0} (xs : List X) (y : X) (ys : List X) → slice_get (xs ++ y ∷ ys) (length xs) ≡ Some y
at_seam [] y ys = refl
at_seam (x ∷ xs) y ys = at_seam xs y ys

module _ {V : Type 0} (t : V → Told → V → Type 0) (net : Network) (part left es : List Event) (w mid : World × V) (first : WatchedRun t heard net w part mid) where
  heard_first : (last : List Event) → es ≡ part ++ (last ++ left) → AllHeard net w.0 (take (length part) es) mid.0
  heard_first last are =
      subst (λ (xs : List Event). AllHeard net w.0 xs mid.0) (sym (ap (take (length part)) are ∙ take-append_seam part (last ++ left)))
      (delivered_heard t net part w mid first)

  part_within : (last : List Event) → es ≡ part ++ (last ++ left) → length part ≤ length es
  part_within last are = omega (arith, ap length are, length-append part (last ++ left))

  comes_next : (e : Event) → es ≡ part ++ (e ∷ [] ++ left) → slice_get es (length part) ≡ Some e
  comes_next e are = ap (λ (xs : List Event). slice_get xs (length part)) are ∙ at_seam part e left

  for_memory : (last : List Event) (w' : World × V) → es ≡ part ++ (last ++ left) → length last ≤ 1 → WatchedRun t wanting net mid last w' → StopForMemory net w.0 es w'.0
  for_memory [] w' are few run = record { done = length part; within = part_within [] are; before = mid.0; heard = heard_first [] are; last = inl (ap (λ (v : World × V). v.0) run) }
  for_memory (e ∷ []) w' are few run =
      record {
        done = length part;
        within = part_within (e ∷ []) are;
        before = mid.0;
        heard = heard_first (e ∷ []) are;
        last = inr (
          run.1,
          record { event = e; event_is = comes_next e are; happens = subst (λ (v : World × V). Happens net mid.0 e run.1 v.0) (sym run.5) run.3 },
          run.2,
        );
      }
  for_memory (e ∷ d ∷ last) w' are few run = absurd (omega (arith, few))

  for_watcher : (f : V → Told → V → Type 0) (last : List Event) (w' : World × V) → es ≡ part ++ (last ++ left) → length last ≡ 1 → WatchedRun f any net mid last w' → StopForWatcher net w.0 es w'.0
  for_watcher f [] w' are one run = absurd (omega (arith, one))
  for_watcher f (e ∷ []) w' are one run =
      record {
        done = length part;
        before = mid.0;
        heard = heard_first (e ∷ []) are;
        answer = run.1;
        last = record { event = e; event_is = comes_next e are; happens = subst (λ (v : World × V). Happens net mid.0 e run.1 v.0) (sym run.5) run.3 };
      }
  for_watcher f (e ∷ d ∷ last) w' are one run = absurd (omega (arith, one))

pub stop_at : {V R F : Type 0} (t f : V → Told → V → Type 0) (why : Stopped R F) (net : Network) (es : List Event) (w w' : World × V) → HeardInPart t f why net w es w' → StopAt net w.0 es why w'.0
stop_at t f (Refused why) net es w w' p = for_memory t net p.part p.left es w p.before p.run p.last w' p.events_are p.ends.0 p.ends.1
stop_at t f (Failed fault) net es w w' p = for_watcher t net p.part p.left es w p.before p.run f p.last w' p.events_are p.ends.0 p.ends.1

-- ---- what was sent stays

happens_grow : (net : Network) (e : Event) (answer : Answer) (w w' : World) → Happens net w e answer w' → (more : List Sent) × (w'.sent ≡ w.sent ++ more)
happens_grow net (Deliver datagram router iface now) answer w w' is = (map (sent_by router) answer.sends, is.moves.sent)
happens_grow net (Stranger router x) answer w w' is = (map (sent_by router) answer.sends, is.moves.sent)
happens_grow net (Tick router now word) answer w w' is = (map (sent_by router) answer.sends, is.sent)
happens_grow net (Restart router now) answer w w' is = (map (sent_by router) answer.sends, is.sent)
happens_grow net (Shutdown router now) answer w w' is = (map (sent_by router) answer.sends, is.sent)
happens_grow net (LinkDown router now on) answer w w' is = (map (sent_by router) answer.sends, is.sent)
happens_grow net (LinkUp router now on) answer w w' is = (map (sent_by router) answer.sends, is.sent)
happens_grow net (Reconfigure router now c) answer w w' is = (map (sent_by router) answer.sends, is.sent)

pub sent_grow : (net : Network) (es : List Event) (w w' : World) → WorldRun net w es w' → (more : List Sent) × (w'.sent ≡ w.sent ++ more)
sent_grow net [] w w' is = ([], ap (λ (v : World). v.sent) is ∙ sym (append-nil w.sent))
sent_grow net (e ∷ es) w w' is =
    let here = happens_grow net e is.1 w is.0 is.2 in
    let later = sent_grow net es is.0 w' is.3 in
    (here.0 ++ later.0, later.1 ∙ ap (λ (ds : List Sent). ds ++ later.0) here.1 ∙ append_assoc w.sent here.0 later.0)

-- ---- picks

enumerate_left : {X : Type 0} (first n : ℕ) (xs : List X) → enumerate_from first xs ≡ enumerate_from first (take n xs) ++ enumerate_from (first + length (take n xs)) (drop n xs)
enumerate_left first n xs = ap (enumerate_from first) (sym (take-append-drop n xs)) ∙ enumerate_append first (take n xs) (drop n xs)

module _ {V : Type 0} (t : V → Told → V → Type 0) (net net' : Network) (w mid w' : World × V) (same : net' ≡ net) (pairs : List Pair) where
  module _ (picks : List (ℕ × ℕ)) (i : ℕ) (x : ℕ × ℕ) (p : Pair) (here : i < length picks) (is : x ≡ get_or picks i x) (found : slice_get pairs (x.0 % length pairs) ≡ Some p)
      (before : WatchedRun t heard net w (picked_deliveries pairs (take i picks)) mid) where
    pub picked_next : WatchedRun t heard net' mid (delivery p x.1 ∷ []) w' → WatchedRun t heard net w (picked_deliveries pairs (take (i + 1) picks)) w'
    picked_next then =
        delivered_next t net net' (picked_deliveries pairs (take i picks)) (delivery p x.1 ∷ []) (picked_deliveries pairs (take (i + 1) picks)) w mid w' same before then
        (picked_more pairs picks i x p here is found)

    pub picked_stop : {R F : Type 0} (f : V → Told → V → Type 0) (why : Stopped R F) → HeardInPart t f why net' mid (delivery p x.1 ∷ []) w' → HeardInPart t f why net w (picked_deliveries pairs picks) w'
    picked_stop f why stops =
        let h : ℕ × ℕ → Option Event = λ q. option_map (λ pair. delivery pair q.1) (slice_get pairs (q.0 % length pairs)) in
        part_next t f why net net' (picked_deliveries pairs (take i picks)) (delivery p x.1 ∷ []) (picked_deliveries pairs (take (i + 1) picks)) (picked_deliveries pairs (drop (i + 1) picks))
        (picked_deliveries pairs picks) w mid w' same before stops (picked_more pairs picks i x p here is found)
        (ap (filter_map h) (sym (take-append-drop (i + 1) picks)) ∙ filter_map-append h (take (i + 1) picks) (drop (i + 1) picks))

  -- ---- the pairs that are left

  module _ (picked : ℕ → Bool) (rest i : ℕ) (x : Pair) (here : i < length pairs) (is : x ≡ get_or pairs i x) (before : WatchedRun t heard net w (other_deliveries picked (take i pairs) rest) mid) where
    left_more : picked i ≡ false → other_deliveries picked (take (i + 1) pairs) rest ≡ other_deliveries picked (take i pairs) rest ++ delivery x rest ∷ []
    left_more is_left =
        others_more picked pairs rest i x here is
        ∙ ap (λ (b : Bool). other_deliveries picked (take i pairs) rest ++ cond (not b) (delivery x rest ∷ []) []) is_left

    pub others_next : picked i ≡ false → WatchedRun t heard net' mid (delivery x rest ∷ []) w' → WatchedRun t heard net w (other_deliveries picked (take (i + 1) pairs) rest) w'
    others_next is_left then =
        delivered_next t net net' (other_deliveries picked (take i pairs) rest) (delivery x rest ∷ []) (other_deliveries picked (take (i + 1) pairs) rest) w mid w' same before then (left_more is_left)

    pub others_stop : {R F : Type 0} (f : V → Told → V → Type 0) (why : Stopped R F) → picked i ≡ false → HeardInPart t f why net' mid (delivery x rest ∷ []) w' → HeardInPart t f why net w (other_deliveries picked pairs rest) w'
    others_stop f why is_left stops =
        let at_rest : ℕ × Pair → Event = λ p. delivery p.1 rest in
        let test : ℕ × Pair → Bool = λ p. not (picked p.0) in
        let front = enumerate_from 0 (take (i + 1) pairs) in
        let back = enumerate_from (0 + length (take (i + 1) pairs)) (drop (i + 1) pairs) in
        part_next t f why net net' (other_deliveries picked (take i pairs) rest) (delivery x rest ∷ []) (other_deliveries picked (take (i + 1) pairs) rest) (map at_rest (filter test back)) (other_deliveries picked pairs rest)
        w mid w' same before stops (left_more is_left)
        (ap (λ (ns : List (ℕ × Pair)). map at_rest (filter test ns)) (enumerate_left 0 (i + 1) pairs)
        ∙ ap (map at_rest) (filter-append test front back)
        ∙ map-append at_rest (filter test front) (filter test back))

    -- a pair that was picked
    pub others_skip : picked i ≡ true → WatchedRun t heard net w (other_deliveries picked (take (i + 1) pairs) rest) mid
    others_skip is_picked =
        subst (λ (es : List Event). WatchedRun t heard net w es mid)
        (sym (others_more picked pairs rest i x here is
        ∙ ap (λ (b : Bool). other_deliveries picked (take i pairs) rest ++ cond (not b) (delivery x rest ∷ []) []) is_picked
        ∙ append-nil (other_deliveries picked (take i pairs) rest)))
        before

-- ---- where nothing is picked, all pairs are delivered

unpicked : (n : ℕ) (pairs : List Pair) (rest : ℕ) → map (λ (p : ℕ × Pair). delivery p.1 rest) (filter (λ p. not false) (enumerate_from n pairs)) ≡ map (λ p. delivery p rest) pairs
unpicked n [] rest = refl
unpicked n (x ∷ pairs) rest = ap (λ (es : List Event). delivery x rest ∷ es) (unpicked (n + 1) pairs rest)

pub none_asked : (pairs : List Pair) (rest : ℕ) → deliveries_of pairs [] rest ≡ map (λ p. delivery p rest) pairs
none_asked pairs rest = unpicked 0 pairs rest

-- the picks, and then all others
module _ {V : Type 0} (t : V → Told → V → Type 0) (net net' : Network) (w mid w' : World × V) (same : net' ≡ net) (pairs : List Pair) (picks : List (ℕ × ℕ)) (rest : ℕ) (flags : List Bool) where
  module _ (flags_are : (k : ℕ) → k < length pairs → get_or flags k false ≡ is_picked (length pairs) picks k) (first : WatchedRun t heard net w (picked_deliveries pairs picks) mid) where
    all_is : deliveries_of pairs picks rest ≡ picked_deliveries pairs picks ++ other_deliveries (λ k. get_or flags k false) pairs rest
    all_is =
        ap (λ (es : List Event). picked_deliveries pairs picks ++ es)
        (sym (others_same (λ k. get_or flags k false) (is_picked (length pairs) picks) pairs rest flags_are))

    pub asked_all : WatchedRun t heard net' mid (other_deliveries (λ k. get_or flags k false) pairs rest) w' → WatchedRun t heard net w (deliveries_of pairs picks rest) w'
    asked_all then =
        delivered_next t net net' (picked_deliveries pairs picks) (other_deliveries (λ k. get_or flags k false) pairs rest) (deliveries_of pairs picks rest) w mid w' same first then all_is

    pub asked_stop : {R F : Type 0} (f : V → Told → V → Type 0) (why : Stopped R F) → HeardInPart t f why net' mid (other_deliveries (λ k. get_or flags k false) pairs rest) w' → HeardInPart t f why net w (deliveries_of pairs picks rest) w'
    asked_stop f why stops =
        part_next t f why net net' (picked_deliveries pairs picks) (other_deliveries (λ k. get_or flags k false) pairs rest) (deliveries_of pairs picks rest) [] (deliveries_of pairs picks rest) w mid w' same first
        stops all_is (sym (append-nil (deliveries_of pairs picks rest)))

pub part_more : {V R F : Type 0} (t f : V → Told → V → Type 0) (why : Stopped R F) (net : Network) (es fs : List Event) (w w' : World × V) → HeardInPart t f why net w es w' → HeardInPart t f why net w (es ++ fs) w'
part_more t f why net es fs w w' p = part_next t f why net net [] es es fs (es ++ fs) w w w' refl refl p refl refl
