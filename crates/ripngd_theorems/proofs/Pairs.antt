-- Deeds by the true clock, each with the step of the world that it is, if it is one.
use Rattle.std.proofs.Common.{◌≡◌, ℕ, ◌+◌, ◌<◌, ◌≤◌, ◌==◌, Bool, true, false, cond, List, [], ◌∷◌, ◌++◌, map, filter_map, length, Option, Some, None, option_map, slice_get, refl, ap, sym, subst, ◌∙◌, append-nil, append_assoc, arith}
use Rattle.std.specs.List.{AllByRecursion, cons_option}
use Rattle.std.proofs.lemmas.Bool.{eqb-true}
use Rattle.route_table.proofs.TableLaws.{Some-same}
use Rattle.router_core.specs.declared.reconfiguring.Change.{Change}
use Rattle.ripng_world.specs.declared.event.Sent.{Sent}
use Rattle.ripng_world.specs.Network.{Network, Node, config_of}
use Rattle.ripng_world.specs.World.{World}
use Rattle.ripng_phases.specs.Minutes.{Timed, AreFrom, untimed}
use Rattle.ripng_phases.specs.Phases.{Step, reached}
use Rattle.ripngd_engine.specs.Run.{Machine}
use Rattle.ripngd_theorems.specs.Daemons.{Happened, Does, Lives, own_deeds}
use Rattle.ripngd_theorems.specs.Links.{LiveOn, handed_by, all_handed}
use Rattle.ripngd_theorems.specs.OnTime.{Dated, HappenFrom, IsNumbered, AreNumbered, undated}
use Rattle.ripngd_theorems.proofs.Deeds.{Agrees, IsStepOf, change_done, done_on, with_daemon, world_after}
use Rattle.ripngd_theorems.proofs.Running.{lives_later, there_is}

-- ---- lists, of which some items count

module _ (X Y : Type 0) (f : X → Option Y) where
  -- where an item that counts stands
  pub record IsSplit (xs : List X) (b : List Y) (y : Y) (a : List Y) : Type 0 where
    pub before : List X
    pub here : X
    pub after : List X
    pub parts : xs ≡ before ++ here ∷ after
    pub before_is : filter_map f before ≡ b
    pub here_is : f here ≡ Some y
    pub after_is : filter_map f after ≡ a

  pub filter_on : (xs ys : List X) → filter_map f (xs ++ ys) ≡ filter_map f xs ++ filter_map f ys
  filter_on [] ys = refl
  filter_on (x ∷ xs) ys = ap (cons_option (f x)) (filter_on xs ys) ∙ joined (f x) (filter_map f xs)
    where
      joined : (o : Option Y) (zs : List Y) → cons_option o (zs ++ filter_map f ys) ≡ cons_option o zs ++ filter_map f ys
      joined None zs = refl
      joined (Some z) zs = refl

  pub split_filter : (xs : List X) (b : List Y) (y : Y) (a : List Y) → filter_map f xs ≡ b ++ y ∷ a → IsSplit xs b y a
  split_filter [] [] y a e = absurd (cc)
  split_filter [] (z ∷ b) y a e = absurd (cc)
  split_filter (x ∷ xs) b y a e = by (f x) refl b e (λ c g. split_filter xs c y a g)
    where
      by : (o : Option Y) → f x ≡ o → (b : List Y) → cons_option o (filter_map f xs) ≡ b ++ y ∷ a → ((c : List Y) → filter_map f xs ≡ c ++ y ∷ a → IsSplit xs c y a) → IsSplit (x ∷ xs) b y a
      by None none b g later =
          let r = later b g in
          record {
            before = x ∷ r.before;
            here = r.here;
            after = r.after;
            parts = ap (λ l. x ∷ l) r.parts;
            before_is = ap (λ o. cons_option o (filter_map f r.before)) none ∙ r.before_is;
            here_is = r.here_is;
            after_is = r.after_is;
          }
      by (Some z) some [] g later = record { before = []; here = x; after = xs; parts = refl; before_is = refl; here_is = some ∙ ap Some (first g); after_is = rest g }
        where
          first : z ∷ filter_map f xs ≡ y ∷ a → z ≡ y
          first g = cc

          rest : z ∷ filter_map f xs ≡ y ∷ a → filter_map f xs ≡ a
          rest g = cc
      by (Some z) some (v ∷ b) g later =
          let r = later b (rest g) in
          record {
            before = x ∷ r.before;
            here = r.here;
            after = r.after;
            parts = ap (λ l. x ∷ l) r.parts;
            before_is = ap (λ o. cons_option o (filter_map f r.before)) some ∙ ap (λ zs. z ∷ zs) r.before_is ∙ ap (λ q. q ∷ b) (first g);
            here_is = r.here_is;
            after_is = r.after_is;
          }
        where
          first : z ∷ filter_map f xs ≡ v ∷ (b ++ y ∷ a) → z ≡ v
          first g = cc

          rest : z ∷ filter_map f xs ≡ v ∷ (b ++ y ∷ a) → filter_map f xs ≡ b ++ y ∷ a
          rest g = cc

  -- a list in two parts
  pub record IsHalved (xs : List X) (b a : List Y) : Type 0 where
    pub before : List X
    pub after : List X
    pub parts : xs ≡ before ++ after
    pub before_is : filter_map f before ≡ b
    pub after_is : filter_map f after ≡ a

  pub halve : (xs : List X) (b a : List Y) → filter_map f xs ≡ b ++ a → IsHalved xs b a
  halve xs [] a e = record { before = []; after = xs; parts = refl; before_is = refl; after_is = e }
  halve xs (y ∷ b) a e =
      let s = split_filter xs [] y (b ++ a) e in
      let r = halve s.after b a s.after_is in
      record {
        before = s.before ++ s.here ∷ r.before;
        after = r.after;
        parts = s.parts ∙ ap (λ l. s.before ++ s.here ∷ l) r.parts ∙ sym (append_assoc s.before (s.here ∷ r.before) r.after);
        before_is = filter_on s.before (s.here ∷ r.before) ∙ ap (λ l. l ++ cons_option (f s.here) (filter_map f r.before)) s.before_is ∙ ap (λ o. cons_option o (filter_map f r.before)) s.here_is ∙ ap (λ l. y ∷ l) r.before_is;
        after_is = r.after_is;
      }

-- ---- deeds and steps

pub record Paired : Type 0 where
  pub dated : Dated
  pub step : Option Step

abbrev pub dated_of : List Paired → List Dated
dated_of ps = map (λ p. p.dated) ps

abbrev pub deeds_of : List Paired → List Happened
deeds_of ps = undated (dated_of ps)

abbrev pub timed_when : ℕ → Step → Timed
timed_when moment s = record { at = moment; step = s }

abbrev pub timed : Paired → Option Timed
timed p = option_map (timed_when p.dated.at) p.step

abbrev pub history_of : List Paired → List Timed
history_of ps = filter_map timed ps

abbrev pub stepped : Paired → Option Step
stepped p = p.step

pub dated_on : (xs ys : List Paired) → dated_of (xs ++ ys) ≡ dated_of xs ++ dated_of ys
dated_on [] ys = refl
dated_on (x ∷ xs) ys = ap (λ ts. x.dated ∷ ts) (dated_on xs ys)

pub undated_on : (xs ys : List Dated) → undated (xs ++ ys) ≡ undated xs ++ undated ys
undated_on [] ys = refl
undated_on (x ∷ xs) ys = ap (λ hs. x.happened ∷ hs) (undated_on xs ys)

pub all_handed_on : (xs ys : List Happened) → all_handed (xs ++ ys) ≡ all_handed xs ++ all_handed ys
all_handed_on [] ys = refl
all_handed_on (x ∷ xs) ys = ap (λ ds. handed_by x ++ ds) (all_handed_on xs ys) ∙ sym (append_assoc (handed_by x) (all_handed xs) (all_handed ys))

pub steps_are : (ps : List Paired) → untimed (history_of ps) ≡ filter_map stepped ps
steps_are [] = refl
steps_are (p ∷ ps) = by p.step ∙ ap (cons_option p.step) (steps_are ps)
  where
    by : (o : Option Step) → untimed (cons_option (option_map (timed_when p.dated.at) o) (history_of ps)) ≡ cons_option o (untimed (history_of ps))
    by None = refl
    by (Some s) = refl

pub reached_first : (w : World) (p : Paired) (rest : List Timed) → reached w (untimed (cons_option (timed p) rest)) ≡ reached (world_after w p.step) (untimed rest)
reached_first w p rest = by p.step
  where
    by : (o : Option Step) → reached w (untimed (cons_option (option_map (timed_when p.dated.at) o) rest)) ≡ reached (world_after w o) (untimed rest)
    by None = refl
    by (Some s) = refl

-- a life goes on from a deed
lives_sooner : (net : Network) (h : Happened) (order : List Happened) (daemons ends : ℕ → Option Machine) (node : Node) → slice_get net h.router ≡ Some node
    → (n : Machine) → Does (config_of node) (daemons h.router) h.deed.act h.deed.trace n → LiveOn net order (with_daemon daemons h.router n) ends → LiveOn net (h ∷ order) daemons ends
lives_sooner net h order daemons ends node is n does lives = λ router other other_is. by_test router other other_is (h.router == router) refl (lives router other other_is)
  where
    by_test : (router : ℕ) (other : Node) → slice_get net router ≡ Some other → (b : Bool) → (h.router == router) ≡ b
        → Lives (config_of other) (cond b (Some n) (daemons router)) (own_deeds router order) (ends router)
        → Lives (config_of other) (daemons router) (cons_option (cond b (Some h.deed) None) (own_deeds router order)) (ends router)
    by_test router other other_is false differ life = life
    by_test router other other_is true same life =
        let e : h.router ≡ router = eqb-true h.router router same in
        let nodes : node ≡ other = Some-same node other (sym is ∙ ap (slice_get net) e ∙ other_is) in (
          n,
          subst (λ r. Does (config_of other) (daemons r) h.deed.act h.deed.trace n) e (subst (λ x. Does (config_of x) (daemons h.router) h.deed.act h.deed.trace n) nodes does),
          life,
        )

-- ---- all of them

module _ (net : Network) (first : List Sent) (ends : ℕ → Option Machine) where
  -- a deed is that step, and daemons go on so
  pub record IsPair (daemons : ℕ → Option Machine) (handed_over : List Sent) (w : World) (p : Paired) (rest : List Paired) : Type 0 where
    pub node : Node
    pub node_is : slice_get net p.dated.happened.router ≡ Some node
    pub after : Machine
    pub does : Does (config_of node) (daemons p.dated.happened.router) p.dated.happened.deed.act p.dated.happened.deed.trace after
    pub given : IsNumbered net handed_over p.dated.happened.router (config_of node) p.dated.happened.deed.act p.dated.number
    pub is : IsStepOf net w (length first) p.dated.happened.router (daemons p.dated.happened.router) p.dated.happened.deed p.dated.number after p.step
    pub later : LiveOn net (deeds_of rest) (with_daemon daemons p.dated.happened.router after) ends

  abbrev pub ArePairs : (ℕ → Option Machine) → List Sent → List (ℕ × Change) → World → List Paired → Type 0
  ArePairs daemons handed_over done w [] = Agrees net first daemons handed_over done w × LiveOn net [] daemons ends
  ArePairs daemons handed_over done w (p ∷ ps) =
      (k : IsPair daemons handed_over w p ps) × Agrees net first daemons handed_over done w
      × ArePairs (with_daemon daemons p.dated.happened.router k.after) (handed_over ++ handed_by p.dated.happened) (done ++ change_done p.dated.happened.router p.dated.happened.deed) (world_after w p.step) ps

  pub agrees_here : (daemons : ℕ → Option Machine) (handed_over : List Sent) (done : List (ℕ × Change)) (w : World) (ps : List Paired) → ArePairs daemons handed_over done w ps
      → Agrees net first daemons handed_over done w
  agrees_here daemons handed_over done w [] are = are.0
  agrees_here daemons handed_over done w (p ∷ ps) are = are.1

  pub record IsPairing (history : List Dated) (daemons : ℕ → Option Machine) (handed_over : List Sent) (done : List (ℕ × Change)) (w : World) : Type 0 where
    pub pairs : List Paired
    pub are : ArePairs daemons handed_over done w pairs
    pub dated_are : dated_of pairs ≡ history

  pub pairing : (history : List Dated) (daemons : ℕ → Option Machine) (handed_over : List Sent) (done : List (ℕ × Change)) (w : World) → Agrees net first daemons handed_over done w
      → AllByRecursion (λ t. t.happened.router < length net) history → LiveOn net (undated history) daemons ends → AreNumbered net handed_over history
      → IsPairing history daemons handed_over done w
  pairing [] daemons handed_over done w agrees known lives given = record { pairs = []; are = (agrees, lives); dated_are = refl }
  pairing (t ∷ history) daemons handed_over done w agrees known lives given =
      let h = t.happened in
      let there = there_is net h.router known.0 in
      let later = lives_later net h (undated history) daemons ends there.0 there.1 lives in
      let number = given.0 there.0 there.1 in
      let one = done_on net first daemons handed_over done w agrees h.router there.0 there.1 (daemons h.router) refl h.deed.act t.number h.deed.trace later.0 later.1 number in
      let rest = pairing history (with_daemon daemons h.router later.0) (handed_over ++ handed_by h) (done ++ change_done h.router h.deed) (world_after w one.step) one.agrees known.1 later.2 given.1 in
      record {
        pairs = record { dated = t; step = one.step } ∷ rest.pairs;
        are = (
          record {
            node = there.0;
            node_is = there.1;
            after = later.0;
            does = later.1;
            given = number;
            is = one.is;
            later = subst (λ ts. LiveOn net (undated ts) (with_daemon daemons h.router later.0) ends) (sym rest.dated_are) later.2;
          },
          agrees,
          rest.are,
        );
        dated_are = ap (λ ts. t ∷ ts) rest.dated_are;
      }

  -- how daemons and world are between two of them
  pub record IsPoint (daemons : ℕ → Option Machine) (handed_over : List Sent) (w : World) (xs ys : List Paired) : Type 0 where
    pub now : ℕ → Option Machine
    pub changed : List (ℕ × Change)
    pub lives : LiveOn net (deeds_of xs) daemons now
    pub are : ArePairs now (handed_over ++ all_handed (deeds_of xs)) changed (reached w (untimed (history_of xs))) ys

  pub point : (xs ys : List Paired) (daemons : ℕ → Option Machine) (handed_over : List Sent) (done : List (ℕ × Change)) (w : World) → ArePairs daemons handed_over done w (xs ++ ys)
      → IsPoint daemons handed_over w xs ys
  point [] ys daemons handed_over done w are =
      record { now = daemons; changed = done; lives = λ router node is. refl; are = subst (λ hs. ArePairs daemons hs done w ys) (sym (append-nil handed_over)) are }
  point (x ∷ xs) ys daemons handed_over done w are =
      let h = x.dated.happened in
      let k = are.0 in
      let rest = point xs ys (with_daemon daemons h.router k.after) (handed_over ++ handed_by h) (done ++ change_done h.router h.deed) (world_after w x.step) are.2 in
      record {
        now = rest.now;
        changed = rest.changed;
        lives = lives_sooner net h (deeds_of xs) daemons rest.now k.node k.node_is k.after k.does rest.lives;
        are = subst (λ v. ArePairs rest.now (handed_over ++ all_handed (deeds_of (x ∷ xs))) rest.changed v ys) (sym (reached_first w x (history_of xs)))
            (subst (λ hs. ArePairs rest.now hs rest.changed (reached (world_after w x.step) (untimed (history_of xs))) ys) (append_assoc handed_over (handed_by h) (all_handed (deeds_of xs))) rest.are);
      }

-- ---- when they happen

pub happen_on : (ps : List Paired) (start until : ℕ) → start ≤ until → HappenFrom until (dated_of ps) → AreFrom start (history_of ps)
happen_on [] start until le is = tt
happen_on (p ∷ ps) start until le is = by p.step (happen_on ps p.dated.at p.dated.at (same p.dated.at) is.1) (happen_on ps start p.dated.at (up start until p.dated.at le is.0) is.1)
  where
    same : (n : ℕ) → n ≤ n
    same n = omega arith

    up : (a b c : ℕ) → a ≤ b → b ≤ c → a ≤ c
    up a b c e f = omega arith

    by : (o : Option Step) → AreFrom p.dated.at (history_of ps) → AreFrom start (history_of ps) → AreFrom start (cons_option (option_map (timed_when p.dated.at) o) (history_of ps))
    by None far near = near
    by (Some s) far near = (up start until p.dated.at le is.0, far)

-- what holds of the moments of all deeds holds of those of all steps
pub all_timed : (P : ℕ → Type 0) (ps : List Paired) → AllByRecursion (λ t. P t.at) (dated_of ps) → AllByRecursion (λ t. P t.at) (history_of ps)
all_timed P [] all = tt
all_timed P (p ∷ ps) all = by p.step (all_timed P ps all.1)
  where
    by : (o : Option Step) → AllByRecursion (λ t. P t.at) (history_of ps) → AllByRecursion (λ t. P t.at) (cons_option (option_map (timed_when p.dated.at) o) (history_of ps))
    by None rest = rest
    by (Some s) rest = (all.0, rest)

-- the deeds up to steps that happened by a moment
pub record IsOld (delay by : ℕ) (ps : List Paired) (old new : List Timed) : Type 0 where
  pub before : List Paired
  pub after : List Paired
  pub parts : ps ≡ before ++ after
  pub before_is : history_of before ≡ old
  pub old_are : AllByRecursion (λ t. t.at + delay ≤ by) (dated_of before)

pub old_deeds : (delay by start : ℕ) (ps : List Paired) (old new : List Timed) → history_of ps ≡ old ++ new → HappenFrom start (dated_of ps) → AllByRecursion (λ t. t.at + delay ≤ by) old
    → IsOld delay by ps old new
old_deeds delay by start ps [] new e from all = record { before = []; after = ps; parts = refl; before_is = refl; old_are = tt }
old_deeds delay by start [] (o ∷ old) new e from all = absurd (cc)
old_deeds delay by start (p ∷ ps) (o ∷ old) new e from all =
    of_step p.step refl e (happen_on ps p.dated.at p.dated.at (same p.dated.at) from.1) (λ xs g a. old_deeds delay by p.dated.at ps xs new g from.1 a)
  where
    same : (n : ℕ) → n ≤ n
    same n = omega arith

    down : (a b : ℕ) → a ≤ b → b + delay ≤ by → a + delay ≤ by
    down a b f g = omega arith

    of_step : (s : Option Step) → p.step ≡ s → cons_option (option_map (timed_when p.dated.at) s) (history_of ps) ≡ o ∷ old ++ new → AreFrom p.dated.at (history_of ps)
        → ((xs : List Timed) → history_of ps ≡ xs ++ new → AllByRecursion (λ t. t.at + delay ≤ by) xs → IsOld delay by ps xs new) → IsOld delay by (p ∷ ps) (o ∷ old) new
    of_step None none g far later =
        let r = later (o ∷ old) g all in
        let first : AreFrom p.dated.at (o ∷ old ++ new) = subst (AreFrom p.dated.at) g far in
        record {
          before = p ∷ r.before;
          after = r.after;
          parts = ap (λ l. p ∷ l) r.parts;
          before_is = ap (λ s. cons_option (option_map (timed_when p.dated.at) s) (history_of r.before)) none ∙ r.before_is;
          old_are = (down p.dated.at o.at first.0 all.0, r.old_are);
        }
    of_step (Some s) some g far later =
        let r = later old (rest g) all.1 in
        record {
          before = p ∷ r.before;
          after = r.after;
          parts = ap (λ l. p ∷ l) r.parts;
          before_is = ap (λ s. cons_option (option_map (timed_when p.dated.at) s) (history_of r.before)) some ∙ ap (λ l. timed_when p.dated.at s ∷ l) r.before_is ∙ ap (λ x. x ∷ old) (head g);
          old_are = (subst (λ (x : Timed). x.at + delay ≤ by) (sym (head g)) all.0, r.old_are);
        }
      where
        head : timed_when p.dated.at s ∷ history_of ps ≡ o ∷ (old ++ new) → timed_when p.dated.at s ≡ o
        head g = cc

        rest : timed_when p.dated.at s ∷ history_of ps ≡ o ∷ (old ++ new) → history_of ps ≡ old ++ new
        rest g = cc
