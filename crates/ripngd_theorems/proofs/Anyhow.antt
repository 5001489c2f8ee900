-- Daemons that go on, over links that are on time, as healing asks of them, do all that forgetting asks.
use Rattle.std.proofs.Common.{◌≡◌, ◌⊎◌, inl, inr, ℕ, zero, suc, ◌+◌, ◌-◌, ◌^◌, ◌<◌, ◌≤◌, List, [], ◌∷◌, ◌++◌, length, Contains, Option, Some, None, slice_get, refl, sym, subst, ◌∙◌, arith, le_refl, le_trans, append_assoc}
use Rattle.std.specs.List.{AllByRecursion}
use Rattle.route_table.proofs.TableLaws.{Some-same, None-Some}
use Rattle.router_core.specs.Config.{Config}
use Rattle.ripng_world.specs.Network.{Network, Node, config_of}
use Rattle.ripng_world.proofs.Each.{each_at_place, each_weaker}
use Rattle.ripng_world.proofs.Members.{At, at_from_contains, at_left, at_right, split_at}
use Rattle.ripng_phases.proofs.Along.{contains_from}
use Rattle.ripngd_engine.specs.Run.{Machine}
use Rattle.ripngd_theorems.specs.Ages.{GoOnAnyhow, IsAwake, IsLook, KeepsTick, LivesTicking}
use Rattle.ripngd_theorems.specs.Daemons.{Act, Start, Listen, Tick, Reconfigure, Shutdown, LinkDown, LinkUp, Ask, Refuse, Deed, Happened, Lives, own_deeds}
use Rattle.ripngd_theorems.specs.OnTime.{AreOnTime, Dated, GoOn, HappenFrom, IsTickIn, undated}
use Rattle.ripngd_theorems.proofs.Lossless.{ArePlain, does_from, lives_from, lives_to, plain_own}
use Rattle.ripngd_theorems.proofs.Places.{plain_deeds}

-- a life in which no step is lost
kept : (m n : Machine) (act : Act) → n.lost_memory ≡ m.lost_memory → m.lost_memory < 2 ^ 64 - 1 → KeepsTick (Some m) act n
kept m n Tick same room = (omega arith, room)
kept m n Start same room = tt
kept m n (Listen call) same room = tt
kept m n (Reconfigure c) same room = tt
kept m n Shutdown same room = tt
kept m n (LinkDown on) same room = tt
kept m n (LinkUp on) same room = tt
kept m n (Ask on) same room = tt
kept m n Refuse same room = tt

ticking : (config : Config) (deeds : List Deed) (m n : Machine) → ArePlain deeds → n.lost_memory ≡ m.lost_memory → m.lost_memory < 2 ^ 64 - 1 → Lives config (Some m) deeds (Some n) → LivesTicking config (Some m) deeds (Some n)
ticking config [] m n plain same room lives = lives
ticking config (d ∷ deeds) m n plain same room lives =
    let was = does_from config d.act (Some m) d.trace lives.0 plain.0 lives.1 in
    let up : m.lost_memory ≤ lives.0.lost_memory = subst (λ (x : Machine). x.lost_memory ≤ lives.0.lost_memory) (sym (Some-same m was.was was.was_up)) was.fewer in
    let later = lives_from config deeds (Some lives.0) n plain.1 lives.2 in
    let more : lives.0.lost_memory ≤ n.lost_memory = subst (λ (x : Machine). x.lost_memory ≤ n.lost_memory) (sym (Some-same lives.0 later.was later.was_up)) later.fewer in
    let here : lives.0.lost_memory ≡ m.lost_memory = middle m.lost_memory lives.0.lost_memory n.lost_memory up more same in
    (lives.0, lives.1, kept m lives.0 d.act here room, ticking config deeds lives.0 n plain.1 (same ∙ sym here) (subst (λ k. k < 2 ^ 64 - 1) (sym here) room) lives.2)
  where
    middle : (a b c : ℕ) → a ≤ b → b ≤ c → c ≡ a → b ≡ a
    middle a b c e f g = omega arith

-- where nothing is done
ticking_none : (config : Config) (deeds : List Deed) (before after : Option Machine) → ArePlain deeds → before ≡ None → Lives config before deeds after → LivesTicking config before deeds after
ticking_none config [] before after plain down lives = lives
ticking_none config (d ∷ deeds) before after plain down lives =
    let was = does_from config d.act before d.trace lives.0 plain.0 lives.1 in
    absurd (None-Some was.was (sym down ∙ was.was_up))

-- of two deeds the first is no later
ordered : (start : ℕ) (xs : List Dated) (s : Dated) (ys : List Dated) (t : Dated) (zs : List Dated) → HappenFrom start (xs ++ s ∷ (ys ++ t ∷ zs)) → s.at ≤ t.at
ordered start [] s ys t zs is = go s.at ys is.1
  where
    go : (from : ℕ) (ys : List Dated) → HappenFrom from (ys ++ t ∷ zs) → from ≤ t.at
    go from [] is = is.0
    go from (y ∷ ys) is = le_trans is.0 (go y.at ys is.1)
ordered start (x ∷ xs) s ys t zs is = ordered x.at xs s ys t zs is.1

no_sooner : (start : ℕ) (xs : List Dated) (t : Dated) (zs : List Dated) → HappenFrom start (xs ++ t ∷ zs) → (k : Dated) → At zs k → t.at ≤ k.at
no_sooner start [] t zs is k a = go t.at zs is.1 a.0 a.1
  where
    go : (from : ℕ) (ys : List Dated) → HappenFrom from ys → (i : ℕ) → slice_get ys i ≡ Some k → from ≤ k.at
    go from [] is i e = absurd (None-Some k e)
    go from (y ∷ ys) is i e = by i e (λ j f. go y.at ys is.1 j f)
      where
        by : (i : ℕ) → slice_get (y ∷ ys) i ≡ Some k → ((j : ℕ) → slice_get ys j ≡ Some k → y.at ≤ k.at) → from ≤ k.at
        by zero e later = subst (λ (d : Dated). from ≤ d.at) (Some-same y k e) is.0
        by (suc i) e later = le_trans is.0 (later i e)
no_sooner start (x ∷ xs) t zs is k a = no_sooner x.at xs t zs is.1 k a

module _ (net : Network) (before : List Happened) (daemons : ℕ → Option Machine) (history : List Dated) (start end : ℕ) (daemons' : ℕ → Option Machine)
    (go : GoOn net before daemons history start end daemons') (on_time : AreOnTime net before daemons history start end) where
  in_list : (a : List Dated) (t : Dated) (b : List Dated) → history ≡ a ++ t ∷ b → Contains history t
  in_list a t b is = contains_from history t (subst (λ xs. At xs t) (sym is) (at_right a (t ∷ b) t (0, refl)))

  lives : (router : ℕ) (node : Node) → slice_get net router ≡ Some node → LivesTicking (config_of node) (daemons router) (own_deeds router (undated history)) (daemons' router)
  lives router node is = by (daemons router) refl (daemons' router) refl (go.lives router node is)
    where
      plain : ArePlain (own_deeds router (undated history))
      plain = plain_own router (undated history) (plain_deeds history go.plain)

      within : (xs : List Node) (i : ℕ) (x : Node) → slice_get xs i ≡ Some x → i < length xs
      within [] i x e = absurd (None-Some x e)
      within (y ∷ xs) zero x e = omega arith
      within (y ∷ xs) (suc i) x e = let l = within xs i x e in omega (arith, l)

      by : (a : Option Machine) → daemons router ≡ a → (b : Option Machine) → daemons' router ≡ b → Lives (config_of node) (daemons router) (own_deeds router (undated history)) (daemons' router)
          → LivesTicking (config_of node) (daemons router) (own_deeds router (undated history)) (daemons' router)
      by None down b is' l = ticking_none (config_of node) (own_deeds router (undated history)) (daemons router) (daemons' router) plain down l
      by (Some m) up b is' l =
          let x = lives_to (config_of node) (own_deeds router (undated history)) m (daemons' router) plain (subst (λ o. Lives (config_of node) o (own_deeds router (undated history)) (daemons' router)) up l) in
          let counts = go.lossless router m x.end (within net router node is) up x.is_up in
          subst (λ o. LivesTicking (config_of node) o (own_deeds router (undated history)) (daemons' router)) (sym up)
          (subst (LivesTicking (config_of node) (Some m) (own_deeds router (undated history))) (sym x.is_up)
          (ticking (config_of node) (own_deeds router (undated history)) m x.end plain counts.0 counts.1
          (subst (Lives (config_of node) (Some m) (own_deeds router (undated history))) x.is_up (subst (λ o. Lives (config_of node) o (own_deeds router (undated history)) (daemons' router)) up l))))

  awake : (a : List Dated) (t : Dated) (b : List Dated) → history ≡ a ++ t ∷ b → start + 1_000 ≤ t.at → IsAwake (a ++ t ∷ []) t.happened.router t.at
  awake a t b is far =
      let c = in_list a t b is in
      let at = at_from_contains history t c in
      let low = each_at_place (λ (d : Dated). d.happened.router < length net) history go.known at.0 t at.1 in
      let soon = each_at_place (λ (d : Dated). d.at < end) history go.ended at.0 t at.1 in
      let k = go.ticks t.happened.router (t.at - 500) low (begun start t.at far) (room start t.at end far soon) in
      let s = at_from_contains history k.tick k.stands in
      by k (split_at a (t ∷ b) s.0 k.tick (subst (λ xs. slice_get xs s.0 ≡ Some k.tick) is s.1))
    where
      begun : (s t : ℕ) → s + 1_000 ≤ t → s ≤ t - 500
      begun s t e = omega arith

      room : (s t e : ℕ) → s + 1_000 ≤ t → t < e → t - 500 + 500 ≤ e
      room s t e f g = omega arith

      never : (s t k : ℕ) → s + 1_000 ≤ t → k < t - 500 + 500 → t ≤ k → ⊥
      never s t k f g h = omega arith

      look_of : (act : Act) → act ≡ Tick → IsLook act
      look_of act e = subst IsLook (sym e) tt

      by : (k : IsTickIn history t.happened.router (t.at - 500) (t.at - 500 + 500)) → At a k.tick ⊎ At (t ∷ b) k.tick → IsAwake (a ++ t ∷ []) t.happened.router t.at
      by k (inl x) =
          record {
            look = k.tick;
            stands = contains_from (a ++ t ∷ []) k.tick (at_left a (t ∷ []) k.tick x);
            router_is = k.router_is;
            looks = look_of k.tick.happened.deed.act k.ticks;
            late = (let e = far in let f = k.not_before in omega arith);
          }
      by k (inr x) = absurd (never start t.at k.tick.at far k.in_time (not_before x.0 x.1))
        where
          not_before : (i : ℕ) → slice_get (t ∷ b) i ≡ Some k.tick → t.at ≤ k.tick.at
          not_before zero e = subst (λ (d : Dated). t.at ≤ d.at) (Some-same t k.tick e) (le_refl t.at)
          not_before (suc i) e = no_sooner start a t b (subst (HappenFrom start) is go.in_time) k.tick (i, e)

  pub goes_anyhow : GoOnAnyhow net before daemons history start daemons'
  goes_anyhow =
      record {
        known = go.known;
        lives = lives;
        given = go.given;
        in_time = go.in_time;
        recent = λ old new t b is far all number number_is.
            on_time.recent old new t b is (sooner _ start t.at far (omega arith)) (all_sooner _ t.at old all (omega arith)) number number_is;
        awake = awake;
        clocks = λ a s b t c is same up x y x_in y_in.
            let first = (go.clocks t.happened.router).moments s x (in_list a s (b ++ t ∷ c) is) same x_in in
            let then = (go.clocks t.happened.router).moments t y (in_list (a ++ s ∷ b) t c (is ∙ sym (append_assoc a (s ∷ b) (t ∷ c)))) refl y_in in
            let le = ordered start a s b t c (subst (HappenFrom start) is go.in_time) in
            let e = first.0 in let f = then.1 in omega arith;
        since = λ b t c is up m m_is y y_in.
            let then = (go.clocks t.happened.router).moments t y (in_list b t c is) refl y_in in
            let le = begun t (at_from_contains history t (in_list b t c is)) in
            let e = (go.clocks t.happened.router).before m m_is in let f = then.1 in omega arith;
      }
    where
      sooner : (d s t : ℕ) → s + d ≤ t → 13_000 ≤ d → s + 13_000 ≤ t
      sooner d s t e f = omega arith

      all_sooner : (d t : ℕ) (old : List Dated) → AllByRecursion (λ (s : Dated). s.at + d ≤ t) old → 13_000 ≤ d → AllByRecursion (λ (s : Dated). s.at + 13_000 ≤ t) old
      all_sooner d t old all e = each_weaker (λ (s : Dated). s.at + 13_000 ≤ t) (λ (s : Dated). s.at + d ≤ t) (λ s f. sooner d s.at t f e) old all

      begun : (t : Dated) → At history t → start ≤ t.at
      begun t a = from start history go.in_time a.0 a.1
        where
          from : (s : ℕ) (xs : List Dated) → HappenFrom s xs → (i : ℕ) → slice_get xs i ≡ Some t → s ≤ t.at
          from s [] is i e = absurd (None-Some t e)
          from s (x ∷ xs) is zero e = subst (λ (d : Dated). s ≤ d.at) (Some-same x t e) is.0
          from s (x ∷ xs) is (suc i) e = le_trans is.0 (from x.at xs is.1 i e)
