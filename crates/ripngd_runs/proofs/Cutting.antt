-- A network of daemons, until one of them has done so much of its life.
use Rattle.std.proofs.Common.{◌≡◌, ℕ, ◌<◌, ◌==◌, Bool, true, false, cond, List, [], ◌∷◌, ◌++◌, length, Option, Some, None, slice_get, refl, ap, subst, ◌∙◌}
use Rattle.std.specs.List.{AllByRecursion, cons_option}
use Rattle.route_table.proofs.TableLaws.{Some-same, None-Some}
use Rattle.router_core.specs.Config.{Config}
use Rattle.router_core.specs.declared.reconfiguring.Change.{Change}
use Rattle.ripng_world.specs.Network.{Network, Node, config_of}
use Rattle.ripng_world.specs.declared.event.Sent.{Sent}
use Rattle.ripngd_engine.specs.Run.{Machine}
use Rattle.ripngd_theorems.specs.Daemons.{Deed, Happened, Lives, own_deeds, reconfiguration_by, reconfigurations_by}
use Rattle.ripngd_theorems.specs.Links.{AreGiven, HaveRun, handed_by}
use Rattle.ripngd_runs.proofs.Weaving.{put_at, at_each}

-- ---- lists

own-append : (router : ℕ) (xs ys : List Happened) → own_deeds router (xs ++ ys) ≡ own_deeds router xs ++ own_deeds router ys
own-append router [] ys = refl
own-append router (h ∷ xs) ys = ap (cons_option (cond (h.router == router) (Some h.deed) None)) (own-append router xs ys) ∙ by (h.router == router)
  where
    by : (b : Bool) → cons_option (cond b (Some h.deed) None) (own_deeds router xs ++ own_deeds router ys) ≡ cons_option (cond b (Some h.deed) None) (own_deeds router xs) ++ own_deeds router ys
    by true = refl
    by false = refl

pub reconfigurations-append : (xs ys : List Happened) → reconfigurations_by (xs ++ ys) ≡ reconfigurations_by xs ++ reconfigurations_by ys
reconfigurations-append [] ys = refl
reconfigurations-append (h ∷ xs) ys = ap (cons_option (reconfiguration_by h)) (reconfigurations-append xs ys) ∙ by (reconfiguration_by h)
  where
    by : (o : Option (ℕ × Change)) → cons_option o (reconfigurations_by xs ++ reconfigurations_by ys) ≡ cons_option o (reconfigurations_by xs) ++ reconfigurations_by ys
    by None = refl
    by (Some c) = refl

known_first : (net : Network) (xs ys : List Happened) → AllByRecursion (λ h. h.router < length net) (xs ++ ys) → AllByRecursion (λ h. h.router < length net) xs
known_first net [] ys known = tt
known_first net (h ∷ xs) ys known = (known.0, known_first net xs ys known.1)

given_first : (net : Network) (handed : List Sent) (xs ys : List Happened) → AreGiven net handed (xs ++ ys) → AreGiven net handed xs
given_first net handed [] ys given = tt
given_first net handed (h ∷ xs) ys given = (given.0, given_first net (handed ++ handed_by h) xs ys given.1)

-- until then it is something
lived_first : (config : Config) (before : Option Machine) (xs ys : List Deed) (after : Option Machine) → Lives config before (xs ++ ys) after → (mid : Option Machine) × Lives config before xs mid
lived_first config before [] ys after lives = (before, refl)
lived_first config before (d ∷ xs) ys after lives = let rest = lived_first config (Some lives.0) xs ys after lives.2 in (rest.0, (lives.0, lives.1, rest.1))

-- ---- where to cut

-- the deeds up to that by which a router has done so many of its own
pub record IsCut (router : ℕ) (order : List Happened) (early : List Deed) : Type 0 where
  pub first : List Happened
  pub later : List Happened
  pub order_is : order ≡ first ++ later
  pub own : own_deeds router first ≡ early

pub cut : (router : ℕ) (order : List Happened) (early late : List Deed) → own_deeds router order ≡ early ++ late → IsCut router order early
cut router order [] late e = record { first = []; later = order; order_is = refl; own = refl }
cut router [] (d ∷ early) late e = absurd (cc e)
cut router (h ∷ order) (d ∷ early) late e = by_test (h.router == router) refl e (λ more rest e'. cut router order more rest e')
  where
    by_test : (b : Bool) → (h.router == router) ≡ b → cons_option (cond b (Some h.deed) None) (own_deeds router order) ≡ (d ∷ early) ++ late
        → ((more rest : List Deed) → own_deeds router order ≡ more ++ rest → IsCut router order more) → IsCut router (h ∷ order) (d ∷ early)
    by_test true same e next =
        let head : h.deed ≡ d = cc e in
        let tail : own_deeds router order ≡ early ++ late = cc e in
        let c = next early late tail in
        record {
          first = h ∷ c.first;
          later = c.later;
          order_is = ap (λ x. h ∷ x) c.order_is;
          own = ap (λ b. cons_option (cond b (Some h.deed) None) (own_deeds router c.first)) same ∙ ap (λ x. h.deed ∷ x) c.own ∙ ap (λ x. x ∷ early) head;
        }
    by_test false differ e next =
        let c = next (d ∷ early) late e in
        record {
          first = h ∷ c.first;
          later = c.later;
          order_is = ap (λ x. h ∷ x) c.order_is;
          own = ap (λ b. cons_option (cond b (Some h.deed) None) (own_deeds router c.first)) differ ∙ c.own;
        }

-- ---- the network until then

-- of each node that is there, one of these
abbrev chosen : (o : Option Node) → ((node : Node) → o ≡ Some node → Option Machine) → Option Machine
chosen None f = None
chosen (Some node) f = f node refl

chosen_lives : (xs : List Deed) (o : Option Node) (f : (node : Node) → o ≡ Some node → (mid : Option Machine) × Lives (config_of node) None xs mid) (node : Node) → o ≡ Some node
    → Lives (config_of node) None xs (chosen o (λ n is. (f n is).0))
chosen_lives xs None f node is = absurd (None-Some node is)
chosen_lives xs (Some other) f node is = subst (λ n. Lives (config_of n) None xs (f other refl).0) (Some-same other node is) (f other refl).1

-- the network ran until then, and the router was this
pub ran_until : (net : Network) (first later : List Happened) (ends : ℕ → Option Machine) (router : ℕ) (m : Machine) → HaveRun net (first ++ later) ends
    → ((node : Node) → slice_get net router ≡ Some node → Lives (config_of node) None (own_deeds router first) (Some m))
    → (daemons : ℕ → Option Machine) × HaveRun net first (put_at daemons router (Some m))
ran_until net first later ends router m ran lives = (
  (λ other. chosen (slice_get net other) (λ node is. (parted other node is).0)),
  record {
    zoned = ran.zoned;
    known = known_first net first later ran.known;
    lives = λ other node is.
        at_each (λ (o : ℕ) (x : Option Machine). (n : Node) → slice_get net o ≡ Some n → Lives (config_of n) None (own_deeds o first) x)
        (λ o. chosen (slice_get net o) (λ n e. (parted o n e).0)) router (Some m) lives other
        (λ n e. chosen_lives (own_deeds other first) (slice_get net other) (parted other) n e) node is;
    given = given_first net [] first later ran.given;
  },
)
  where
    parted : (other : ℕ) (node : Node) → slice_get net other ≡ Some node → (mid : Option Machine) × Lives (config_of node) None (own_deeds other first) mid
    parted other node is =
        lived_first (config_of node) None (own_deeds other first) (own_deeds other later) (ends other)
        (subst (λ ds. Lives (config_of node) None ds (ends other)) (own-append other first later) (ran.lives other node is))
