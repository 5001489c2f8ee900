-- A history that meets `GoOnAnyhow`, worked out: the daemons of `TwoDaemons`, from no daemon on. The first answers the Request of the
-- second. After 50 seconds the second starts anew, and its clock with it; the clock of the first has lost 100 milliseconds. The update
-- that the first then sends comes to the second, as nothing that was handed over before may any more, and the second holds its route.
use Rattle.std.proofs.Common.{◌≡◌, ℕ, zero, suc, ◌+◌, ◌-◌, ◌<◌, ◌≤◌, List, [], ◌∷◌, ◌++◌, length, take, Contains, Option, Some, None, slice_get, slice_index_or, refl, sym, subst, arith}
use Rattle.std.specs.FinMap as map_of
use Rattle.std.specs.List.{AllByRecursion}
use Rattle.rand_core.specs.Stream.{Stream}
use Rattle.route_table.proofs.TableLaws.{Some-same, None-Some}
use Rattle.fib.specs.declared.change.Hop.TheVariants.{Direct, Via}
use Rattle.router_core.specs.Owning.{owned_route}
use Rattle.router_core.specs.Timers.{next_regular}
use Rattle.ripng_world.specs.Network.{Node, config_of}
use Rattle.ripng_world.specs.World.{sent_by}
use Rattle.ripng_phases.proofs.EachPlace.{AtEachPlace, at_each_place, front_is}
use Rattle.ripngd_engine.specs.Link.{Gave}
use Rattle.ripngd_engine.specs.Run.{Machine, Trace, followed_by, one_call}
use Rattle.ripngd_theorems.specs.Ages.{GoOnAnyhow, IsAwake, LivesTicking, StaysUp}
use Rattle.ripngd_theorems.specs.Daemons.{Act, Start, Listen, Tick, own_deeds}
use Rattle.ripngd_theorems.specs.Links.{all_handed}
use Rattle.ripngd_theorems.specs.OnTime.{AreNumbered, Dated, undated}
use Rattle.ripngd_theorems.proofs.TwoDaemons.{doc, owned, local, nodes, one_route, learned, told_once, request, install_own, get_one, fits_doc, one_entry, owner_is, learner_is, learner_with, word_of, left, sends, sends_update, owner_up, learner_up, update, ticks, request_given, update_given, request_copied, update_copied, answers, takes_request, learns, takes_update}

-- ---- the deeds

abbrev dated : ℕ → ℕ → Act → Trace → Option ℕ → Dated
dated at router act trace number = record { at = at; happened = record { router = router; deed = record { act = act; trace = trace } }; number = number }

abbrev first_up : Dated
first_up = dated 0 0 Start (sends request 0 install_own) None

abbrev second_up : Dated
second_up = dated 100 1 Start (sends request 100 []) None

abbrev asked : Dated
asked = dated 200 0 (Listen (Gave request_given)) (followed_by (one_call (Gave request_given)) (answers 200)) (Some 1)

abbrev anew : Dated
anew = dated 50_000 1 Start (sends request 0 []) None

abbrev tells : Dated
tells = dated 50_100 0 Tick (sends_update (update (owned_route 0)) 50_000) None

abbrev told : Dated
told = dated 50_200 1 (Listen (Gave update_given)) (followed_by (one_call (Gave update_given)) (learns 200)) (Some 4)

abbrev poisons : Dated
poisons = dated 50_300 1 Tick (sends_update (update (learned 200)) 300) None

abbrev until_told : List Dated
until_told = first_up ∷ second_up ∷ asked ∷ anew ∷ tells ∷ []

abbrev pub history : List Dated
history = first_up ∷ second_up ∷ asked ∷ anew ∷ tells ∷ told ∷ poisons ∷ []

-- ---- the daemons

abbrev no_daemon : ℕ → Option Machine
no_daemon router = None

module _ (stream : Stream) where
  abbrev pub daemons : ℕ → Option Machine
  daemons zero = Some (owner_is 50_000 (next_regular 50_000 (word_of stream)) 0 (left stream))
  daemons (suc zero) = Some (learner_with (told_once (learned 200)) 300 (next_regular 300 (word_of stream)) 0 (left stream))
  daemons (suc (suc n)) = None

  lives : (router : ℕ) (node : Node) → slice_get nodes router ≡ Some node → LivesTicking (config_of node) None (own_deeds router (undated history)) (daemons router)
  lives zero node is =
      subst (λ (node : Node). LivesTicking (config_of node) None (own_deeds 0 (undated history)) (daemons 0)) (Some-same _ node is) (
        owner_is 0 0 0 stream,
        (stream, owner_up stream 0),
        tt,
        (
          owner_is 200 0 0 stream,
          (refl, (answers 200, takes_request 0 0 0 200 stream, refl)),
          tt,
          (
            owner_is 50_000 (next_regular 50_000 (word_of stream)) 0 (left stream),
            (refl, ticks 1 owned (owned_route 0) 200 0 0 50_000 (one_entry Direct 1) stream refl refl refl (fits_doc 0 1 (omega arith) (omega arith))),
            (refl, omega arith),
            refl,
          ),
        ),
      )
  lives (suc zero) node is =
      subst (λ (node : Node). LivesTicking (config_of node) None (own_deeds 1 (undated history)) (daemons 1)) (Some-same _ node is) (
        learner_is 100 100 100 stream,
        (stream, learner_up stream 100),
        tt,
        (
          learner_is 0 0 0 stream,
          (stream, learner_up stream 0),
          tt,
          (
            learner_with (learned 200) 200 0 0 stream,
            (refl, (learns 200, takes_update 0 0 0 200 stream, refl)),
            tt,
            (
              learner_with (told_once (learned 200)) 300 (next_regular 300 (word_of stream)) 0 (left stream),
              (refl, ticks 2 [] (learned 200) 200 0 0 300 (one_entry (Via 0 (local 1)) 2) stream refl refl refl (fits_doc 0 16 (omega arith) (omega arith))),
              (refl, omega arith),
              refl,
            ),
          ),
        ),
      )
  lives (suc (suc n)) node is = absurd (None-Some node is)

-- ---- the rules

given : AreNumbered nodes [] history
given = (
  λ node is. tt,
  (
    λ node is. tt,
    (
      λ node is. (sent_by 1 request, refl, request_copied),
      (λ node is. tt, (λ node is. tt, (λ node is. (sent_by 0 (update (owned_route 0)), refl, update_copied), (λ node is. tt, tt)))),
    ),
  ),
)

-- 15 seconds before, at most three datagrams had been handed over; what comes has number 4
few : (n : ℕ) → AllByRecursion (λ s. s.at + 15_000 ≤ 50_200) (take n until_told) → length (all_handed (undated (take n until_told))) ≤ 4
few zero all = omega arith
few (suc zero) all = omega arith
few (suc (suc zero)) all = omega arith
few (suc (suc (suc zero))) all = omega arith
few (suc (suc (suc (suc n)))) all = absurd (not_so all.1.1.1.0)
  where
    not_so : 50_000 + 15_000 ≤ 50_200 → ⊥
    not_so le = omega arith

abbrev IsRecent : List Dated → Dated → Type 0
IsRecent before t =
    0 + 15_000 ≤ t.at → (old new : List Dated) → before ≡ old ++ new → AllByRecursion (λ s. s.at + 15_000 ≤ t.at) old
    → (number : ℕ) → t.number ≡ Some number → length (all_handed (undated old)) ≤ number

recent : (old new : List Dated) (t : Dated) (b : List Dated) → history ≡ (old ++ new) ++ t ∷ b → 0 + 15_000 ≤ t.at → AllByRecursion (λ s. s.at + 15_000 ≤ t.at) old
    → (number : ℕ) → t.number ≡ Some number → length (all_handed (undated old)) ≤ number
recent old new t b parts late all = at_each_place (λ before t after. IsRecent before t) history each (old ++ new) t b parts late old new refl all
  where
    each : AtEachPlace (λ before t after. IsRecent before t) history
    each = (
      λ late old new parts all number is. absurd (None-Some number is),
      (
        λ late old new parts all number is. absurd (None-Some number is),
        (
          λ late old new parts all number is. absurd (omega arith),
          (
            λ late old new parts all number is. absurd (None-Some number is),
            (
              λ late old new parts all number is. absurd (None-Some number is),
              (
                λ late old new parts all number is.
                    let front = front_is until_told old new parts in
                    subst (λ n. length (all_handed (undated old)) ≤ n) (Some-same 4 number is)
                    (subst (λ xs. length (all_handed (undated xs)) ≤ 4) front (few (length old) (subst (AllByRecursion (λ s. s.at + 15_000 ≤ 50_200)) (sym front) all))),
                (λ late old new parts all number is. absurd (None-Some number is), tt),
              ),
            ),
          ),
        ),
      ),
    )

awake : (a : List Dated) (t : Dated) (b : List Dated) → history ≡ a ++ t ∷ b → 0 + 1_000 ≤ t.at → IsAwake (a ++ t ∷ []) t.happened.router t.at
awake =
    at_each_place (λ a t b. 0 + 1_000 ≤ t.at → IsAwake (a ++ t ∷ []) t.happened.router t.at) history (
      λ late. absurd (omega arith),
      (
        λ late. absurd (omega arith),
        (
          λ late. absurd (omega arith),
          (
            λ late. record { look = anew; stands = (3, omega arith, refl); router_is = refl; looks = tt; late = omega arith },
            (
              λ late. record { look = tells; stands = (4, omega arith, refl); router_is = refl; looks = tt; late = omega arith },
              (
                λ late. record { look = anew; stands = (3, omega arith, refl); router_is = refl; looks = tt; late = omega arith },
                (λ late. record { look = poisons; stands = (6, omega arith, refl); router_is = refl; looks = tt; late = omega arith }, tt),
              ),
            ),
          ),
        ),
      ),
    )

-- the clock at the second of two deeds of a daemon, unless it started anew between them
abbrev ClockGoesOn : Dated → List Dated → Dated → Type 0
ClockGoesOn s between t =
    s.happened.router ≡ t.happened.router → StaysUp t.happened.router (between ++ t ∷ [])
    → (x y : ℕ) → Contains s.happened.deed.trace.moments x → Contains t.happened.deed.trace.moments y → x + (t.at - s.at) ≤ y + 1_000

only : (m x : ℕ) → Contains (m ∷ []) x → m ≡ x
only m x c = by_place c.0 c.1 c.2
  where
    by_place : (k : ℕ) → k < 1 → slice_index_or (m ∷ []) k x ≡ x → m ≡ x
    by_place zero lt is = is
    by_place (suc k) lt is = absurd (omega arith)

goes_on : (m k passed x y : ℕ) → m + passed ≤ k + 1_000 → Contains (m ∷ []) x → Contains (k ∷ []) y → x + passed ≤ y + 1_000
goes_on m k passed x y le at_first at_second = let a = only m x at_first in let b = only k y at_second in omega arith

clocks : (a : List Dated) (s : Dated) (b : List Dated) (t : Dated) (c : List Dated) → history ≡ a ++ s ∷ (b ++ t ∷ c) → ClockGoesOn s b t
clocks a s b t c parts =
    at_each_place (λ b t c. ClockGoesOn s b t) (b ++ t ∷ c)
    (at_each_place (λ a s rest. AtEachPlace (λ b t c. ClockGoesOn s b t) rest) history each a s (b ++ t ∷ c) parts)
    b t c refl
  where
    each : AtEachPlace (λ a s rest. AtEachPlace (λ b t c. ClockGoesOn s b t) rest) history
    each = (
      (
        λ same. absurd (omega arith),
        (
          λ same up x y p q. goes_on 0 200 200 x y (omega arith) p q,
          (λ same. absurd (omega arith), (λ same up x y p q. goes_on 0 50_000 50_100 x y (omega arith) p q, (λ same. absurd (omega arith), (λ same. absurd (omega arith), tt)))),
        ),
      ),
      (
        (
          λ same. absurd (omega arith),
          (
            λ same up. absurd (up.1.0 refl tt),
            (λ same. absurd (omega arith), (λ same up. absurd (up.1.0 refl tt), (λ same up. absurd (up.1.0 refl tt), tt))),
          ),
        ),
        (
          (λ same. absurd (omega arith), (λ same up x y p q. goes_on 200 50_000 49_900 x y (omega arith) p q, (λ same. absurd (omega arith), (λ same. absurd (omega arith), tt)))),
          (
            (
              λ same. absurd (omega arith),
              (λ same up x y p q. goes_on 0 200 200 x y (omega arith) p q, (λ same up x y p q. goes_on 0 300 300 x y (omega arith) p q, tt)),
            ),
            ((λ same. absurd (omega arith), (λ same. absurd (omega arith), tt)), ((λ same up x y p q. goes_on 200 300 100 x y (omega arith) p q, tt), (tt, tt))),
          ),
        ),
      ),
    )

pub go_on_anyhow : (stream : Stream) → GoOnAnyhow nodes [] no_daemon history 0 (daemons stream)
go_on_anyhow stream =
    record {
      known = (omega arith, (omega arith, (omega arith, (omega arith, (omega arith, (omega arith, (omega arith, tt)))))));
      lives = lives stream;
      given = given;
      in_time = (omega arith, (omega arith, (omega arith, (omega arith, (omega arith, (omega arith, (omega arith, tt)))))));
      recent = recent;
      awake = awake;
      clocks = clocks;
      since = λ b t c parts up m is. absurd (None-Some m is);
    }

-- what the second holds at the end: a route of metric 2 to 2001:db8::/32, by fe80::1
pub holds_route : map_of.get (one_route (told_once (learned 200))) doc ≡ Some (told_once (learned 200))
holds_route = get_one (told_once (learned 200)) doc
