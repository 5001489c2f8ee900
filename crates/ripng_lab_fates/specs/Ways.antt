-- What becomes of packets for an address, by what each router does with them.
use Rattle.std.specs.Prelude.{◌≡◌, ℕ, ◌==◌, Bool, true, if◌then◌else◌, List, [], ◌∷◌, ◌++◌, length, Some, slice_get, Result, Ok, Err}
use Rattle.std.specs.List.{list_any}
use Rattle.std.specs.Option.{option_map_or}
use Rattle.fib.specs.Forwarding.{prefix_of}
use Rattle.fib.specs.declared.change.RouteChange.{RouteChange}
use Rattle.prefix6.specs.Prefix.{contains}
use Rattle.router_core.specs.declared.answer.Answer.{Answer}
use Rattle.ripng_world.specs.Labs.{LabValue, link_at}
use Rattle.ripng_world.specs.Network.{Network}
use Rattle.ripng_world.specs.Packets.{Forwardings, HandsOn, forwardings_of}
use Rattle.ripng_world.specs.Path.{EndsAt}
use Rattle.ripng_world.specs.Walks.{Hop}
use Rattle.ripng_world.specs.World.{Event, Restart}
use Rattle.ripng_world.specs.declared.path.PathEnd.{PathEnd}
use Rattle.ripng_world.specs.declared.path.PathEnd.TheVariants as end
use Rattle.ripng_lab_fates.specs.Outages.{is_cut, is_out}
use Rattle.ripng_lab_fates.specs.declared.outages.Change.{Change}
use Rattle.ripng_lab_fates.specs.declared.outages.Thing.TheVariants.{Router}
use Rattle.ripng_lab_fates.specs.declared.ways.Fate.{Fate}
use Rattle.ripng_lab_fates.specs.declared.ways.Fate.TheVariants as fate
use Rattle.ripng_lab_fates.specs.declared.ways.Step.{Step}
use Rattle.ripng_lab_fates.specs.declared.ways.Step.TheVariants.{On, Ends}
use Rattle.ripng_lab_fates.specs.declared.ways.Way.{Way}

-- ---- what routers do

-- what a router's table does with packets for the address: it hands them on to that router across that link, or their way ends there
abbrev pub IsStep : Network → Forwardings → ℕ → ℕ → Step → Type 0
IsStep net fibs addr router (On other link) = (h : Hop) × HandsOn net fibs addr router h × (h.router ≡ other) × (link_at net router h.iface ≡ link)
IsStep net fibs addr router (Ends end) = EndsAt net fibs addr router end

-- so does each router, in order
pub record AreSteps (lab : LabValue) (addr : ℕ) (steps : List Step) : Type 0 where
  pub as_many : length steps ≡ length lab.network
  pub each : (router : ℕ) (s : Step) → slice_get steps router ≡ Some s → IsStep lab.network (forwardings_of lab.world) addr router s

-- whether a change of a forwarding entry is one for a prefix that holds the address
abbrev pub is_about : ℕ → RouteChange → Bool
is_about addr change = contains (prefix_of change) addr

abbrev pub has_change : ℕ → List RouteChange → Bool
has_change addr changes = list_any (is_about addr) changes

-- whether an event may change what its router does with packets for the address
abbrev pub may_turn : ℕ → Event → Answer → Bool
may_turn addr (Restart router now) answer = true
may_turn addr _ answer = has_change addr answer.changes

-- ---- ways

-- what becomes of packets where their way ends so
abbrev pub fate_at : PathEnd → Fate
fate_at end.Delivered = fate.Arrives
fate_at end.NoRoute = fate.NoRoute
fate_at end.NextHopIsNobodys = fate.NextHopIsNobodys
fate_at (end.Loops from) = fate.Loops

-- to which router a step takes them, or why they get no further
abbrev pub passed_by : List Change → Step → Result ℕ Fate
passed_by changes (On router link) = if is_cut changes link then Err fate.CutLink else Ok router
passed_by changes (Ends end) = Err (fate_at end)

-- the same from a router
abbrev pub pass : List Step → List Change → ℕ → Result ℕ Fate
pass steps changes at = if is_out changes (Router at) then Err fate.SilentRouter else option_map_or (passed_by changes) (slice_get steps at) (Err fate.NoRoute)

abbrev pub way_at : Fate → ℕ → Way
way_at f at = record { fate = f; at = at }

-- they have come so far, and go on from the next router, or no further
abbrev pub way_next : ℕ → Result ℕ Fate → (ℕ → Way) → Way
way_next at (Err f) on = way_at f at
way_next at (Ok next) on = on next

-- what becomes of packets from a router on, that have passed these: where they come to one of them again they go round. The first list
-- is as long as there may be steps
abbrev pub way_by : List Step → List Step → List Change → List ℕ → ℕ → Way
way_by [] steps changes passed at = way_at fate.Loops at
way_by (s ∷ more) steps changes passed at =
    way_next at (pass steps changes at)
    (λ next. if list_any (λ r. r == next) (passed ++ at ∷ []) then way_at fate.Loops next else way_by more steps changes (passed ++ at ∷ []) next)
