-- What the record of the start says of each router.
use Rattle.std.specs.Prelude.{◌≡◌, ℕ, List, [], map, length, Option, Some, slice_get}
use Rattle.ripng_trace.specs.Below.{enumerate_from, State, Interface, LabValue, link_at, RouterRecord, StartRecord}
use Rattle.std.specs.FinMap as map_of
use Rattle.ripng_trace.specs.Events.{sent_from, sent_said}
use Rattle.ripng_trace.specs.Records.{LeadsTo, timers_in}

-- an interface of a router, with its number and its link
abbrev pub interface_record : LabValue → ℕ → ℕ × Interface → Interface × Option ℕ
interface_record lab router i = (i.1, link_at lab.network router i.0)

-- what a router was asked to be, its timers, and all its routes
pub record TellsRouter (lab : LabValue) (router : ℕ) (r : RouterRecord) : Type 0 where
  pub state : State
  pub state_is : slice_get lab.world.states router ≡ Some state
  pub quiet_is : r.quiet ≡ state.config.quiet
  pub interfaces_are : r.interfaces.items ≡ map (interface_record lab router) (enumerate_from 0 state.config.interfaces)
  pub prefixes_are : r.prefixes.items ≡ state.config.prefixes
  pub timers_are : r.timers ≡ timers_in state
  pub routes_lead : LeadsTo map_of.empty r.routes.items [] state.table

-- there is a record for each router of the lab, in order
pub record AreTold (lab : LabValue) (records : List RouterRecord) : Type 0 where
  pub as_many : length records ≡ length lab.world.states
  pub each : (router : ℕ) (r : RouterRecord) → slice_get records router ≡ Some r → TellsRouter lab router r

-- the start, at this moment, with all routers and all that they sent
pub record TellsStart (line : ℕ) (lab : LabValue) (now : ℕ) (r : StartRecord) : Type 0 where
  pub at_line : r.line ≡ line
  pub moment_is : r.now ≡ now
  pub routers : AreTold lab r.routers.items
  pub sent_are : map sent_said r.sent.items ≡ sent_from 0 lab.world.sent
