-- The steps of a router: what it may answer, and what it then is (RFC 2080, 2.3 to 2.5).
use Rattle.std.specs.Prelude.{◌≡◌, ℕ, max, ◌&&◌, nat_le, Bool, if◌then◌else◌, MatchBool, MatchOption, List, [], map, Some, None}
use Rattle.std.specs.List.{list_any}
use Rattle.std.specs.FinMap as map_of
use Rattle.ripng_wire.specs.declared.rte.Rte.{Rte}
use Rattle.ripng_wire.specs.declared.rte.Command.TheVariants.{Request, Response}
use Rattle.ripng_wire.specs.Layout.{Spells}
use Rattle.ripng_wire.specs.Wire.{is_response}
use Rattle.route_table.specs.Table.{Table}
use Rattle.router_core.specs.Config.{Config, cost_at}
use Rattle.router_core.specs.Received.{Received}
use Rattle.router_core.specs.Timers.{next_regular, next_hold}
use Rattle.router_core.specs.Faults.{fault}
use Rattle.router_core.specs.Adoption.{Gateway}
use Rattle.router_core.specs.Hearing.{Hearing, Heard, hearing}
use Rattle.router_core.specs.Ageing.{aged_table, unmarked}
use Rattle.router_core.specs.Output.{Message, AreSpelled, start_messages, link_up_messages, update_messages, reply_messages, every_route, is_changed}
use Rattle.fib.specs.Forwarding.{Forwarding}
use Rattle.router_core.specs.Changes.{forwards, changes_of_start, changes_of_ageing, changes_of_hearing}
use Rattle.router_core.specs.Shutdown.{shutdown_messages}
use Rattle.router_core.specs.LinkDown.{table_after_link_down, changes_of_link_down}
use Rattle.router_core.specs.Owning.{owned_route}
use Rattle.router_core.specs.Reconfiguring.{IsNamed, reconfigure_fault, reconfigured_config, reconfigured_table, changes_of_reconfiguring}
use Rattle.router_core.specs.declared.answer.Answer.{Answer}
use Rattle.router_core.specs.declared.arrival.Fault.{Fault}
use Rattle.router_core.specs.declared.answer.Note.{Note}
use Rattle.router_core.specs.declared.reconfiguring.Change.{Change}
use Rattle.fib.specs.declared.change.RouteChange.{RouteChange}

-- the state of a router between two steps
pub record State : Type 0 where
  pub config : Config
  pub table : Table
  pub last : ℕ  -- the moment of the last step
  pub regular : ℕ  -- when the next regular update is due (RFC 2080, 2.3)
  pub hold : ℕ  -- until when triggered updates are delayed (RFC 2080, 2.5.1)

-- what may happen to a running router
pub data Happening : Type 0 where
  Arrives : Received → Happening
  Ticks : (now word : ℕ) → Happening
  Restarts : (now : ℕ) → Happening
  Reconfigures : (now : ℕ) → Change → Happening
  ShutsDown : (now : ℕ) → Happening
  LinkGoesDown : (now iface : ℕ) → Happening
  LinkComesUp : (now iface : ℕ) → Happening

-- an answer without a fault, of these messages, changes and notes
pub record IsAnswer (messages : List Message) (changes : List RouteChange) (notes : List Note) (answer : Answer) : Type 0 where
  pub fault : answer.fault ≡ None
  pub sends : AreSpelled messages answer.sends
  pub changes_are : answer.changes ≡ changes
  pub notes_are : answer.notes ≡ notes

-- the table of a router that starts: its own prefixes
abbrev pub owned_table : Config → Table
owned_table config = map_of.from_entries (map (λ t. (t.0, owned_route t.1)) config.prefixes)

-- the state of a router that starts
abbrev pub started : Config → ℕ → State
started config now = record { config = config; table = owned_table config; last = now; regular = now; hold = now }

-- a router starts, and asks its neighbors for their tables (RFC 2080, 2.4.1)
pub record Starts (config : Config) (now : ℕ) (answer : Answer) (new : State) : Type 0 where
  pub state : new ≡ started config now
  pub answer_is : IsAnswer (start_messages config) (changes_of_start (owned_table config)) [] answer

-- an arrival is refused: the answer is the fault alone, and no route changes
pub record Refuses (old : State) (now : ℕ) (why : Fault) (answer : Answer) (new : State) : Type 0 where
  pub state : new ≡ record old { last = now }
  pub answer_is : answer ≡ record { fault = Some why; sends = []; changes = []; notes = [] }

-- the sender of an arrival, as a gateway
abbrev pub gateway_of : State → ℕ → Received → Gateway
gateway_of old now x = record { iface = x.iface; cost = cost_at old.config x.iface; from = x.source; moment = now }

-- the processing of the arrival's entries, from that gateway
abbrev pub hearing_of : State → ℕ → Received → List Rte → List Note → Hearing
hearing_of old now x entries notes = hearing old.config (gateway_of old now x) entries old.table notes

-- a Response is processed (RFC 2080, 2.4.2)
pub record Hears (old : State) (now : ℕ) (x : Received) (answer : Answer) (new : State) : Type 0 where
  pub entries : List Rte
  pub read : Spells Response entries x.bytes
  pub table : Table
  pub heard : Heard (hearing_of old now x entries answer.notes) table
  pub state : new ≡ record old { table = table; last = now }
  pub answer_is : IsAnswer [] (changes_of_hearing (hearing_of old now x entries answer.notes)) answer.notes answer

-- a Request gets its reply (RFC 2080, 2.4.1)
pub record Replies (old : State) (now : ℕ) (x : Received) (answer : Answer) (new : State) : Type 0 where
  pub entries : List Rte
  pub read : Spells Request entries x.bytes
  pub state : new ≡ record old { last = now }
  pub answer_is : IsAnswer (reply_messages old.config old.table x entries) [] [] answer

-- an arrival that is not refused is processed as a Response, or gets a reply as a Request
abbrev pub Accepts : State → ℕ → Received → Answer → State → Type 0
Accepts old now x answer new = MatchBool (is_response x.bytes) (Hears old now x answer new) (Replies old now x answer new)

-- the regular update is due (RFC 2080, 2.3)
abbrev pub is_regular_due : State → ℕ → Bool
is_regular_due old now = nat_le old.regular now

-- the delay of triggered updates is over, and a route change flag is set (RFC 2080, 2.5.1)
abbrev pub is_triggered_due : State → ℕ → Bool
is_triggered_due old now = nat_le old.hold now && list_any (λ t. t.1.changed) (map_of.entries (aged_table now old.table))

-- what a tick sends: a regular update, a triggered one, or nothing (RFC 2080, 2.3 and 2.5.1)
abbrev pub tick_messages : State → ℕ → List Message
tick_messages old now =
    if is_regular_due old now then update_messages old.config every_route (aged_table now old.table)
    else if is_triggered_due old now then update_messages old.config is_changed (aged_table now old.table)
    else []

-- the state after a tick: routes time out or are deleted, and after an update all route change flags are cleared
abbrev pub ticked : State → ℕ → ℕ → State
ticked old now word =
    if is_regular_due old now
    then record old { table = unmarked (aged_table now old.table); last = now; regular = next_regular now word }
    else if is_triggered_due old now
    then record old { table = unmarked (aged_table now old.table); last = now; hold = next_hold now word }
    else record old { table = aged_table now old.table; last = now }

-- a tick: routes time out or are deleted, and the update that is due is sent (RFC 2080, 2.3 and 2.5.1)
pub record Updates (old : State) (now word : ℕ) (answer : Answer) (new : State) : Type 0 where
  pub state : new ≡ ticked old now word
  pub answer_is : IsAnswer (tick_messages old now) (changes_of_ageing now old.table) [] answer

-- the state after a change of the configuration
abbrev pub reconfigured : State → ℕ → Change → State
reconfigured old now c =
    record old { config = reconfigured_config old.config c; table = reconfigured_table now old.table c; last = now }

-- a change of the configuration is done, and nothing is sent
pub record Obeys (old : State) (now : ℕ) (c : Change) (answer : Answer) (new : State) : Type 0 where
  pub named : IsNamed old.config c
  pub allowed : reconfigure_fault old.config old.table c ≡ None
  pub state : new ≡ reconfigured old now c
  pub answer_is : IsAnswer [] (changes_of_reconfiguring now old.table c) [] answer

-- the router shuts down: its last update poisons every route, and its state stays
pub record PoisonsAll (old : State) (now : ℕ) (answer : Answer) (new : State) : Type 0 where
  pub state : new ≡ record old { last = now }
  pub answer_is : IsAnswer (shutdown_messages old.config now old.table) [] [] answer

-- the link of an interface goes down: what was learned there is withdrawn, and the next tick advertises that (RFC 2080, 2.3)
pub record LosesRoutes (old : State) (now iface : ℕ) (answer : Answer) (new : State) : Type 0 where
  pub state : new ≡ record old { table = table_after_link_down iface now old.table; last = now }
  pub answer_is : IsAnswer [] (changes_of_link_down iface now old.table) [] answer

-- the link of an interface comes up: the neighbors on it are asked for their tables, as at a start (RFC 2080, 2.4.1)
pub record AsksOn (old : State) (now iface : ℕ) (answer : Answer) (new : State) : Type 0 where
  pub state : new ≡ record old { last = now }
  pub answer_is : IsAnswer (link_up_messages old.config iface) [] [] answer

-- a step: the answers and the states after it that are allowed. Time does not go back, except at a restart
abbrev pub Moves : State → Happening → Answer → State → Type 0
Moves old (Restarts now) answer new = Starts old.config now answer new
Moves old (Ticks now word) answer new = Updates old (max old.last now) word answer new
Moves old (Reconfigures now c) answer new = Obeys old (max old.last now) c answer new
Moves old (ShutsDown now) answer new = PoisonsAll old (max old.last now) answer new
Moves old (LinkGoesDown now iface) answer new = LosesRoutes old (max old.last now) iface answer new
Moves old (LinkComesUp now iface) answer new = AsksOn old (max old.last now) iface answer new
Moves old (Arrives x) answer new =
    MatchOption (fault old.config x)
    (Accepts old (max old.last x.now) x answer new)
    (λ why. Refuses old (max old.last x.now) why answer new)

-- the forwarding table that the changes of an answer apply to: it is empty at a restart
abbrev pub forwards_before : State → Happening → Forwarding
forwards_before old (Restarts now) = map_of.empty
forwards_before old (Ticks now word) = forwards old.table
forwards_before old (Arrives x) = forwards old.table
forwards_before old (Reconfigures now c) = forwards old.table
forwards_before old (ShutsDown now) = forwards old.table
forwards_before old (LinkGoesDown now iface) = forwards old.table
forwards_before old (LinkComesUp now iface) = forwards old.table
