-- A run of the program as a daemon's life.
use Rattle.std.specs.Prelude.{◌≡◌, ◌≢◌, ◌≤◌, ◌⊎◌, ℕ, List, [], ◌∷◌, ◌++◌, Option, None, Some, filter_map, length}
use Rattle.ripngd_runs.specs.Below.{AllByRecursion, Order, control_text, Command, outside_before, Machine, all_joined, Seen, Shows, Act, Start, Listen, Tick, Reconfigure, Shutdown, LinkDown, LinkUp, Ask, Refuse, Deed, Does, Lives, in_force, traces_of, Config, NamesInterface}
use Rattle.ripngd_runs.specs.Questions.{AsksRightly, waits_for_nothing}
use Rattle.ripngd_control.specs.declared.command.Command.TheVariants as commands

-- ---- what clients order

-- the act, if it is one that a client ordered: a start, what turns do, and questions after a loss are a daemon's own
abbrev pub ordered_act : Act → Option Act
ordered_act Start = None
ordered_act (Listen call) = None
ordered_act Tick = None
ordered_act (Ask on) = None
ordered_act act = Some act

-- the acts among these deeds that clients ordered, in their order
abbrev pub ordered_acts : List Deed → List Act
ordered_acts deeds = filter_map (λ d. ordered_act d.act) deeds

-- the act was done, or refused in its place
abbrev pub IsDoneOrRefused : Act → List Act → Type 0
IsDoneOrRefused act acts = (acts ≡ act ∷ []) ⊎ (acts ≡ Refuse ∷ [])

-- the acts of a router with such interfaces for a command: a change, a link that goes down or comes up, or a shutdown, which is done
-- once more unless it was refused or memory for the forwarding table ran out. What names an interface that is not there is no act, nor
-- is any other command
abbrev pub AreActsFor : Config → Command → List Act → Type 0
AreActsFor config (commands.Reconfigure c) acts = IsDoneOrRefused (Reconfigure c) acts ⊎ ((acts ≡ []) × ¬ (NamesInterface config c))
AreActsFor config commands.Stop acts = IsDoneOrRefused Shutdown acts ⊎ ((again : List Act) × IsDoneOrRefused Shutdown again × (acts ≡ Shutdown ∷ again))
AreActsFor config (commands.LinkDown iface) acts = IsDoneOrRefused (LinkDown iface) acts ⊎ ((acts ≡ []) × (length config.interfaces ≤ iface))
AreActsFor config (commands.LinkUp iface) acts = IsDoneOrRefused (LinkUp iface) acts ⊎ ((acts ≡ []) × (length config.interfaces ≤ iface))
AreActsFor config _ acts = acts ≡ []

-- the same for the lines of clients, one line after another
abbrev pub AreActsForLines : Config → List (List ℕ) → List Act → Type 0
AreActsForLines config [] acts = acts ≡ []
AreActsForLines config (line ∷ lines) acts =
    (command : Command) × (first later : List Act) × (line ≡ control_text command) × AreActsFor config command first
    × AreActsForLines config lines later × (acts ≡ first ++ later)

-- ---- a run

-- these deeds are the life of a run: a start with the configuration in force, and no other; they lead to what it is now, and the
-- outside gained just what they did. Those that clients ordered are what their lines say. It asked its neighbors by itself only after a
-- loss, and on each link at most once in a second
pub record IsLife (config : Config) (before : Option Machine) (order : Order) (lines : List (List ℕ)) (deeds : List Deed) (now : Seen) : Type 0 where
  pub first : Deed
  pub later : List Deed
  pub deeds_are : deeds ≡ first ∷ later
  pub starts : first.act ≡ Start
  pub once : AllByRecursion (λ d. d.act ≢ Start) later
  pub lives : Lives config before deeds (Some now.machine)
  pub shows : Shows (outside_before order) (all_joined (traces_of deeds)) now.outside
  pub ordered : AreActsForLines (in_force config before) lines (ordered_acts deeds)
  pub asks : (iface : ℕ) → (begun : Machine) × Does config before first.act first.trace begun
      × AsksRightly iface config waits_for_nothing begun later now.machine
