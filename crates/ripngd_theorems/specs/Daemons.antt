-- What a daemon does from its first start on: one act after another, each as the engine's own definitions say.
use Rattle.std.specs.Prelude.{◌≡◌, ℕ, ◌==◌, ◌⊎◌, if◌then◌else◌, List, [], ◌∷◌, map, filter_map, option_map, Option, None, Some, false}
use Rattle.ripngd_theorems.specs.Below.{Stream, Config, Change, ReconfiguresOnce, ShutsDownOnce, LinkGoesDownOnce, LinkComesUpOnce, ReconfiguresNothing, Call, RecvFailed, Machine, Trace, ComesUp, TakesIn, TicksOnce, followed_by, one_call}

-- a daemon comes up; it listens to its link once, and takes in what that gave; it ticks; its configuration is changed; it shuts down;
-- a link of it goes down; one comes up; by itself it asks its neighbors on a link for their tables (RFC 2080, 2.4.1); one of the four
-- that it is told to do is refused
pub data Act : Type 0 where
  Start : Act
  Listen : Call → Act
  Tick : Act
  Reconfigure : Change → Act
  Shutdown : Act
  LinkDown : ℕ → Act
  LinkUp : ℕ → Act
  Ask : ℕ → Act
  Refuse : Act

-- the change that an act does, if it does one
abbrev pub reconfiguration_of : Act → Option Change
reconfiguration_of (Reconfigure c) = Some c
reconfiguration_of _ = None

-- an act, with what it did on the outside
pub record Deed : Type 0 where
  pub act : Act
  pub trace : Trace

-- what each of them did
abbrev pub traces_of : List Deed → List Trace
traces_of deeds = map (λ d. d.trace) deeds

-- after this call of `recv` it takes in what was given; after one that failed, nothing
abbrev pub HearsCall : Call → Machine → Trace → Machine → Type 0
HearsCall RecvFailed m t n = (t ≡ one_call RecvFailed) × (n ≡ m)
HearsCall call m t n = (taken : Trace) × TakesIn call m taken n × (t ≡ followed_by (one_call call) taken)

-- a daemon that runs does so. To ask is the router's step of a link that comes up, or memory for it was refused. One that ran out of
-- memory for its forwarding table has ended
abbrev pub Goes : Act → Machine → Trace → Machine → Type 0
Goes Start m t n = ⊥
Goes (Listen call) m t n = (m.ended ≡ false) × HearsCall call m t n
Goes Tick m t n = (m.ended ≡ false) × TicksOnce m t n
Goes (Reconfigure c) m t n = (m.ended ≡ false) × ReconfiguresOnce c m t n
Goes Shutdown m t n = (m.ended ≡ false) × ShutsDownOnce m t n
Goes (LinkDown on) m t n = (m.ended ≡ false) × LinkGoesDownOnce on m t n
Goes (LinkUp on) m t n = (m.ended ≡ false) × LinkComesUpOnce on m t n
Goes (Ask on) m t n = (m.ended ≡ false) × (LinkComesUpOnce on m t n ⊎ ReconfiguresNothing m t n)
Goes Refuse m t n = (m.ended ≡ false) × ReconfiguresNothing m t n

-- the configuration in force: that of the first start, or that of the daemon, as it was changed
abbrev pub in_force : Config → Option Machine → Config
in_force config None = config
in_force config (Some m) = m.router.config

-- a daemon does so: it comes up, with the configuration in force, whatever it was before, if anything; or it was up, and goes on
abbrev pub Does : Config → Option Machine → Act → Trace → Machine → Type 0
Does config before Start t n = (stream : Stream) × ComesUp (in_force config before) stream t n
Does config (Some m) act t n = Goes act m t n
Does config None act t n = ⊥

-- the deeds lead from what a daemon was, or from none, to what it is
abbrev pub Lives : Config → Option Machine → List Deed → Option Machine → Type 0
Lives config before [] after = after ≡ before
Lives config before (d ∷ deeds) after = (n : Machine) × Does config before d.act d.trace n × Lives config (Some n) deeds after

-- ---- many daemons

-- a deed of one of them
pub record Happened : Type 0 where
  pub router : ℕ
  pub deed : Deed

-- the change that was done, if the deed is one
abbrev pub reconfiguration_by : Happened → Option (ℕ × Change)
reconfiguration_by h = option_map (λ c. (h.router, c)) (reconfiguration_of h.deed.act)

-- all changes that were done, each with its router, in order
abbrev pub reconfigurations_by : List Happened → List (ℕ × Change)
reconfigurations_by order = filter_map reconfiguration_by order

-- the deeds of one router, in their order
abbrev pub own_deeds : ℕ → List Happened → List Deed
own_deeds router order = filter_map (λ h. if h.router == router then Some h.deed else None) order
