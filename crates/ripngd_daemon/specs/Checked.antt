-- What `check` writes of a configuration that it accepts, and what it refuses (the format is this project's choice).
use Rattle.std.specs.Prelude.{◌≢◌, ℕ, ◌-◌, ◌^◌, Bool, true, false, List, ◌++◌, Option, codes, decimal, length, min, vec_len, Vec, sum_by}
use Rattle.ripngd_daemon.specs.Below.{Appends, Global, IsConfigured, RefusesConfig, Config, ConfigFault, Peer, newline}
use Rattle.ripngd_config.specs.declared.fault.ConfigFault.TheVariants.{OutOfMemory}

-- the peers of all interfaces together, up to the greatest u64
abbrev pub peers_counted : List (Vec Peer Global) → ℕ
peers_counted peers = min (sum_by (λ ps. vec_len ps) peers) (2 ^ 64 - 1)

-- `ok interfaces A prefixes B peers C`
abbrev pub counts_line : Config → List ℕ
counts_line c =
    codes "ok interfaces " ++ (decimal (length c.router.interfaces) ++ (codes " prefixes " ++ (decimal (length c.router.prefixes)
    ++ (codes " peers " ++ (decimal (peers_counted c.peers.items) ++ newline)))))

-- a text is a configuration, of a router that is not quiet and has the default tag 0, and its line was written; or it is
-- refused, and not for want of memory. What is then written is not said here
abbrev pub IsChecked : List ℕ → Bool → Option (List ℕ) → Option (List ℕ) → Type 0
IsChecked text true old new = (config : Config) × IsConfigured text 0 false config × Appends old new (counts_line config)
IsChecked text false old new = (fault : ConfigFault) × (fault ≢ OutOfMemory) × RefusesConfig text 0 false fault
