-- Lines of text, and those of the log (the format is this project's choice).
use Rattle.std.specs.Prelude.{◌≢◌, ℕ, List, [], ◌∷◌, ◌++◌, codes, decimal, flat_map}
use Rattle.std.specs.List.{All}
use Rattle.prefix6.specs.Prefix.{Prefix6}
use Rattle.prefix6.specs.Written.{written_addr, written_prefix}
use Rattle.fib.specs.declared.change.Hop.{Hop}
use Rattle.fib.specs.declared.change.Hop.TheVariants.{Direct, Via}
use Rattle.fib.specs.declared.change.RouteChange.{RouteChange}
use Rattle.fib.specs.declared.change.RouteChange.TheVariants.{Install, Withdraw}

-- no byte is a line feed (10)
abbrev pub HasNoLineFeed : List ℕ → Type 0
HasNoLineFeed text = All (λ b. b ≢ 10) text

-- `direct`, or `via ADDR iface I`
abbrev pub hop_text : Hop → List ℕ
hop_text Direct = codes "direct"
hop_text (Via iface next_hop) = codes "via " ++ (written_addr next_hop ++ (codes " iface " ++ decimal iface))

-- `PREFIX metric M HOP`
abbrev pub route_text : Prefix6 → Hop → ℕ → List ℕ
route_text p hop metric = written_prefix p ++ (codes " metric " ++ (decimal metric ++ (codes " " ++ hop_text hop)))

-- `add ROUTE`, or `del PREFIX`
abbrev pub change_text : RouteChange → List ℕ
change_text (Install p hop metric) = codes "add " ++ route_text p hop metric
change_text (Withdraw p) = codes "del " ++ written_prefix p

-- a line for each of these entries of a forwarding table
abbrev pub entry_lines : List (Prefix6 × Hop × ℕ) → List ℕ
entry_lines es = flat_map (λ e. route_text e.0 e.1 e.2 ++ 10 ∷ []) es

-- a line for each change
abbrev pub log_of : List RouteChange → List ℕ
log_of changes = flat_map (λ c. change_text c ++ 10 ∷ []) changes
