-- Routers that have started, one more after another, and their tables.
use Rattle.std.proofs.Common.{◌≡◌, ◌≤◌, ℕ, zero, suc, refl, ap, ap₂, sym, arith, ◌∙◌, List, [], ◌∷◌, ◌++◌, map, take, length, option_map, Some, None, slice_get}
use Rattle.std.specs.FinMap as map_of
use Rattle.route_table.specs.Table.{Table}
use Rattle.route_table.proofs.TableLaws.{None-Some, Some-same}
use Rattle.router_core.specs.Machine.{State}
use Rattle.router_core.proofs.HearingSteps.{take_push}
use Rattle.ripng_world.specs.World.{World}
use Rattle.ripng_world.proofs.WorldRuns.{get_map}
use Rattle.ripng_trace.specs.Records.{LeadsTo, with_routes}
use Rattle.ripng_trace.specs.declared.records.RouterRecord.{RouterRecord}

pub length_push : {X : Type 0} (xs : List X) (x : X) → length (xs ++ x ∷ []) ≡ suc (length xs)
length_push [] x = refl
length_push (y ∷ xs) x = ap suc (length_push xs x)

-- with the record of the next router, what it says of its state is known
pub known_more : {X Y : Type 0} (f : State → Y) (w : World) (records : List X) (r : X) (state : State) → slice_get w.states (length records) ≡ Some state
    → take (length (records ++ r ∷ [])) (map f w.states) ≡ take (length records) (map f w.states) ++ f state ∷ []
known_more f w records r state is =
    ap (λ (n : ℕ). take n (map f w.states)) (length_push records r)
    ∙ take_push (map f w.states) (length records) (f state) (get_map f w.states (length records) ∙ ap (option_map f) is)

-- behind the last one there is none
pub all_there : {X : Type 0} (xs : List X) (n : ℕ) → slice_get xs n ≡ None → length xs ≤ n
all_there [] n none = omega arith
all_there (x ∷ xs) zero none = absurd (None-Some x (sym none))
all_there (x ∷ xs) (suc n) none =
    let rest = all_there xs n none in
    omega (arith, rest)

-- the routes of all records are the tables
pub started : (records : List RouterRecord) (states : List State) → length records ≡ length states
    → ((k : ℕ) (r : RouterRecord) → slice_get records k ≡ Some r → (s : State) × (slice_get states k ≡ Some s) × LeadsTo map_of.empty r.routes.items [] s.table)
    → map (λ r. with_routes map_of.empty r.routes.items) records ≡ map (λ s. s.table) states
started [] [] same each = refl
started [] (s ∷ states) same each = absurd (omega (arith, same))
started (r ∷ records) [] same each = absurd (omega (arith, same))
started (r ∷ records) (s ∷ states) same each =
    let first = each 0 r refl in
    ap₂ (λ (t : Table) (ts : List Table). t ∷ ts) (first.2 ∙ ap (λ (x : State). x.table) (sym (Some-same s first.0 first.1)))
    (started records states (omega (arith, same)) (λ k x is. each (suc k) x is))
