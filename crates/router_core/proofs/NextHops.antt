-- The next hop of each entry of a Response, and which entries an iterator has left.
use Rattle.std.proofs.Common.{◌≡◌, ℕ, zero, suc, ◌+◌, ◌<◌, ◌≤◌, Bool, true, false, cond, List, [], ◌∷◌, take, length, drop, reverse, find, Some, slice_get, refl, ap, ◌∙◌, arith, add-one}
use Rattle.std.proofs.lemmas.List.{reverse-append}
use Rattle.ripng_wire.specs.declared.rte.Rte.{Rte}
use Rattle.ripng_wire.specs.Layout.{is_next_hop}
use Rattle.router_core.specs.Config.{Config}
use Rattle.router_core.specs.Offers.{next_hop_at, usable_hop}
use Rattle.router_core.proofs.HearingSteps.{take_push}

next_hop_from : (config : Config) (source : ℕ) (entries : List Rte) (place : ℕ) (e : Rte) → slice_get entries place ≡ Some e → (b : Bool) → is_next_hop e ≡ b
    → next_hop_at config source entries (place + 1) ≡ cond b (usable_hop config source (Some e)) (next_hop_at config source entries place)
next_hop_from config source entries place e is b hop =
    ap (λ k. usable_hop config source (find is_next_hop (reverse (take k entries)))) (add-one place)
    ∙ ap (λ es. usable_hop config source (find is_next_hop (reverse es))) (take_push entries place e is)
    ∙ ap (λ es. usable_hop config source (find is_next_hop es)) (reverse-append (take place entries) (e ∷ []))
    ∙ ap (λ c. usable_hop config source (cond c (Some e) (find is_next_hop (reverse (take place entries))))) hop
    ∙ out b
  where
    out : (b : Bool) → usable_hop config source (cond b (Some e) (find is_next_hop (reverse (take place entries))))
        ≡ cond b (usable_hop config source (Some e)) (next_hop_at config source entries place)
    out true = refl
    out false = refl

-- behind a next hop entry
pub next_hop_set : (config : Config) (source : ℕ) (entries : List Rte) (place : ℕ) (e : Rte) → slice_get entries place ≡ Some e → is_next_hop e ≡ true
    → next_hop_at config source entries (place + 1) ≡ usable_hop config source (Some e)
next_hop_set config source entries place e is hop = next_hop_from config source entries place e is true hop

-- behind any other
pub next_hop_kept : (config : Config) (source : ℕ) (entries : List Rte) (place : ℕ) (e : Rte) → slice_get entries place ≡ Some e → is_next_hop e ≡ false
    → next_hop_at config source entries (place + 1) ≡ next_hop_at config source entries place
next_hop_kept config source entries place e is hop = next_hop_from config source entries place e is false hop

-- ---- what an iterator has left

-- the first of the entries that are left stands at the place
pub first_left : (entries : List Rte) (place : ℕ) (e : Rte) (rest : List Rte) → drop place entries ≡ e ∷ rest
    → (slice_get entries place ≡ Some e) × (drop (place + 1) entries ≡ rest) × (place < length entries)
first_left [] zero e rest left = absurd (cc)
first_left [] (suc place) e rest left = absurd (cc)
first_left (x ∷ xs) zero e rest left = (cc, cc, omega arith)
first_left (x ∷ xs) (suc place) e rest left = let h = first_left xs place e rest left in (h.0, ap (λ k. drop k (x ∷ xs)) (next place) ∙ h.1, omega (arith, h.2))
  where
    next : (k : ℕ) → suc k + 1 ≡ suc (k + 1)
    next k = omega arith

-- and where none is left all have been given
pub none_left : (entries : List Rte) (place : ℕ) → place ≤ length entries → drop place entries ≡ [] → place ≡ length entries
none_left [] zero fits left = refl
none_left [] (suc place) fits left = absurd (omega arith)
none_left (x ∷ xs) zero fits left = absurd (cc)
none_left (x ∷ xs) (suc place) fits left = ap suc (none_left xs place (omega arith) left)
