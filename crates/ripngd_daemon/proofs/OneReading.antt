-- A text is a log in one way at most.
use Rattle.std.proofs.Common.{◌≡◌, ◌≢◌, ℕ, ◌<◌, ◌^◌, List, [], ◌∷◌, ◌++◌, All, get_or, drop, codes, decimal, refl, sym, ap, ap₂, ◌∙◌, subst, arith, append_assoc}
use Rattle.std.proofs.lemmas.Fmt.{decimal_injective}
use Rattle.std.proofs.lemmas.List.Elements.{All-head, All-tail}
use Rattle.prefix6.specs.Prefix.{Prefix6, IsPrefix}
use Rattle.prefix6.specs.Text.{Reads, ReadsPrefix}
use Rattle.prefix6.specs.Written.{written_addr, written_prefix}
use Rattle.fib.specs.declared.change.Hop.{Hop}
use Rattle.fib.specs.declared.change.Hop.TheVariants.{Direct, Via}
use Rattle.fib.specs.declared.change.RouteChange.{RouteChange}
use Rattle.fib.specs.declared.change.RouteChange.TheVariants.{Install, Withdraw}
use Rattle.ripngd_engine.specs.Log.{HasNoLineFeed, hop_text, change_text, log_of}
use Rattle.ripngd_daemon.specs.Reading.{IsWritableHop, IsWritableChange, IsRunOf, IsFirstBadOfRun}
use Rattle.ripngd_daemon.proofs.WordTexts.{addr_in_word, decimal_in_word, prefix_in_word, change_in_line}

abbrev pub Lacks : ℕ → List ℕ → Type 0
Lacks b xs = All (λ c. c ≢ b) xs

-- a text is split at the first of a byte in one way
pub one_split : (b : ℕ) (xs ys us vs : List ℕ) → Lacks b xs → Lacks b us → xs ++ (b ∷ ys) ≡ us ++ (b ∷ vs) → (xs ≡ us) × (ys ≡ vs)
one_split b [] ys [] vs h k e = (refl, cc)
one_split b [] ys (u ∷ us) vs h k e = let same : u ≡ b = cc in absurd (All-head (λ c. c ≢ b) u us k same)
one_split b (x ∷ xs) ys [] vs h k e = let same : x ≡ b = cc in absurd (All-head (λ c. c ≢ b) x xs h same)
one_split b (x ∷ xs) ys (u ∷ us) vs h k e =
    let head : x ≡ u = cc in
    let rest : xs ++ (b ∷ ys) ≡ us ++ (b ∷ vs) = cc in
    let later = one_split b xs ys us vs (All-tail (λ c. c ≢ b) x xs h) (All-tail (λ c. c ≢ b) u us k) rest in
    (cc (later.0), later.1)

pub has_it : (b : ℕ) (xs ys : List ℕ) → ¬ (Lacks b (xs ++ (b ∷ ys)))
has_it b [] ys h = All-head (λ c. c ≢ b) b ys h refl
has_it b (x ∷ xs) ys h = has_it b xs ys (All-tail (λ c. c ≢ b) x (xs ++ (b ∷ ys)) h)

-- from what is written of prefixes and addresses, and that it is read back in one way
module _ (addr_reads : (a : ℕ) → a < 2 ^ 128 → Reads (written_addr a) a) (prefix_reads : (p : Prefix6) → IsPrefix p → ReadsPrefix (written_prefix p) p)
    (one_addr : (text : List ℕ) (a b : ℕ) → Reads text a → Reads text b → a ≡ b) (one_prefix : (text : List ℕ) (p q : Prefix6) → ReadsPrefix text p → ReadsPrefix text q → p ≡ q) where
  same_addr : (a b : ℕ) → a < 2 ^ 128 → b < 2 ^ 128 → written_addr a ≡ written_addr b → a ≡ b
  same_addr a b low high e = one_addr (written_addr b) a b (subst (λ t. Reads t a) e (addr_reads a low)) (addr_reads b high)

  same_prefix : (p q : Prefix6) → IsPrefix p → IsPrefix q → written_prefix p ≡ written_prefix q → p ≡ q
  same_prefix p q h k e = one_prefix (written_prefix q) p q (subst (λ t. ReadsPrefix t p) e (prefix_reads p h)) (prefix_reads q k)

  same_hop : (a b : Hop) → IsWritableHop a → IsWritableHop b → hop_text a ≡ hop_text b → a ≡ b
  same_hop Direct Direct h k e = refl
  same_hop Direct (Via j b) h k e = let first : ◌≡◌ {A = ℕ} 100 118 = ap (λ t. get_or t 0 0) e in absurd (omega (arith, first))
  same_hop (Via i a) Direct h k e = let first : ◌≡◌ {A = ℕ} 118 100 = ap (λ t. get_or t 0 0) e in absurd (omega (arith, first))
  same_hop (Via i a) (Via j b) h k e =
      let parts = one_split 32 (written_addr a) (codes "iface " ++ decimal i) (written_addr b) (codes "iface " ++ decimal j) (addr_in_word a) (addr_in_word b) (ap (drop 4) e) in
      ap₂ Via (decimal_injective i j h.0 k.0 (ap (drop 6) parts.1)) (same_addr a b h.1 k.1 parts.0)

  same_change : (c d : RouteChange) → IsWritableChange c → IsWritableChange d → change_text c ≡ change_text d → c ≡ d
  same_change (Install p a m) (Install q b n) h k e =
      let first = one_split 32 (written_prefix p) (codes "metric " ++ (decimal m ++ (codes " " ++ hop_text a))) (written_prefix q) (codes "metric " ++ (decimal n ++ (codes " " ++ hop_text b))) (prefix_in_word p h.0) (prefix_in_word q k.0) (ap (drop 4) e) in
      let second = one_split 32 (decimal m) (hop_text a) (decimal n) (hop_text b) (decimal_in_word m (omega (arith, h.2))) (decimal_in_word n (omega (arith, k.2))) (ap (drop 7) first.1) in
      let prefixes = same_prefix p q h.0 k.0 first.0 in
      let hops = same_hop a b h.1 k.1 second.1 in
      let metrics = decimal_injective m n (omega (arith, h.2)) (omega (arith, k.2)) second.0 in
      cc
  same_change (Install p a m) (Withdraw q) h k e = let first : ◌≡◌ {A = ℕ} 97 100 = ap (λ t. get_or t 0 0) e in absurd (omega (arith, first))
  same_change (Withdraw p) (Install q b n) h k e = let first : ◌≡◌ {A = ℕ} 100 97 = ap (λ t. get_or t 0 0) e in absurd (omega (arith, first))
  same_change (Withdraw p) (Withdraw q) h k e = ap Withdraw (same_prefix p q h k (ap (drop 4) e))

  -- the first line of a log, and what comes after it
  front : (c : RouteChange) (cs : List RouteChange) (rest : List ℕ) → log_of (c ∷ cs) ++ rest ≡ change_text c ++ (10 ∷ (log_of cs ++ rest))
  front c cs rest = simp append_assoc refl

  same_log : (cs ds : List RouteChange) (r s : List ℕ) → All IsWritableChange cs → All IsWritableChange ds → HasNoLineFeed r → HasNoLineFeed s → log_of cs ++ r ≡ log_of ds ++ s → cs ≡ ds
  same_log [] [] r s h k free other e = refl
  same_log [] (d ∷ ds) r s h k free other e = absurd (has_it 10 (change_text d) (log_of ds ++ s) (subst HasNoLineFeed (e ∙ front d ds s) free))
  same_log (c ∷ cs) [] r s h k free other e = absurd (has_it 10 (change_text c) (log_of cs ++ r) (subst HasNoLineFeed (sym e ∙ front c cs r) other))
  same_log (c ∷ cs) (d ∷ ds) r s h k free other e =
      let is_c = All-head IsWritableChange c cs h in
      let is_d = All-head IsWritableChange d ds k in
      let parts = one_split 10 (change_text c) (log_of cs ++ r) (change_text d) (log_of ds ++ s) (change_in_line c is_c) (change_in_line d is_d) (sym (front c cs r) ∙ e ∙ front d ds s) in
      ap₂ ◌∷◌ (same_change c d is_c is_d parts.0) (same_log cs ds r s (All-tail IsWritableChange c cs h) (All-tail IsWritableChange d ds k) free other parts.1)

  pub one_reading : (text : List ℕ) (cs ds : List RouteChange) → IsRunOf text cs → IsRunOf text ds → cs ≡ ds
  one_reading text cs ds h k = same_log cs ds h.rest k.rest h.lawful k.lawful h.unended k.unended (sym h.spelled ∙ k.spelled)

  no_log : (cs ds : List RouteChange) (bad after r : List ℕ) → All IsWritableChange cs → All IsWritableChange ds → HasNoLineFeed bad → ((d : RouteChange) → IsWritableChange d → change_text d ≢ bad) → HasNoLineFeed r → log_of cs ++ (bad ++ (10 ∷ after)) ≢ log_of ds ++ r
  no_log [] [] bad after r h k line none free e = has_it 10 bad after (subst HasNoLineFeed (sym e) free)
  no_log [] (d ∷ ds) bad after r h k line none free e =
      let is_d = All-head IsWritableChange d ds k in
      none d is_d (sym (one_split 10 bad after (change_text d) (log_of ds ++ r) line (change_in_line d is_d) (e ∙ front d ds r)).0)
  no_log (c ∷ cs) [] bad after r h k line none free e = has_it 10 (change_text c) (log_of cs ++ (bad ++ (10 ∷ after))) (subst HasNoLineFeed (sym e ∙ front c cs _) free)
  no_log (c ∷ cs) (d ∷ ds) bad after r h k line none free e =
      let is_c = All-head IsWritableChange c cs h in
      let is_d = All-head IsWritableChange d ds k in
      let parts = one_split 10 (change_text c) (log_of cs ++ (bad ++ (10 ∷ after))) (change_text d) (log_of ds ++ r) (change_in_line c is_c) (change_in_line d is_d) (sym (front c cs (bad ++ (10 ∷ after))) ∙ e ∙ front d ds r) in
      no_log cs ds bad after r (All-tail IsWritableChange c cs h) (All-tail IsWritableChange d ds k) line none free parts.1

  pub no_reading : (text : List ℕ) (line : ℕ) (changes : List RouteChange) → IsFirstBadOfRun text line → ¬ (IsRunOf text changes)
  no_reading text line changes h k =
      no_log h.before changes h.bad h.after k.rest h.lawful k.lawful h.is_line h.no_change k.unended
      (sym (append_assoc (log_of h.before) h.bad (10 ∷ h.after)) ∙ sym h.spelled ∙ k.spelled)
