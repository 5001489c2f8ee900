-- Entries that are read are spelled by the bytes that they were read from, and entries that were spelled are read again.
use Rattle.std.proofs.Common.{◌≡◌, ℕ, zero, suc, ◌+◌, ◌*◌, ◌/◌, ◌<◌, ◌≤◌, List, [], ◌∷◌, ◌++◌, length, get_or, take, drop, refl, sym, ap, ◌∙◌, arith}
use Rattle.std.specs.List.{flat_map, AllByRecursion}
use Rattle.std.proofs.lemmas.List.{nil_from_length, get_or-drop, get_or-take, length-append, length-drop, take-take, drop-take, take-append-drop, drop_at}
use Rattle.std.proofs.lemmas.List.Concat.{flat_map-cons}
use Rattle.byteorder.specs.Endian.{big_bytes, big_number}
use Rattle.byteorder.specs.Numbers.{big_from-lt, big_from-take, big_number-reads_back}
use Rattle.ripng_wire.specs.declared.rte.Rte.{Rte}
use Rattle.ripng_wire.specs.Layout.{Fits, entry_bytes}
use Rattle.ripng_wire.specs.Reading.{entry_of, first_entries, entries_of}
use Rattle.ripng_wire.proofs.Numbers.{IsBytes, IsBytes-drop, first_bytes}

-- the bytes from 2 on, as an entry has its prefix length and metric behind its tag
last_two : (c : List ℕ) → 4 ≤ length c → take 2 c ++ (get_or c 2 0 ∷ get_or c 3 0 ∷ []) ≡ take 4 c
last_two [] h = absurd (omega arith)
last_two (a ∷ []) h = absurd (omega arith)
last_two (a ∷ b ∷ []) h = absurd (omega arith)
last_two (a ∷ b ∷ c ∷ []) h = absurd (omega arith)
last_two (a ∷ b ∷ c ∷ d ∷ rest) h = refl

-- two pieces in a row are one piece
take_parts : (m n : ℕ) (b : List ℕ) → take m b ++ take n (drop m b) ≡ take (m + n) b
take_parts m n b =
    let front : take m (take (m + n) b) ≡ take m b = take-take m (m + n) b (omega arith) in
    let back : drop m (take (m + n) b) ≡ take n (drop m b) = drop-take m n b in
    ap (λ (x : List ℕ). x ++ take n (drop m b)) (sym front) ∙ ap (λ (x : List ℕ). take m (take (m + n) b) ++ x) (sym back) ∙ take-append-drop m (take (m + n) b)

-- the three parts of an entry are its 20 bytes
joined : (b p q : List ℕ) → p ≡ take 16 b → q ≡ take 2 (drop 16 b) → 20 ≤ length b → p ++ (q ++ (get_or b 18 0 ∷ get_or b 19 0 ∷ [])) ≡ take 20 b
joined b p q hp hq le =
    let long : 4 ≤ length (drop 16 b) = omega (arith, length-drop 16 b) in
    let at18 : get_or (drop 16 b) 2 0 ≡ get_or b 18 0 = get_or-drop 16 b 2 0 in
    let at19 : get_or (drop 16 b) 3 0 ≡ get_or b 19 0 = get_or-drop 16 b 3 0 in
    let back : q ++ (get_or b 18 0 ∷ get_or b 19 0 ∷ []) ≡ take 4 (drop 16 b) = rw (hq, ← at18, ← at19) (last_two (drop 16 b) long) in
    ap (λ (x : List ℕ). p ++ x) back ∙ ap (λ (x : List ℕ). x ++ take 4 (drop 16 b)) hp ∙ take_parts 16 4 b

-- the bytes of the entry that was read are those that it was read from
entry_whole : (b : List ℕ) → 20 ≤ length b → IsBytes b → entry_bytes (entry_of b) ≡ take 20 b
unfolding entry_bytes entry_of
entry_whole b le fits = joined b (big_bytes 16 (big_number 16 b)) (big_bytes 2 (big_number 2 (drop 16 b)))
    (first_bytes 16 b (omega arith) fits) (first_bytes 2 (drop 16 b) (omega (arith, length-drop 16 b)) (IsBytes-drop 16 b fits)) le

-- n entries that were read are spelled by the bytes that they were read from
pub first_whole : (n : ℕ) (b : List ℕ) → length b ≡ 20 * n → IsBytes b → flat_map entry_bytes (first_entries n b) ≡ b
unfolding first_entries
first_whole zero b len fits = sym (nil_from_length b (omega arith))
first_whole (suc n) b len fits =
    let rest = first_whole n (drop 20 b) (omega (arith, length-drop 20 b)) (IsBytes-drop 20 b fits) in
    flat_map-cons entry_bytes (entry_of b) (first_entries n (drop 20 b))
    ∙ ap (λ (x : List ℕ). entry_bytes (entry_of b) ++ x) rest
    ∙ ap (λ (x : List ℕ). x ++ drop 20 b) (entry_whole b (omega arith) fits)
    ∙ take-append-drop 20 b

-- what is read from bytes fits them
fit_of : (b : List ℕ) → IsBytes b → Fits (entry_of b)
unfolding entry_of
fit_of b fits = record {
  addr = big_from-lt 0 16 b fits;
  tag = big_from-lt 0 2 (drop 16 b) (IsBytes-drop 16 b fits);
  len = fits 18;
  metric = fits 19;
}

-- n entries that were read fit their bytes
pub first_fit : (n : ℕ) (b : List ℕ) → IsBytes b → AllByRecursion Fits (first_entries n b)
unfolding first_entries
first_fit zero b fits = tt
first_fit (suc n) b fits = (fit_of b fits, first_fit n (drop 20 b) (IsBytes-drop 20 b fits))

-- n entries are read as n entries
pub length-first : (n : ℕ) (b : List ℕ) → length (first_entries n b) ≡ n
unfolding first_entries
length-first zero b = refl
length-first (suc n) b = ap suc (length-first n (drop 20 b))

-- ---- entries that were spelled are read again

-- an entry has 20 bytes
length-entry : (e : Rte) → length (entry_bytes e) ≡ 20
unfolding entry_bytes
length-entry e = refl

-- the bytes of n entries are 20 * n
pub length_entries : (es : List Rte) → length (flat_map entry_bytes es) ≡ 20 * length es
length_entries [] = refl
length_entries (e ∷ es) =
    ap length (flat_map-cons entry_bytes e es) ∙ omega (arith, length-append (entry_bytes e) (flat_map entry_bytes es), length-entry e, length_entries es)

-- an entry of the same numbers is the same entry
pub same_rte : (e : Rte) (a t l m : ℕ) → a ≡ e.addr → t ≡ e.tag → l ≡ e.len → m ≡ e.metric → record { addr = a; tag = t; len = l; metric = m } ≡ e
same_rte e a t l m ha ht hl hm = rw (ha, ht, hl, hm) refl

-- an entry that fits its bytes is read from them
entry_again : (e : Rte) (rest : List ℕ) → Fits e → entry_of (entry_bytes e ++ rest) ≡ e
unfolding entry_of entry_bytes
entry_again e rest fits =
    same_rte e _ _ _ _
    (big_number-reads_back 16 e.addr (big_bytes 2 e.tag ++ (e.len ∷ e.metric ∷ rest)) fits.addr)
    (big_number-reads_back 2 e.tag (e.len ∷ e.metric ∷ rest) fits.tag)
    refl refl

-- as many entries as were spelled are read again
first_again : (es : List Rte) → AllByRecursion Fits es → first_entries (length es) (flat_map entry_bytes es) ≡ es
unfolding first_entries
first_again [] fits = refl
first_again (e ∷ es) fits =
    let bytes = flat_map entry_bytes es in
    let cut : drop 20 (entry_bytes e ++ bytes) ≡ bytes = drop_at (entry_bytes e) bytes 20 (length-entry e) in
    ap (first_entries (suc (length es))) (flat_map-cons entry_bytes e es)
    ∙ ap (λ (x : Rte). x ∷ first_entries (length es) (drop 20 (entry_bytes e ++ bytes))) (entry_again e bytes fits.0)
    ∙ ap (λ (x : List ℕ). e ∷ first_entries (length es) x) cut
    ∙ ap (λ (xs : List Rte). e ∷ xs) (first_again es fits.1)

-- the whole entries of the bytes of entries are these entries
pub entries_again : (es : List Rte) → AllByRecursion Fits es → entries_of (flat_map entry_bytes es) ≡ es
entries_again es fits =
    let bytes = flat_map entry_bytes es in
    let count : length bytes / 20 ≡ length es = omega (arith, length_entries es) in
    ap (λ (n : ℕ). first_entries n bytes) count ∙ first_again es fits

-- ---- one step of the iterator

-- an entry reads no byte past its 20
entry_first : (b : List ℕ) → entry_of b ≡ entry_of (take 20 b)
unfolding entry_of
entry_first b =
    let two : big_number 2 (drop 16 (take 20 b)) ≡ big_number 2 (drop 16 b) =
    ap (big_number 2) (drop-take 16 4 b) ∙ big_from-take 0 2 4 (drop 16 b) (omega arith) in
    same_rte (entry_of (take 20 b)) _ _ _ _
    (sym (big_from-take 0 16 20 b (omega arith))) (sym two)
    (sym (get_or-take 20 b 18 0 (omega arith))) (sym (get_or-take 20 b 19 0 (omega arith)))

-- 20 bytes are the first entry, and the others stand behind them
pub entries_step : (b : List ℕ) → 20 ≤ length b → entries_of b ≡ entry_of (take 20 b) ∷ entries_of (drop 20 b)
unfolding first_entries
entries_step b le =
    let count : length b / 20 ≡ suc (length (drop 20 b) / 20) = omega (arith, length-drop 20 b) in
    ap (λ (n : ℕ). first_entries n b) count
    ∙ ap (λ (x : Rte). x ∷ entries_of (drop 20 b)) (entry_first b)

-- fewer than 20 bytes hold no entry
pub entries_none : (b : List ℕ) → length b < 20 → entries_of b ≡ []
unfolding first_entries
entries_none b lt =
    let count : length b / 20 ≡ 0 = omega arith in
    ap (λ (n : ℕ). first_entries n b) count
