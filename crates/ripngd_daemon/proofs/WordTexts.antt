-- What is written has no space in its words, and is ASCII.
use Rattle.std.proofs.Common.{◌≡◌, ◌≢◌, ℕ, zero, suc, ◌<◌, ◌^◌, true, List, [], ◌∷◌, ◌++◌, All, get_or, codes, decimal, refl, subst, arith, inl, inr}
use Rattle.std.specs.Prelude.{nat_lt}
use Rattle.std.specs.List.{list_all}
use Rattle.std.specs.Str.{IsUtf8}
use Rattle.std.specs.Str.Parse.{AllDigits}
use Rattle.std.specs.Net.Text.{hex_groups_text}
use Rattle.std.proofs.NetLemmas.Alphabet.{All-hex_groups_text, IsHexOrColon}
use Rattle.std.proofs.lemmas.Bool.{ltb-true}
use Rattle.std.proofs.lemmas.Fmt.{decimal_is_IsNumeral}
use Rattle.std.proofs.lemmas.List.Elements.{All-nil, All-cons, All-append, All-weaker}
use Rattle.std.proofs.lemmas.List.Sums.{AllPass-from_list_all}
use Rattle.std.proofs.lemmas.Str.{IsUtf8-from_ascii}
use Rattle.std.proofs.lemmas.Str.Ascii.{IsAscii-from_all}
use Rattle.std.proofs.lemmas.Str.Parse.{digit_from_value}
use Rattle.prefix6.specs.Addr.{groups_of}
use Rattle.prefix6.specs.Prefix.{Prefix6, IsPrefix}
use Rattle.prefix6.specs.Written.{written, written_addr, written_prefix}
use Rattle.fib.specs.declared.change.Hop.{Hop}
use Rattle.fib.specs.declared.change.Hop.TheVariants.{Direct, Via}
use Rattle.fib.specs.declared.change.RouteChange.{RouteChange}
use Rattle.fib.specs.declared.change.RouteChange.TheVariants.{Install, Withdraw}
use Rattle.ripngd_engine.specs.Log.{HasNoLineFeed, hop_text, route_text, change_text}
use Rattle.ripngd_daemon.specs.Reading.{IsWritableHop, IsWritableChange}
use Rattle.ripngd_daemon.specs.Words.{IsInWord}

-- past the space and before the first byte that is not ASCII
abbrev pub IsPlain : ℕ → Type 0
IsPlain b = (32 < b) × (b < 128)

groups_of-fit : (n k : ℕ) → get_or (groups_of n) k 0 < 2 ^ 16
unfolding groups_of
groups_of-fit n zero = omega arith
groups_of-fit n (suc zero) = omega arith
groups_of-fit n (suc (suc zero)) = omega arith
groups_of-fit n (suc (suc (suc zero))) = omega arith
groups_of-fit n (suc (suc (suc (suc zero)))) = omega arith
groups_of-fit n (suc (suc (suc (suc (suc zero))))) = omega arith
groups_of-fit n (suc (suc (suc (suc (suc (suc zero)))))) = omega arith
groups_of-fit n (suc (suc (suc (suc (suc (suc (suc zero))))))) = omega arith
groups_of-fit n (suc (suc (suc (suc (suc (suc (suc (suc k)))))))) = omega arith

-- std writes the same
hex_groups_text-written : (a : ℕ) → hex_groups_text (groups_of a) ≡ written_addr a
unfolding hex_groups_text written written_addr
hex_groups_text-written a = refl

plain_hex : (b : ℕ) → IsHexOrColon b → IsPlain b
plain_hex b (inl h) = (omega arith, omega arith)
plain_hex b (inr h) = (omega arith, omega arith)

plain_addr : (a : ℕ) → All IsPlain (written_addr a)
plain_addr a = subst (All IsPlain) (hex_groups_text-written a)
    (All-weaker IsHexOrColon IsPlain plain_hex _ (All-hex_groups_text (groups_of a) (groups_of-fit a)))

plain_digits : (ds : List ℕ) → AllDigits 10 ds → All IsPlain ds
plain_digits [] h = All-nil IsPlain
plain_digits (c ∷ cs) h =
    let digit = digit_from_value c h.0 in
    All-cons IsPlain c cs (omega arith, omega arith) (plain_digits cs h.1)

plain_decimal : (n : ℕ) → n < 2 ^ 64 → All IsPlain (decimal n)
plain_decimal n fits = plain_digits (decimal n) (decimal_is_IsNumeral n fits).0.1

plain_prefix : (p : Prefix6) → IsPrefix p → All IsPlain (written_prefix p)
plain_prefix p h = All-append IsPlain (written_addr p.addr ++ (47 ∷ [])) (decimal p.len)
    (All-append IsPlain (written_addr p.addr) (47 ∷ []) (plain_addr p.addr) (All-cons IsPlain 47 [] (omega arith, omega arith) (All-nil IsPlain)))
    (plain_decimal p.len (omega (arith, h.short)))

in_word : (xs : List ℕ) → All IsPlain xs → IsInWord xs
in_word xs h = All-weaker IsPlain (λ b. b ≢ 32) (λ b plain same. omega arith) xs h

pub addr_in_word : (a : ℕ) → IsInWord (written_addr a)
addr_in_word a = in_word _ (plain_addr a)

pub decimal_in_word : (n : ℕ) → n < 2 ^ 64 → IsInWord (decimal n)
decimal_in_word n fits = in_word _ (plain_decimal n fits)

pub prefix_in_word : (p : Prefix6) → IsPrefix p → IsInWord (written_prefix p)
prefix_in_word p h = in_word _ (plain_prefix p h)

-- from the space on and before the first byte that is not ASCII
abbrev pub IsPrintable : ℕ → Type 0
IsPrintable b = (31 < b) × (b < 128)

printable : (xs : List ℕ) → All IsPlain xs → All IsPrintable xs
printable xs h = All-weaker IsPlain IsPrintable (λ b plain. (omega (arith, plain.0), plain.1)) xs h

literal : (xs : List ℕ) → list_all (λ b. nat_lt 31 b) xs ≡ true → list_all (λ b. nat_lt b 128) xs ≡ true → All IsPrintable xs
literal xs low high k d lt =
    (ltb-true 31 _ (AllPass-from_list_all (λ b. nat_lt 31 b) xs low k d lt), ltb-true _ 128 (AllPass-from_list_all (λ b. nat_lt b 128) xs high k d lt))

printable_hop : (hop : Hop) → IsWritableHop hop → All IsPrintable (hop_text hop)
printable_hop Direct h = literal (codes "direct") refl refl
printable_hop (Via iface next_hop) h =
    All-append IsPrintable (codes "via ") _ (literal (codes "via ") refl refl)
    (All-append IsPrintable (written_addr next_hop) _ (printable _ (plain_addr next_hop))
    (All-append IsPrintable (codes " iface ") _ (literal (codes " iface ") refl refl) (printable _ (plain_decimal iface h.0))))

printable_route : (p : Prefix6) (hop : Hop) (metric : ℕ) → IsPrefix p → IsWritableHop hop → metric < 2 ^ 8 → All IsPrintable (route_text p hop metric)
printable_route p hop metric is_prefix is_hop fits =
    All-append IsPrintable (written_prefix p) _ (printable _ (plain_prefix p is_prefix))
    (All-append IsPrintable (codes " metric ") _ (literal (codes " metric ") refl refl)
    (All-append IsPrintable (decimal metric) _ (printable _ (plain_decimal metric (omega arith)))
    (All-append IsPrintable (codes " ") _ (literal (codes " ") refl refl) (printable_hop hop is_hop))))

printable_change : (c : RouteChange) → IsWritableChange c → All IsPrintable (change_text c)
printable_change (Install p hop metric) h =
    All-append IsPrintable (codes "add ") _ (literal (codes "add ") refl refl) (printable_route p hop metric h.0 h.1 h.2)
printable_change (Withdraw p) h =
    All-append IsPrintable (codes "del ") _ (literal (codes "del ") refl refl) (printable _ (plain_prefix p h))

pub change_utf8 : (c : RouteChange) → IsWritableChange c → IsUtf8 (change_text c)
change_utf8 c h = IsUtf8-from_ascii (change_text c) (IsAscii-from_all _ (All-weaker IsPrintable (λ b. b < 128) (λ b is. is.1) _ (printable_change c h)))

pub change_in_line : (c : RouteChange) → IsWritableChange c → HasNoLineFeed (change_text c)
change_in_line c h = All-weaker IsPrintable (λ b. b ≢ 10) (λ b is same. omega (arith, is.0)) _ (printable_change c h)

-- a literal word
pub literal_in_word : (xs : List ℕ) → list_all (λ b. nat_lt 32 b) xs ≡ true → IsInWord xs
literal_in_word xs h = All-weaker (λ b. nat_lt 32 b ≡ true) (λ b. b ≢ 32) (λ b past same. omega (arith, ltb-true 32 b past)) xs (AllPass-from_list_all (λ b. nat_lt 32 b) xs h)
