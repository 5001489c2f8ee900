-- What the readers of words and lines find, from what is written.
use Rattle.std.proofs.Common.{◌≡◌, ◌≢◌, ℕ, ◌<◌, ◌^◌, List, [], ◌∷◌, ◌++◌, get_or, codes, decimal, Option, Some, None, Result, Ok, Err, Bor, refl, sym, ap, ◌∙◌, subst, arith}
use Rattle.std.specs.Prelude.{unwrap_or}
use Rattle.std.specs.Result.{result_ok}
use Rattle.std.specs.Str.Parse.{AllDigits, IsNumeral, digits_value, ParsesUnsigned}
use Rattle.std.proofs.lemmas.Fmt.{decimal_is_IsNumeral}
use Rattle.std.proofs.lemmas.Str.Parse.{digit_from_value, without_leading_plus_none}
use Rattle.std.proofs.lemmas.Str.Pattern.{IsSplitOnceResult, split_after}
use Rattle.prefix6.specs.Prefix.{Prefix6, IsPrefix}
use Rattle.prefix6.specs.Text.{ParsesAddr, Reads}
use Rattle.prefix6.specs.Written.{written_addr, written_prefix}
use Rattle.prefix6.specs.declared.error.PrefixError.{PrefixError}
use Rattle.fib.specs.declared.change.Hop.{Hop}
use Rattle.fib.specs.declared.change.Hop.TheVariants.{Via}
use Rattle.ripngd_engine.specs.Log.{hop_text, route_text}
use Rattle.ripngd_daemon.specs.Words.{CutsWord}
use Rattle.ripngd_daemon.proofs.WordTexts.{addr_in_word, decimal_in_word, prefix_in_word, literal_in_word}

pub word_is_cut : (line : List ℕ) (r : Option (Bor (List ℕ) × Bor (List ℕ))) (d : Bor (List ℕ) × Bor (List ℕ)) → IsSplitOnceResult 32 line r → CutsWord line (unwrap_or r d).0.now (unwrap_or r d).1.now
word_is_cut line None d cases word rest plain e = absurd (split_after 32 line word rest None cases (omega arith) e (λ i lt. plain i 0 lt))
word_is_cut line (Some x) d cases word rest plain e = split_after 32 line word rest (Some x) cases (omega arith) e (λ i lt. plain i 0 lt)

no_plus : (ds : List ℕ) → AllDigits 10 ds → get_or ds 0 0 ≢ 43
no_plus [] h same = omega arith
no_plus (c ∷ cs) h same = omega (arith, digit_from_value c h.0)

parsed : {E : Type 0} (k n : ℕ) (r : Result ℕ E) → n < 2 ^ k → n < 2 ^ 64 → ParsesUnsigned k 10 (decimal n) r → result_ok r ≡ Some n
parsed k n (Ok x) small fits h =
    let numeral = decimal_is_IsNumeral n fits in
    let plain = without_leading_plus_none (decimal n) (no_plus (decimal n) numeral.0.1) in
    ap Some (h.1 ∙ ap (digits_value 10) plain ∙ numeral.1)
parsed k n (Err e) small fits h =
    let numeral = decimal_is_IsNumeral n fits in
    let plain = without_leading_plus_none (decimal n) (no_plus (decimal n) numeral.0.1) in
    absurd (h (subst (IsNumeral 10) (sym plain) numeral.0, subst (λ m. m < 2 ^ k) (sym (ap (digits_value 10) plain ∙ numeral.1)) small))

-- a numeral of a number that fits is read as it
pub number_is_read : {E : Type 0} (k n : ℕ) (text : List ℕ) (r : Result ℕ E) → n < 2 ^ k → n < 2 ^ 64 → text ≡ decimal n → ParsesUnsigned k 10 text r → result_ok r ≡ Some n
number_is_read k n text r small fits e h = parsed k n r small fits (subst (λ t. ParsesUnsigned k 10 t r) e h)

-- a written address is read as it
pub address_is_read : (a : ℕ) (text : List ℕ) (r : Result ℕ PrefixError) → Reads (written_addr a) a → text ≡ written_addr a → ParsesAddr text r → result_ok r ≡ Some a
address_is_read a text r reads e h = ap result_ok ((h.reads a).1 (subst (λ t. Reads t a) (sym e) reads))

-- what stands after three words of a text that have been cut off
module _ (text w1 t1 w2 t2 w3 t3 : List ℕ) (first : CutsWord text w1 t1) (second : CutsWord t1 w2 t2) (third : CutsWord t2 w3 t3) where
  pub hop_parts : (iface a : ℕ) → text ≡ hop_text (Via iface a) → (w2 ≡ written_addr a) × (t3 ≡ decimal iface)
  hop_parts iface a e =
      let one = first (codes "via") (written_addr a ++ (codes " iface " ++ decimal iface)) (literal_in_word (codes "via") refl) e in
      let two = second (written_addr a) (codes "iface " ++ decimal iface) (addr_in_word a) one.1 in
      let three = third (codes "iface") (decimal iface) (literal_in_word (codes "iface") refl) two.1 in
      (two.0, three.1)

  pub route_parts : (p : Prefix6) (hop : Hop) (metric : ℕ) → IsPrefix p → metric < 2 ^ 8 → text ≡ route_text p hop metric → (w1 ≡ written_prefix p) × (w3 ≡ decimal metric) × (t3 ≡ hop_text hop)
  route_parts p hop metric is_prefix fits e =
      let one = first (written_prefix p) (codes "metric " ++ (decimal metric ++ (codes " " ++ hop_text hop))) (prefix_in_word p is_prefix) e in
      let two = second (codes "metric") (decimal metric ++ (codes " " ++ hop_text hop)) (literal_in_word (codes "metric") refl) one.1 in
      let three = third (decimal metric) (hop_text hop) (decimal_in_word metric (omega arith)) two.1 in
      (one.0, three.0, three.1)
