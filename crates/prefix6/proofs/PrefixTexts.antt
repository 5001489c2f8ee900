-- Texts of prefixes: where they are split, and that what is written is read back.
use Rattle.std.proofs.Common.{◌≡◌, ℕ, ◌≤◌, List, [], ◌∷◌, ◌++◌, length, decimal, refl, sym, ap, ap₂, ◌∙◌, subst, arith, inl, inr, append_assoc}
use Rattle.std.specs.Str.Parse.{digits_value}
use Rattle.std.proofs.lemmas.Bool.{cases_eq}
use Rattle.std.proofs.lemmas.Fmt.{decimal_is_IsNumeral, decimal_digit, first_decimal}
use Rattle.prefix6.specs.Prefix.{Prefix6, IsPrefix, cleared}
use Rattle.prefix6.specs.Text.{Reads, ReadsPrefix, IsLengthText}
use Rattle.prefix6.specs.Written.{written_addr, written_prefix}
use Rattle.prefix6.proofs.Grammar.{Lacks, Lacks-text}
use Rattle.prefix6.proofs.Values.{Reads_unique}
use Rattle.prefix6.proofs.WrittenForm.{written_addr-reads}

-- no slash stands in the text of an address
pub no_slash : (text : List ℕ) (a : ℕ) → Reads text a → Lacks 47 text
no_slash text a h = Lacks-text 47 text _ (omega arith) (omega arith) h.groups

-- a text has one first slash
pub one_split : (b : ℕ) (xs ys us vs : List ℕ) → Lacks b xs → Lacks b us → xs ++ (b ∷ ys) ≡ us ++ (b ∷ vs) → (xs ≡ us) × (ys ≡ vs)
one_split b [] ys [] vs h k e = (refl, cc)
one_split b [] ys (u ∷ us) vs h k e = let same : b ≡ u = cc in absurd (k.0 (sym same))
one_split b (x ∷ xs) ys [] vs h k e = let same : x ≡ b = cc in absurd (h.0 same)
one_split b (x ∷ xs) ys (u ∷ us) vs h k e =
    let head : x ≡ u = cc in
    let rest : xs ++ (b ∷ ys) ≡ us ++ (b ∷ vs) = cc in
    let later = one_split b xs ys us vs h.1 k.1 rest in
    (cc (later.0), later.1)

decimal_is_length : (len : ℕ) → len ≤ 128 → IsLengthText (decimal len) len
decimal_is_length len short =
    let numeral = decimal_is_IsNumeral len (omega arith) in
    record {
      digits = numeral.0;
      no_leading_zero = elim (cases_eq len 0) [
        | inl none ↦ λ first. ap length (ap decimal none ∙ decimal_digit 0 (omega arith))
        | inr some ↦ λ first. absurd (omega (arith, first_decimal len (omega arith) (omega arith)))
      ];
      value = numeral.1;
      bound = short;
    }

-- the text of a prefix reads as it
pub written_prefix-reads : (p : Prefix6) → IsPrefix p → ReadsPrefix (written_prefix p) p
written_prefix-reads p h = record {
  addr_text = written_addr p.addr;
  len_text = decimal p.len;
  addr = p.addr;
  spelled = refl;
  reads = written_addr-reads p.addr h.in_range;
  len = decimal_is_length p.len h.short;
  value = sym h.clear;
}

-- a text reads as one prefix at most
pub ReadsPrefix_unique : (text : List ℕ) (p q : Prefix6) → ReadsPrefix text p → ReadsPrefix text q → p ≡ q
ReadsPrefix_unique text p q h k =
    let split : h.addr_text ++ (47 ∷ h.len_text) ≡ k.addr_text ++ (47 ∷ k.len_text) = simp append_assoc at (sym h.spelled ∙ k.spelled) in
    let parts = one_split 47 h.addr_text h.len_text k.addr_text k.len_text (no_slash _ _ h.reads) (no_slash _ _ k.reads) split in
    let addr : h.addr ≡ k.addr = Reads_unique k.addr_text h.addr k.addr (subst (λ t. Reads t h.addr) parts.0 h.reads) k.reads in
    let len : p.len ≡ q.len = sym h.len.value ∙ ap (digits_value 10) parts.1 ∙ k.len.value in
    h.value ∙ ap₂ cleared addr len ∙ sym k.value
