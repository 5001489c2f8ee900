-- What is written of an address is in the grammar, and is what RFC 5952 asks for.
use Rattle.std.proofs.Common.{◌≡◌, ◌≢◌, ℕ, ◌/◌, ◌%◌, ◌^◌, ◌<◌, ◌≤◌, List, [], ◌∷◌, All, length, get_or, refl, sym, ap, ap₂, ◌∙◌, ◌↔◌, subst, arith, inl, inr, le-leb, le-ltb, lt-ltb}
use Rattle.std.proofs.lemmas.Bool.{cases_lt, lt-leb}
use Rattle.std.proofs.lemmas.Bool.Decides.{nat_tests}
use Rattle.std.proofs.lemmas.List.Elements.{All-nil, All-cons, All-head, All-tail}
use Rattle.std.specs.Char.{digit_char, digit_value}
use Rattle.std.specs.Net.Text.{hex, hex_groups_text, hex_groups_addr, longest_zero_run}
use Rattle.std.specs.Net.Addr.{ipv6_segments, IsIpv6OfBits}
use Rattle.std.specs.declared.net.ipv6_addr.Ipv6Addr.{Ipv6Addr}
use Rattle.std.specs.declared.net.display.HexGroups.{HexGroups}
use Rattle.std.proofs.NetLemmas.Alphabet.{All-hex_groups_text, IsHexOrColon}
use Rattle.std.proofs.NetLemmas.Texts.{IsColonHex-hex_groups_text, IsZeroRun-longest_zero_run, longest_zero_run_first}
use Rattle.prefix6.specs.Addr.{groups_of}
use Rattle.prefix6.specs.Text.{ReadsAs, Reads}
use Rattle.prefix6.specs.Written.{written, written_addr, shortened, IsZeroRun, IsShortest, IsCanonical, IsLowerCase, IsPlainGroup}
use Rattle.prefix6.proofs.Grammar.{Lacks, from_colon_hex}
use Rattle.prefix6.proofs.Groups.{segments-groups_of, length-groups_of, groups_of-fit}

-- std writes the same
pub hex_groups_text-written : (groups : List ℕ) → hex_groups_text groups ≡ written groups
unfolding hex_groups_text written
hex_groups_text-written groups = refl

-- what std shows of the address of a number
pub shown : (g : HexGroups) (addr : Ipv6Addr) (n : ℕ) → hex_groups_addr g ≡ addr → IsIpv6OfBits addr n → hex_groups_text (ipv6_segments (hex_groups_addr g)) ≡ written_addr n
unfolding IsIpv6OfBits written_addr
shown g addr n is of_bits =
    ap (λ (x : Ipv6Addr). hex_groups_text (ipv6_segments x)) is ∙ hex_groups_text-written (ipv6_segments addr) ∙ ap written (of_bits ∙ segments-groups_of n)

Lacks-from_all : (b : ℕ) (P : ℕ → Type 0) → ((c : ℕ) → P c → c ≢ b) → (xs : List ℕ) → All P xs → Lacks b xs
Lacks-from_all b P other [] h = tt
Lacks-from_all b P other (x ∷ xs) h = (other x (All-head P x xs h), Lacks-from_all b P other xs (All-tail P x xs h))

no_dot : (c : ℕ) → IsHexOrColon c → c ≢ 46
no_dot c (inl h) same = omega arith
no_dot c (inr h) same = omega arith

written-reads : (groups : List ℕ) → length groups ≡ 8 → ((k : ℕ) → get_or groups k 0 < 2 ^ 16) → ReadsAs (written groups) groups
written-reads groups eight fits =
    let lacks = Lacks-from_all 46 IsHexOrColon no_dot _ (All-hex_groups_text groups fits) in
    subst (λ text. ReadsAs text groups) (hex_groups_text-written groups)
    (from_colon_hex _ groups lacks (IsColonHex-hex_groups_text groups eight fits))

-- the text of an address reads as it
pub written_addr-reads : (a : ℕ) → a < 2 ^ 128 → Reads (written_addr a) a
unfolding written_addr
written_addr-reads a low = record { in_range = low; groups = written-reads (groups_of a) (length-groups_of a) (groups_of-fit a) }

written-canonical : (groups : List ℕ) → IsCanonical groups (written groups)
unfolding written
written-canonical groups =
    let run = longest_zero_run groups in
    let (within, zeros) = IsZeroRun-longest_zero_run groups in
    let best : (s l : ℕ) → IsZeroRun groups s l → (l ≤ run.1) × (l ≡ run.1 → run.0 ≤ s) = λ s l h. longest_zero_run_first groups s l (h.within, h.zeros) in
    elim (cases_lt 1 run.1) [
      | inl long ↦ rw (lt-ltb 1 run.1 long) (inl (record {
        start = run.0;
        len = run.1;
        run = record { within = within; zeros = zeros };
        two = omega arith;
        longest = λ s l h. (best s l h).0;
        first = λ s h. (best s run.1 h).1 refl;
        spelled = refl;
      }))
      | inr short ↦ rw (le-ltb 1 run.1 short) (inr (λ s l h. omega (arith, best s l h), refl))
    ]

one_shortest : (groups text other : List ℕ) → IsShortest groups text → IsShortest groups other → text ≡ other
one_shortest groups text other h k =
    let len : h.len ≡ k.len = omega (arith, h.longest k.start k.len k.run, k.longest h.start h.len h.run) in
    let here = h.first k.start (subst (IsZeroRun groups k.start) (sym len) k.run) in
    let there = k.first h.start (subst (IsZeroRun groups h.start) len h.run) in
    let start : h.start ≡ k.start = omega arith in
    h.spelled ∙ ap₂ (λ (s l : ℕ). shortened groups (s, l)) start len ∙ sym k.spelled

-- there is one canonical text
one_canonical : (groups text other : List ℕ) → IsCanonical groups text → IsCanonical groups other → text ≡ other
one_canonical groups text other (inl h) (inl k) = one_shortest groups text other h k
one_canonical groups text other (inl h) (inr k) = absurd (omega (arith, k.0 h.start h.len h.run, h.two))
one_canonical groups text other (inr h) (inl k) = absurd (omega (arith, h.0 k.start k.len k.run, k.two))
one_canonical groups text other (inr h) (inr k) = h.1 ∙ sym k.1

pub canonical_is_written : (groups text : List ℕ) → IsCanonical groups text ↔ (text ≡ written groups)
canonical_is_written groups text = (
  λ h. one_canonical groups text (written groups) h (written-canonical groups),
  λ same. subst (IsCanonical groups) (sym same) (written-canonical groups),
)

-- a digit below 16 as it is written
record Glyph (d : ℕ) : Type 0 where
  value : digit_value (digit_char d) ≡ d
  lower_case : IsLowerCase (digit_char d)
  nonzero : digit_char d ≡ 48 → d ≡ 0

glyph : (d : ℕ) → d < 16 → Glyph d
glyph d h = record { value = grind (arith, nat_tests); lower_case = grind (arith, nat_tests); nonzero = grind (arith, nat_tests) }

pub hex_is_plain : (n : ℕ) → n < 2 ^ 16 → IsPlainGroup (hex n) n
unfolding hex
hex_is_plain n fits =
    let a = glyph (n / 0x1000) (omega arith) in
    let b = glyph (n / 0x100 % 16) (omega arith) in
    let c = glyph (n / 0x10 % 16) (omega arith) in
    let d = glyph (n % 16) (omega arith) in
    let low : List ℕ = digit_char (n % 16) ∷ [] in
    let lower : List ℕ = digit_char (n / 0x10 % 16) ∷ low in
    let all : List ℕ = digit_char (n / 0x100 % 16) ∷ lower in
    let last : All IsLowerCase low = All-cons IsLowerCase (digit_char (n % 16)) [] d.lower_case (All-nil IsLowerCase) in
    let two : All IsLowerCase lower = All-cons IsLowerCase (digit_char (n / 0x10 % 16)) low c.lower_case last in
    let three : All IsLowerCase all = All-cons IsLowerCase (digit_char (n / 0x100 % 16)) lower b.lower_case two in
    elim (cases_lt n 0x1000) [
      | inr four ↦ rw (le-leb _ n four) (record {
        reads = record { digits = omega arith; short = omega arith; value = omega arith };
        lower_case = All-cons IsLowerCase (digit_char (n / 0x1000)) all a.lower_case three;
        no_leading_zero = λ zero. absurd (omega (arith, a.nonzero zero));
      })
      | inl h₃ ↦ elim (cases_lt n 0x100) [
        | inr h ↦ rw (lt-leb _ n h₃, le-leb _ n h) (record {
          reads = record { digits = omega arith; short = omega arith; value = omega arith };
          lower_case = three;
          no_leading_zero = λ zero. absurd (omega (arith, b.nonzero zero));
        })
        | inl h₂ ↦ elim (cases_lt n 0x10) [
          | inr h ↦ rw (lt-leb _ n h₃, lt-leb _ n h₂, le-leb _ n h) (record {
            reads = record { digits = omega arith; short = omega arith; value = omega arith };
            lower_case = two;
            no_leading_zero = λ zero. absurd (omega (arith, c.nonzero zero));
          })
          | inl h₁ ↦ rw (lt-leb _ n h₃, lt-leb _ n h₂, lt-leb _ n h₁) (record {
            reads = record { digits = omega arith; short = omega arith; value = omega arith };
            lower_case = last;
            no_leading_zero = λ zero. refl;
          })
        ]
      ]
    ]
