-- Lines that are written.
use Rattle.std.proofs.Common.{◌≡◌, ◌≢◌, ◌<◌, ◌≤◌, ◌+◌, ◌-◌, ◌∙◌, ℕ, drop, sym, List, [], ◌∷◌, ◌++◌, OnErr, OnOk, Option, None, Result, Ok, Err, ap, arith, inl, inr, length, refl, subst, take}
use Rattle.std.specs.Io.KnownBytes.{Appends}
use Rattle.std.proofs.KnownBytes.{Appends-trans}
use Rattle.std.proofs.Math.Arith.{lt_of_le-ne}
use Rattle.std.proofs.Math.Seq.{take-add}
use Rattle.std.proofs.lemmas.List.{length-drop, take-append-le, take_rest}
use Rattle.json.specs.Json.{Json}
use Rattle.ripng_trace.specs.Json.{text_of}
use Rattle.ripng_trace.specs.Lines.{WritesLess, WritesRecord, written_as}
use Rattle.ripng_trace.specs.declared.to_json.Form.{Form}
use Rattle.ripng_trace.specs.declared.to_json.Form.TheVariants as form
use Rattle.ripng_trace.proofs.Starting.{length_push}

module _ {X E : Type 0} (result : Result X E) (json : Json) (bytes : List ℕ) (old new : Option (List ℕ)) (is : bytes ≡ text_of json ++ 10 ∷ []) where
  -- a text and a line feed were written
  pub record_written : OnOk result (Appends old new bytes) → OnOk result (WritesRecord json old new)
  record_written = by result
    where
      by : (q : Result X E) → OnOk q (Appends old new bytes) → OnOk q (WritesRecord json old new)
      by (Ok x) h = record { appends = subst (Appends old new) is h }
      by (Err e) h = tt

  -- less of them was
  pub record_broken : OnErr result ((count : ℕ) × (count < length bytes) × Appends old new (take count bytes)) → OnErr result (WritesLess old new)
  record_broken = by result
    where
      by : (q : Result X E) → OnErr q ((count : ℕ) × (count < length bytes) × Appends old new (take count bytes)) → OnErr q (WritesLess old new)
      by (Ok x) h = tt
      by (Err e) h =
          let few = subst (λ (bs : List ℕ). h.0 < length bs) is h.1 in
          let begins = ap (take h.0) is ∙ take-append-le h.0 (text_of json) (10 ∷ []) (omega (arith, few, length_push (text_of json) 10)) in
          inr (json, h.0, subst (Appends old new) begins h.2)

-- more bytes are written, from a place on
module _ (bytes : List ℕ) (at count next : ℕ) (before : at < length bytes) (is : next ≡ at + count) where
  pub few_more : count ≤ length (take (length bytes - at) (drop at bytes)) → next ≢ length bytes → next < length bytes
  few_more few other =
      let left = ap length (take_rest bytes at) ∙ length-drop at bytes in
      lt_of_le-ne (omega (arith, before, is, few, left)) other

  pub more_written : (old mid new : Option (List ℕ)) → Appends old mid (take at bytes) → Appends mid new (take count (take (length bytes - at) (drop at bytes))) → Appends old new (take next bytes)
  more_written old mid new first rest =
      subst (λ (n : ℕ). Appends old new (take n bytes)) (sym is)
      (subst (Appends old new) (ap (λ (bs : List ℕ). take at bytes ++ take count bs) (take_rest bytes at) ∙ sym (take-add at count bytes))
      (Appends-trans old mid new (take at bytes) (take count (take (length bytes - at) (drop at bytes))) first rest))

-- a record that is written as JSON is so in that form
module _ {X E : Type 0} (result : Result X E) (json : Json) (f : Form) (old new : Option (List ℕ)) (is : f ≡ form.Json) where
  pub whole_as : OnOk result (WritesRecord json old new) → OnOk result (WritesRecord json (written_as f old) (written_as f new))
  whole_as whole = subst (λ (g : Form). OnOk result (WritesRecord json (written_as g old) (written_as g new))) (sym is) whole

  pub broken_as : OnErr result (WritesLess old new) → OnErr result (WritesLess (written_as f old) (written_as f new))
  broken_as broken = subst (λ (g : Form). OnErr result (WritesLess (written_as g old) (written_as g new))) (sym is) broken

-- of English nothing is claimed
module _ {X E : Type 0} (result : Result X E) (json : Json) (f : Form) (old new : Option (List ℕ)) (is : f ≡ form.English) where
  pub whole_unclaimed : OnOk result (WritesRecord json (written_as f old) (written_as f new))
  whole_unclaimed = subst (λ (g : Form). OnOk result (WritesRecord json (written_as g old) (written_as g new))) (sym is) (by result)
    where
      by : (q : Result X E) → OnOk q (WritesRecord json None None)
      by (Ok x) = record { appends = tt }
      by (Err e) = tt

  pub broken_unclaimed : OnErr result (WritesLess (written_as f old) (written_as f new))
  broken_unclaimed = subst (λ (g : Form). OnErr result (WritesLess (written_as g old) (written_as g new))) (sym is) (by result)
    where
      by : (q : Result X E) → OnErr q (WritesLess None None)
      by (Ok x) = tt
      by (Err e) = inl refl
