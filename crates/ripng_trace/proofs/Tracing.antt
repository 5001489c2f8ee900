-- What the tracer has written of a script.
use Rattle.std.proofs.Common.{◌≡◌, ◌∙◌, ℕ, Bool, List, [], Option, None, ap, refl, subst, subst₂, sym}
use Rattle.ripng_world.specs.Labs.{LabValue}
use Rattle.ripng_world.specs.Watching.{Told}
use Rattle.ripng_lab.specs.Asides.{Aside}
use Rattle.ripng_lab.specs.Doing.{HasDone}
use Rattle.ripng_lab.specs.Scripts.{IsOfScript}
use Rattle.ripng_lab.specs.ScriptWatching.{IsToldOfLab, IsToldUntil, Telling}
use Rattle.ripng_trace.specs.Lines.{written_as}
use Rattle.ripng_trace.specs.Reading.{IsTracedUntil}
use Rattle.ripng_trace.specs.Scripts.{AreRecordsOf, IsScriptTraced, IsTraceOf}
use Rattle.ripng_trace.specs.Saying.{BreaksOff, SameOutput, Said, SaysAside, SaysEvent, SaysStart, said_by}
use Rattle.ripng_trace.specs.declared.tracer.Tracer.{Tracer}
use Rattle.ripng_trace.specs.declared.to_json.Form.{Form}
use Rattle.ripng_trace.proofs.Reading.{LinesFrom, kept, kept_until, lines_told, until_told}

-- who has read nothing, and is before the first line
traced_from : (ts : List Telling) (said said' : Said) (end : Option LabValue) → said.known.line ≡ 0 → LinesFrom None [] said ts end said' → IsTraceOf ts said.written end said'.written
traced_from ts said said' end zeroth all = (all.0, all.1, all.2, subst (λ (k : ℕ). AreRecordsOf k ts all.0) zeroth all.3)

module _ {W : Type 0} (contents : W → Option (List ℕ)) where
  -- its ghost members
  abbrev starts_by : Tracer W → LabValue → ℕ → Tracer W → Type 0
  starts_by old lab now new = SaysStart (said_by contents old) lab now (said_by contents new) × SameOutput old new

  abbrev takes_by : Tracer W → Told → Tracer W → Type 0
  takes_by old what new = SaysEvent (said_by contents old) what (said_by contents new) × SameOutput old new

  abbrev fails_by : Tracer W → Told → Tracer W → Type 0
  fails_by old what new = BreaksOff (said_by contents old) what (said_by contents new) × SameOutput old new

  abbrev notes_by : Tracer W → Aside → Tracer W → Type 0
  notes_by old what new = SaysAside (said_by contents old) what (said_by contents new) × SameOutput old new

  -- by another name of what it writes to
  pub traced_to : (script : List ℕ) (done : Bool) (before : Option (List ℕ)) (end : Option LabValue) (form : Form) (o o' : W) → o' ≡ o
      → IsScriptTraced script done before end (written_as form (contents o)) → IsScriptTraced script done before end (written_as form (contents o'))
  traced_to script done before end form o o' same is = subst (λ (x : W). IsScriptTraced script done before end (written_as form (contents x))) (sym same) is

  module _ (v v' : Tracer W) (end : Option LabValue) where
    -- it holds the same reference to what it writes to
    told_same : IsToldOfLab starts_by takes_by notes_by (None, v) (end, v') → v.out.ghost_name ≡ v'.out.ghost_name
    told_same told =
        sym (kept (λ (t : Tracer W). t.out.ghost_name) starts_by takes_by fails_by notes_by (λ a l now b h. h.1.1) (λ a what b h. h.1.1) (λ a what b h. h.1.1) (λ a what b h. h.1.1) told.0 (None, v) (end, v') told.1)

    pub done_same : {means : List Telling → Type 0} → HasDone means starts_by takes_by notes_by (None, v) (end, v') → v.out.ghost_name ≡ v'.out.ghost_name
    done_same done = told_same (done.0, done.2)

    pub until_same : IsToldUntil starts_by takes_by fails_by notes_by (None, v) (end, v') → v.out.ghost_name ≡ v'.out.ghost_name
    until_same until =
        sym (kept_until (λ (t : Tracer W). t.out.ghost_name) starts_by takes_by fails_by notes_by (λ a l now b h. h.1.1) (λ a what b h. h.1.1) (λ a what b h. h.1.1) (λ a what b h. h.1.1) (None, v) (end, v') until)

    -- and writes in the same form
    told_form : IsToldOfLab starts_by takes_by notes_by (None, v) (end, v') → v'.form ≡ v.form
    told_form told =
        kept (λ (t : Tracer W). t.form) starts_by takes_by fails_by notes_by (λ a l now b h. h.1.0) (λ a what b h. h.1.0) (λ a what b h. h.1.0) (λ a what b h. h.1.0) told.0 (None, v) (end, v') told.1

    until_form : IsToldUntil starts_by takes_by fails_by notes_by (None, v) (end, v') → v'.form ≡ v.form
    until_form until =
        kept_until (λ (t : Tracer W). t.form) starts_by takes_by fails_by notes_by (λ a l now b h. h.1.0) (λ a what b h. h.1.0) (λ a what b h. h.1.0) (λ a what b h. h.1.0) (None, v) (end, v') until

    module _ (old out : W) (nothing : v.known.routers.items ≡ []) (first : v.out.now ≡ old) (last : out ≡ v'.out.now) where
      begins : (said_by contents v).written ≡ written_as v.form (contents old)
      begins = ap (λ (o : W). written_as v.form (contents o)) first

      ends : v'.form ≡ v.form → (said_by contents v').written ≡ written_as v.form (contents out)
      ends same = ap (λ (f : Form). written_as f (contents v'.out.now)) same ∙ ap (λ (o : W). written_as v.form (contents o)) (sym last)

      -- what it writes to has the lines
      pub traced : (script : List ℕ) (done : Bool) → v.known.line ≡ 0 → HasDone (IsOfScript script done) starts_by takes_by notes_by (None, v) (end, v')
          → IsScriptTraced script done (written_as v.form (contents old)) end (written_as v.form (contents out))
      traced script done zeroth h =
          let told : IsToldOfLab starts_by takes_by notes_by (None, v) (end, v') = (h.0, h.2) in
          subst₂ (λ (a b : Option (List ℕ)). IsScriptTraced script done a end b) begins (ends (told_form told))
          (h.0, h.1, traced_from h.0 (said_by contents v) (said_by contents v') end zeroth (lines_told (said_by contents) starts_by takes_by fails_by notes_by (λ a l now b h. h.0) (λ a what b h. h.0) (λ a what b h. h.0) (λ a what b h. h.0) h.0 None v end v' [] refl nothing h.2))

      pub traced_until : IsToldUntil starts_by takes_by fails_by notes_by (None, v) (end, v') → IsTracedUntil (written_as v.form (contents old)) end (written_as v.form (contents out))
      traced_until until =
          subst₂ (λ (a b : Option (List ℕ)). IsTracedUntil a end b) begins (ends (until_form until))
          (until_told (said_by contents) starts_by takes_by fails_by notes_by (λ a l now b h. h.0) (λ a what b h. h.0) (λ a what b h. h.0) (λ a what b h. h.0) v end v' nothing until)
