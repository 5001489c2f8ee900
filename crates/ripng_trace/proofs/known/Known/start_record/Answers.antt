use Rattle.std.proofs.Common.{◌≡◌, ◌≤◌, ◌++◌, ◌∷◌, [], ℕ, List, None, Some, ap, append_assoc, arith, length, slice_get, subst, sym, take, ◌∙◌}
use Rattle.std.specs.Option.{option_copied}
use Rattle.std.proofs.lemmas.List.{length-map, take_all}
use Rattle.std.proofs.lemmas.Option.{slice_get_within}
use Rattle.ripng_trace.specs.Reading.{known_of}
use Rattle.ripng_trace.specs.Records.{known_as}
use Rattle.ripng_trace.specs.Starting.{TellsRouter}
use Rattle.ripng_trace.specs.declared.known.KnownRouter.{KnownRouter}
use Rattle.ripng_trace.specs.declared.records.RouterRecord.{RouterRecord}
use Rattle.ripng_trace.proofs.Listing.{each_pushed}
use Rattle.ripng_trace.proofs.Starting.{all_there, known_more, length_push}
use Rattle.ripng_trace.proofs.known.Known.start_record.Goals as goal

pub loop-router-preserved : goal.loop-router-preserved
loop-router-preserved c =
    let w = c.args.lab.now.world in
    let records = c.loop-router.routers.items in
    let r = c.in_ok-record.record in
    let s = c.in-Some.router.now in
    let before = c.args.self.now.routers.items in
    let pushed = c.in_ok-push.ensures.items in
    let n : c.len.result ≡ length records = omega (arith, c.len.ensures, c.loop-router.routers.ok.0) in
    let m : c.len-in-Some.result ≡ length records = omega (arith, c.len-in-Some.ensures, c.loop-router.routers.ok.0) in
    let here : slice_get w.states (length records) ≡ Some s = ap (slice_get w.states) (sym n) ∙ sym c.in-Some.ensures in
    let tells : TellsRouter c.args.lab.now (length records) r =
    subst (λ (k : ℕ). TellsRouter c.args.lab.now k r) m (c.in_ok-record.ensures.tells (ap (slice_get w.states) m ∙ here)) in
    record {
      known = c.in_ok-record.ensures.known ∙ ap (λ (ks : List KnownRouter). ks ++ known_as s ∷ []) c.loop-router.invariant.known
          ∙ append_assoc before (take (length records) (known_of w)) (known_as s ∷ [])
          ∙ ap (λ (ks : List KnownRouter). before ++ ks) (sym (known_more known_as w records r s here))
          ∙ ap (λ (rs : List RouterRecord). before ++ take (length rs) (known_of w)) (sym pushed);
      line = c.in_ok-record.ensures.line ∙ c.loop-router.invariant.line;
      few = subst (λ (rs : List RouterRecord). length rs ≤ length w.states) (sym pushed) (omega (arith, length_push records r, slice_get_within w.states (length records) s here));
      each = λ k told is. each_pushed (TellsRouter c.args.lab.now) records r c.loop-router.invariant.each tells k told (ap (λ (rs : List RouterRecord). slice_get rs k) (sym pushed) ∙ is);
    }

pub returns : goal.returns
returns c =
    let w = c.args.lab.now.world in
    let records = c.loop-router.routers.items in
    let n : c.len.result ≡ length records = omega (arith, c.len.ensures, c.loop-router.routers.ok.0) in
    let none : slice_get w.states (length records) ≡ None = ap (slice_get w.states) (sym n) ∙ sym c.router.ensures ∙ ap option_copied c.in_default.is in
    let all = all_there w.states (length records) none in
    record {
      tells = record {
        at_line = c.loop-router.invariant.line;
        moment_is = c.ms.ensures.value;
        routers = record { as_many = omega (arith, c.loop-router.invariant.few, all); each = c.loop-router.invariant.each };
        sent_are = c.in_ok-sent_since.ensures;
      };
      routers_are = c.loop-router.invariant.known
          ∙ ap (λ (ks : List KnownRouter). c.args.self.now.routers.items ++ ks)
          (take_all (length records) (known_of w) (omega (arith, all, length-map w.states known_as)));
      line_is = c.loop-router.invariant.line;
    }
