-- All routes of a list are told, a run of them in each datagram.
use Rattle.std.proofs.Common.{◌≡◌, ◌+◌, ◌-◌, ◌<◌, ◌≤◌, ℕ, ◌∷◌, [], List, Option, Some, None, length, map, take, drop, slice_get, ap, sym, subst, ◌∙◌, arith, length-take, length-drop}
use Rattle.std.specs.Prelude.{T}
use Rattle.std.specs.FinMap.{is_sorted}
use Rattle.std.proofs.lemmas.List.{nil_from_length, take_min, drop_min}
use Rattle.std.proofs.lemmas.Option.{slice_get_within}
use Rattle.prefix6.specs.Prefix.{Prefix6, prefix_cmp}
use Rattle.ripng_wire.specs.Layout.{entries_for_mtu}
use Rattle.route_table.specs.Route.{RouteValue}
use Rattle.route_table.specs.Place.{Entries}
use Rattle.route_table.specs.Table.{past}
use Rattle.route_table.proofs.PastPrefix.{past_all, run_rest}
use Rattle.router_core.specs.Output.{Message, AddsSpelled, responses_at, told_entry, told_message}
use Rattle.router_core.specs.declared.answer.Destination.TheVariants.{Group}
use Rattle.router_core.specs.declared.answer.Outgoing.{Outgoing}
use Rattle.router_core.proofs.ToldRuns.{no_last}
use Rattle.router_core.proofs.Sending.{SpelledTo, SpelledTo-start, SpelledTo-end, responses-nil, told-added}

abbrev pub Entry : Type 0
Entry = Prefix6 × RouteValue

-- the Responses that tell these routes
abbrev pub tells : ℕ → ℕ → Entries → List Message
tells mtu iface routes = responses_at mtu iface Group (map (told_entry iface) routes)

-- the routes up to a prefix are told, in so many datagrams at most
pub record IsTold (mtu iface : ℕ) (es : Entries) (after : Option Prefix6) (done : ℕ) (old new : List Outgoing) : Type 0 where
  pub so_far : SpelledTo (tells mtu iface es) (tells mtu iface (past after es)) old new
  pub few : length new + length (past after es) ≤ length old + length es
  pub left : length (past after es) + done ≤ length es

pub IsTold-start : (mtu iface : ℕ) (es : Entries) (old : List Outgoing) → IsTold mtu iface es None 0 old old
IsTold-start mtu iface es old = record {
  so_far = subst (λ (rs : Entries). SpelledTo (tells mtu iface es) (tells mtu iface rs) old old) (sym (past_all es)) (SpelledTo-start (tells mtu iface es) old);
  few = omega (arith, ap length (past_all es));
  left = omega (arith, ap length (past_all es));
}

module _ (mtu iface : ℕ) (some : 0 < entries_for_mtu mtu) (es : Entries) (sorted : T (is_sorted prefix_cmp es)) (after : Option Prefix6) (done : ℕ) (old new : List Outgoing) (h : IsTold mtu iface es after done old new) where
  pub IsTold-next : (piece : Entries) (e : Entry) (newer : List Outgoing) → piece ≡ take (entries_for_mtu mtu) (past after es) → slice_get piece (length piece - 1) ≡ Some e
      → AddsSpelled (told_message iface piece ∷ []) new newer → length newer ≡ length new + 1 → IsTold mtu iface es (Some e.0) (done + 1) old newer
  IsTold-next piece e newer is last adds one =
      let n = entries_for_mtu mtu in
      let rest = past after es in
      let behind : past (Some e.0) es ≡ drop n rest = run_rest after es sorted n e (ap (λ (l : Entries). slice_get l (length l - 1)) (sym is) ∙ last) in
      let there : length piece - 1 < length piece = slice_get_within piece (length piece - 1) e last in
      let more : 0 < length rest = omega (arith, there, ap length is, length-take n rest) in
      record {
        so_far = told-added mtu iface Group some (told_entry iface) (tells mtu iface es) rest piece (past (Some e.0) es) old new newer more h.so_far
            (is ∙ sym (take_min n rest)) (behind ∙ sym (drop_min n rest)) adds;
        few = omega (arith, h.few, one, some, more, ap length behind, length-drop n rest);
        left = omega (arith, h.left, some, more, ap length behind, length-drop n rest);
      }

  -- nothing is left
  pub IsTold-end : past after es ≡ [] → AddsSpelled (tells mtu iface es) old new
  IsTold-end none = SpelledTo-end (tells mtu iface es) old new
      (subst (λ (ms : List Message). SpelledTo (tells mtu iface es) ms old new) (ap (tells mtu iface) none ∙ responses-nil mtu iface Group some) h.so_far)

  -- an empty piece is behind the last
  pub IsTold-last : (piece : Entries) → piece ≡ take (entries_for_mtu mtu) (past after es) → slice_get piece (length piece - 1) ≡ None → AddsSpelled (tells mtu iface es) old new
  IsTold-last piece is none =
      let n = entries_for_mtu mtu in
      let rest = past after es in
      IsTold-end (nil_from_length rest (omega (arith, some, ap length (no_last piece none), ap length is, length-take n rest)))
