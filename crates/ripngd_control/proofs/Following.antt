-- Pieces of what is shown: routes that follow one another, and the entries behind a prefix.
use Rattle.std.proofs.Common.{◌≡◌, ◌≢◌, ◌<◌, ◌≤◌, ◌+◌, ◌-◌, ◌∙◌, ℕ, zero, suc, List, [], ◌∷◌, ◌++◌, take, drop, length, length-append, length-drop, get_or, Option, Some, None, option_map, slice_get, refl, sym, ap, subst, arith, add-one, append-nil}
use Rattle.std.specs.Prelude.{codes, decimal, flat_map}
use Rattle.std.specs.List.{enumerate_from}
use Rattle.std.specs.Io.KnownBytes.{Appends}
use Rattle.std.proofs.KnownBytes.{Appends-nil, Appends-trans}
use Rattle.std.proofs.lemmas.Grind.{flat_map-append}
use Rattle.std.proofs.lemmas.List.{drop_all, take_all, take_more}
use Rattle.prefix6.specs.Prefix.{Prefix6}
use Rattle.prefix6.specs.Written.{written_addr}
use Rattle.fib.specs.Entries.{Entry, listed, AreAfter}
use Rattle.fib.specs.Forwarding.{Forwarding}
use Rattle.route_table.specs.Route.{RouteValue}
use Rattle.route_table.specs.Table.{Table, first_past}
use Rattle.router_core.specs.declared.config.Interface.{Interface}
use Rattle.router_core.proofs.Sending.{element_at, take_numbered}
use Rattle.ripngd_engine.specs.Log.{entry_lines, route_text}
use Rattle.ripngd_control.specs.Answers.{Follow, ShowsEntries, ShowsRoutes, last_prefix}
use Rattle.ripngd_engine.specs.Link.{queue_at}
use Rattle.ripngd_control.specs.Links.{LinksSeen, link_at}
use Rattle.ripngd_control.specs.Printed.{interface_line, interface_lines, row_lines, status_lines, status_text, tally_text}
use Rattle.ripngd_control.specs.declared.neighbors.Neighbor.{Neighbor}

-- ---- routes
-- so many routes were shown, one behind the other, up to this prefix
pub record Shown (table : Table) (now : ℕ) (after end : Option Prefix6) (count : ℕ) (old new : Option (List ℕ)) : Type 0 where
  pub shown : List (Prefix6 × RouteValue)
  pub follow : Follow table after shown end
  pub count_is : length shown ≡ count
  pub lines : Appends old new (status_lines now shown)

pub Shown-nothing : (table : Table) (now : ℕ) (after : Option Prefix6) (old : Option (List ℕ)) → Shown table now after after 0 old old
Shown-nothing table now after old = record { shown = []; follow = refl; count_is = refl; lines = Appends-nil old }

Follow-more : (table : Table) (after : Option Prefix6) (es : List (Prefix6 × RouteValue)) (end : Option Prefix6) (e : Prefix6 × RouteValue)
    → Follow table after es end → first_past end table ≡ Some e → Follow table after (es ++ e ∷ []) (Some e.0)
Follow-more table after [] end e same next = (subst (λ p. first_past p table ≡ Some e) same next, refl)
Follow-more table after (x ∷ es) end e h next = (h.0, Follow-more table (Some x.0) es end e h.1 next)

length-push : {X : Type 0} (xs : List X) (x : X) (n : ℕ) → length xs ≡ n → length (xs ++ x ∷ []) ≡ n + 1
length-push [] x n is = omega (arith, is)
length-push (y ∷ ys) x zero is = absurd (omega (arith, is))
length-push (y ∷ ys) x (suc n) is = let rest = length-push ys x n (omega (arith, is)) in omega (arith, rest)

-- the line of one route more
pub Shown-more : (table : Table) (now : ℕ) (after end : Option Prefix6) (count : ℕ) (old mid new : Option (List ℕ)) (p : Prefix6) (r : RouteValue)
    → Shown table now after end count old mid → first_past end table ≡ Some (p, r) → Appends mid new (status_text p r now ++ 10 ∷ [])
    → Shown table now after (Some p) (count + 1) old new
Shown-more table now after end count old mid new p r h next line = record {
  shown = h.shown ++ (p, r) ∷ [];
  follow = Follow-more table after h.shown end (p, r) h.follow next;
  count_is = length-push h.shown (p, r) count h.count_is;
  lines = rw (flat_map-append (λ e. status_text e.0 e.1 now ++ 10 ∷ []) h.shown ((p, r) ∷ []), append-nil (status_text p r now ++ 10 ∷ []))
      (Appends-trans old mid new (status_lines now h.shown) _ h.lines line);
}

-- the lines of one more
pub flat_map-take : {X : Type 0} (f : X → List ℕ) (xs : List X) (i : ℕ) (x : X) → i < length xs → x ≡ get_or xs i x
    → flat_map f (take (i + 1) xs) ≡ flat_map f (take i xs) ++ f x
flat_map-take {X} f xs i x lt is =
    ap (flat_map f) (take_more xs i x lt ∙ ap (λ (y : X). take i xs ++ y ∷ []) (sym is)) ∙ flat_map-append f (take i xs) (x ∷ [])
    ∙ ap (λ (t : List ℕ). flat_map f (take i xs) ++ t) (append-nil (f x))

pub row_lines_more : (rows : List Neighbor) (i : ℕ) (r : Neighbor) → i < length rows → r ≡ get_or rows i r
    → row_lines (take (i + 1) rows) ≡ row_lines (take i rows) ++ (codes "iface " ++ (decimal r.iface ++ (codes " from " ++ (written_addr r.source ++ (tally_text r.tally ++ 10 ∷ [])))))
row_lines_more rows i r lt is =
    flat_map-take (λ n. codes "iface " ++ (decimal n.iface ++ (codes " from " ++ (written_addr n.source ++ (tally_text n.tally ++ 10 ∷ []))))) rows i r lt is

pub interface_lines_more : (links : LinksSeen) (xs : List Interface) (i : ℕ) (x : Interface) → i < length xs → x ≡ get_or xs i x
    → interface_lines links (take (i + 1) (enumerate_from 0 xs)) ≡ interface_lines links (take i (enumerate_from 0 xs)) ++ interface_line (link_at links.rows i) (queue_at links.queues i) (i, x)
interface_lines_more links xs i x lt is =
    ap (interface_lines links) (take_numbered xs i x (element_at xs i x lt is))
    ∙ flat_map-append (λ e. interface_line (link_at links.rows e.0) (queue_at links.queues e.0) e) (take i (enumerate_from 0 xs)) ((i, x) ∷ [])
    ∙ ap (λ (t : List ℕ). interface_lines links (take i (enumerate_from 0 xs)) ++ t) (append-nil _)

-- behind some routes there is a last prefix
pub Follow-end : (table : Table) (after : Option Prefix6) (es : List (Prefix6 × RouteValue)) (end : Option Prefix6)
    → Follow table after es end → 1 ≤ length es → end ≢ None
Follow-end table after [] end h some = absurd (omega (arith, some))
Follow-end table after (e ∷ []) end same some = λ none. absurd (cc)
Follow-end table after (e ∷ (x ∷ es)) end h some = Follow-end table (Some e.0) (x ∷ es) end h.1 (omega arith)

-- all that there are, or as many as a piece has
pub shows_last : (table : Table) (now : ℕ) (after end : Option Prefix6) (count : ℕ) (old new : Option (List ℕ))
    → Shown table now after end count old new → count ≤ 256 → first_past end table ≡ None → ShowsRoutes table now after None old new
shows_last table now after end count old new h few none = record {
  shown = h.shown;
  end = end;
  follow = h.follow;
  within = omega (arith, h.count_is);
  goes_on = λ some. absurd (some refl);
  ends = λ same. none;
  lines = h.lines;
}

pub shows_more : (table : Table) (now : ℕ) (after end : Option Prefix6) (count : ℕ) (old new : Option (List ℕ))
    → Shown table now after end count old new → count ≡ 256 → ShowsRoutes table now after end old new
shows_more table now after end count old new h many = record {
  shown = h.shown;
  end = end;
  follow = h.follow;
  within = omega (arith, h.count_is);
  goes_on = λ some. refl;
  ends = λ none. absurd (Follow-end table after h.shown end h.follow (omega (arith, h.count_is)) none);
  lines = h.lines;
}

-- ---- entries
-- what is shown of entries, and what is left of them
pub record EntriesShown (all left : List Entry) (count : ℕ) (last : Option Prefix6) (old new : Option (List ℕ)) : Type 0 where
  pub left_is : left ≡ drop count all
  pub last_is : last ≡ last_prefix (take count all)
  pub lines : Appends old new (entry_lines (take count all))

next_of : (all : List Entry) (k : ℕ) (e : Entry) (rest : List Entry) → drop k all ≡ e ∷ rest → (drop (suc k) all ≡ rest) × (take (suc k) all ≡ take k all ++ e ∷ [])
next_of [] zero e rest is = absurd (cc)
next_of [] (suc k) e rest is = absurd (cc)
next_of (x ∷ xs) zero e rest is = (ap (drop (suc zero)) is, ap (take (suc zero)) is)
next_of (x ∷ xs) (suc k) e rest is = let later = next_of xs k e rest is in (later.0, ap (λ l. x ∷ l) later.1)

at_end : (es : List Entry) (e : Entry) → slice_get (es ++ e ∷ []) (length es) ≡ Some e
at_end [] e = refl
at_end (x ∷ es) e = at_end es e

last_pushed : (es : List Entry) (e : Entry) → last_prefix (es ++ e ∷ []) ≡ Some e.0
last_pushed es e =
    let end : length (es ++ e ∷ []) - 1 ≡ length es = omega (arith, length-append es (e ∷ [])) in
    ap (λ n. option_map (λ (x : Entry). x.0) (slice_get (es ++ e ∷ []) n)) end ∙ ap (option_map (λ (x : Entry). x.0)) (at_end es e)

-- the line of one entry more
pub EntriesShown-more : (all left rest : List Entry) (k : ℕ) (last : Option Prefix6) (e : Entry) (old mid new : Option (List ℕ)) → EntriesShown all left k last old mid
    → left ≡ e ∷ rest → Appends mid new (route_text e.0 e.1 e.2 ++ 10 ∷ []) → EntriesShown all rest (k + 1) (Some e.0) old new
EntriesShown-more all left rest k last e old mid new h is line =
    let next = next_of all k e rest (sym h.left_is ∙ is) in
    let gone : drop (k + 1) all ≡ rest = ap (λ n. drop n all) (add-one k) ∙ next.0 in
    let more : take (k + 1) all ≡ take k all ++ e ∷ [] = ap (λ n. take n all) (add-one k) ∙ next.1 in
    record {
      left_is = sym gone;
      last_is = sym (ap last_prefix more ∙ last_pushed (take k all) e);
      lines = rw (more, flat_map-append (λ (x : Entry). route_text x.0 x.1 x.2 ++ 10 ∷ []) (take k all) (e ∷ []), append-nil (route_text e.0 e.1 e.2 ++ 10 ∷ []))
          (Appends-trans old mid new (entry_lines (take k all)) _ h.lines line);
    }

-- as many as a piece has
pub shows_entries : (table : Forwarding) (after last : Option Prefix6) (all left : List Entry) (count : ℕ) (old new : Option (List ℕ))
    → AreAfter (listed table) after all → EntriesShown all left count last old new → count ≡ 256 → ShowsEntries table after last old new
shows_entries table after last all left count old new h shown is = record {
  begin = h.begin;
  past = h.past;
  more_is = shown.last_is ∙ ap (λ n. last_prefix (take n all)) is ∙ ap (λ es. last_prefix (take 256 es)) h.are;
  lines = subst (λ es. Appends old new (entry_lines (take 256 es))) h.are (subst (λ n. Appends old new (entry_lines (take n all))) is shown.lines);
}

-- or all that there are
pub all_shown : (all left : List Entry) (k n : ℕ) (last : Option Prefix6) (old new : Option (List ℕ)) → EntriesShown all left k last old new → left ≡ [] → k ≤ n → EntriesShown all left n last old new
all_shown all left k n last old new h none le =
    let few : length all ≤ k = omega (arith, ap length (sym h.left_is ∙ none), length-drop k all) in
    let same : take k all ≡ take n all = take_all k all few ∙ sym (take_all n all (omega (arith, few, le))) in
    record {
      left_is = none ∙ sym (drop_all n all (omega (arith, few, le)));
      last_is = h.last_is ∙ ap last_prefix same;
      lines = subst (λ es. Appends old new (entry_lines es)) same h.lines;
    }
