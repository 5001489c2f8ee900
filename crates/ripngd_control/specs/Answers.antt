-- What a router does for a command and answers to it (the format is this project's choice).
use Rattle.std.specs.Prelude.{ℕ, ◌≡◌, ◌≢◌, ◌≤◌, ◌-◌, ◌⊎◌, false, true, List, [], ◌∷◌, ◌++◌, Option, None, Some, Result, Ok, Err, drop, length, option_map, slice_get, take}
use Rattle.ripngd_control.specs.Below.{Appends, Prefix6, Entry, IsLookedUp, IsPast, listed, Forwarding, Hop, RouteValue, Table, first_past, State, NamesInterface, Change, LinkComesUpOnce, LinkGoesDownOnce, ReconfiguresNothing, ReconfiguresOnce, ShutsDownOnce, why_refused, entry_lines, Machine, Trace, Acts, Seen, ChangeFault, Refused, Ended, Rest, RunState, Command, Counts, Losses, Neighbors, Reply}
use Rattle.std.specs.FinMap as map_of
use Rattle.router_core.specs.declared.reconfiguring.ReconfigureRefused.TheVariants as refusals
use Rattle.ripngd_control.specs.Printed.{asked_and_done, counts_text, lookup_text, losses_text, neighbors_text, reply_line, status_answer, status_lines}
use Rattle.ripngd_control.specs.Json.{status_json_answer}
use Rattle.ripngd_control.specs.Links.{LinksSeen}
use Rattle.ripngd_control.specs.declared.answering.Rest.TheVariants as rests
use Rattle.ripngd_control.specs.declared.answering.RunState.TheVariants as states
use Rattle.ripngd_control.specs.declared.command.Command.TheVariants as commands
use Rattle.ripngd_control.specs.declared.reply.Reply.TheVariants as replies

-- ---- lines of routes, and of a forwarding table
-- these routes of a table follow one another after a prefix, none left out, up to this prefix
abbrev pub Follow : Table → Option Prefix6 → List (Prefix6 × RouteValue) → Option Prefix6 → Type 0
Follow table after [] end = end ≡ after
Follow table after (e ∷ es) end = (first_past after table ≡ Some e) × Follow table (Some e.0) es end

-- the writer gained a line for each of the next routes of a table, at most 256, up to the prefix after which there may be more; or
-- there is none after them
pub record ShowsRoutes (table : Table) (now : ℕ) (after more : Option Prefix6) (old new : Option (List ℕ)) : Type 0 where
  pub shown : List (Prefix6 × RouteValue)
  pub end : Option Prefix6
  pub follow : Follow table after shown end
  pub within : length shown ≤ 256
  pub goes_on : more ≢ None → more ≡ end
  pub ends : more ≡ None → first_past end table ≡ None
  pub lines : Appends old new (status_lines now shown)

-- the prefix of the last of these entries
abbrev pub last_prefix : List (Prefix6 × Hop × ℕ) → Option Prefix6
last_prefix es = option_map (λ e. e.0) (slice_get es (length es - 1))

-- the writer gained a line for each of the next entries of a table, at most 256, none left out, up to the prefix after which there may
-- be more; or there was none
pub record ShowsEntries (table : Forwarding) (after more : Option Prefix6) (old new : Option (List ℕ)) : Type 0 where
  pub begin : ℕ
  pub past : IsPast (listed table) after begin
  pub more_is : more ≡ last_prefix (take 256 (drop begin (listed table)))
  pub lines : Appends old new (entry_lines (take 256 (drop begin (listed table))))

-- ---- what is done for a command, and answered at once
-- what a change did to an engine, by what is replied
abbrev pub ObeysChange : Change → Seen → Reply → Seen → Type 0
ObeysChange c a replies.Done b = (b.machine.ended ≡ false) × Acts (ReconfiguresOnce c) a b
ObeysChange c a (replies.Refused why) b = (b.machine.ended ≡ false) × (why ≡ why_refused a.machine.router c) × Acts ReconfiguresNothing a b
ObeysChange c a replies.NoSuchInterface b = (b ≡ a) × ¬ (NamesInterface a.machine.router.config c)
ObeysChange c a (replies.LinkRefused why) b = ⊥
ObeysChange c a replies.NoSuchCommand b = ⊥
ObeysChange c a replies.Ended b = (b.machine.ended ≡ true) × Acts (ReconfiguresOnce c) a b

-- what is replied to a step, and whether the router goes on, where `done` says so of one that was done or refused
abbrev pub step_reply : Result (Unit {0}) ChangeFault → RunState → Reply × RunState
step_reply (Ok u) done = (replies.Done, done)
step_reply (Err (Refused why)) done = (replies.Refused why, done)
step_reply (Err Ended) done = (replies.Ended, states.Ended)

-- what a step did to an engine, by what is replied: all of it, or memory was refused for it and only the clock was read
abbrev pub ObeysStep : (Machine → Trace → Machine → Type 0) → Seen → Reply → Seen → Type 0
ObeysStep Does a replies.Done b = (b.machine.ended ≡ false) × Acts Does a b
ObeysStep Does a (replies.Refused why) b = (b.machine.ended ≡ false) × (why ≡ refusals.OutOfMemory) × Acts ReconfiguresNothing a b
ObeysStep Does a replies.NoSuchInterface b = ⊥
ObeysStep Does a (replies.LinkRefused why) b = ⊥
ObeysStep Does a replies.NoSuchCommand b = ⊥
ObeysStep Does a replies.Ended b = (b.machine.ended ≡ true) × Acts Does a b

-- a router shut down, and once more in case a datagram is lost; where the second was refused memory, the first was not
abbrev pub ShutsDownAgain : Seen → Reply → Seen → Type 0
ShutsDownAgain a reply b = (m : Seen) × ObeysStep ShutsDownOnce a replies.Done m × ObeysStep ShutsDownOnce m reply b

-- what `stop` did to an engine, by what is replied: its last update was handed to the link, twice
abbrev pub ObeysStop : Seen → Reply → Seen → Type 0
ObeysStop a replies.Done b = ShutsDownAgain a replies.Done b
ObeysStop a reply b = ObeysStep ShutsDownOnce a reply b ⊎ ShutsDownAgain a reply b

-- what such a step at an interface did to an engine, by what is replied
abbrev pub ObeysLink : (Machine → Trace → Machine → Type 0) → ℕ → Seen → Reply → Seen → Type 0
ObeysLink Does iface a replies.NoSuchInterface b = (b ≡ a) × (length a.machine.router.config.interfaces ≤ iface)
ObeysLink Does iface a reply b = ObeysStep Does a reply b

-- what a command did to an engine, by what is replied: only a change, a stop and a link that goes down or comes up do something to it
abbrev pub Obeys : Command → Seen → Reply → Seen → Type 0
Obeys (commands.Reconfigure c) a reply b = ObeysChange c a reply b
Obeys commands.Stop a reply b = ObeysStop a reply b
Obeys (commands.LinkDown iface) a reply b = ObeysLink (LinkGoesDownOnce iface) iface a reply b
Obeys (commands.LinkUp iface) a reply b = ObeysLink (LinkComesUpOnce iface) iface a reply b
Obeys _ a reply b = b ≡ a

-- the writer gained this and nothing is left to write, unless the writer failed
abbrev pub GainsLines : Option (List ℕ) → Rest → Option (List ℕ) → List ℕ → Type 0
GainsLines old rest new text = rest ≢ rests.Lost → (rest ≡ rests.Nothing) × Appends old new text

-- what was done and written for a command, or for a line that is no command
abbrev pub AnswersCommand : Option Command → Counts → Neighbors → LinksSeen → Losses → Seen → Option (List ℕ) → Rest → Seen → Option (List ℕ) → Type 0
AnswersCommand None counts heard links lost a old rest b new = (b ≡ a) × GainsLines old rest new (reply_line replies.NoSuchCommand)
AnswersCommand (Some commands.Routes) counts heard links lost a old rest b new = (b ≡ a) × (rest ≡ rests.Routes None) × (new ≡ old)
AnswersCommand (Some commands.Table) counts heard links lost a old rest b new = (b ≡ a) × (rest ≡ rests.Table None) × (new ≡ old)
AnswersCommand (Some commands.Counts) counts heard links lost a old rest b new =
    (b ≡ a) × GainsLines old rest new (counts_text counts ++ (10 ∷ (losses_text lost ++ (10 ∷ asked_and_done counts.asked))))
AnswersCommand (Some commands.Neighbors) counts heard links lost a old rest b new = (b ≡ a) × GainsLines old rest new (neighbors_text heard ++ reply_line replies.Done)
AnswersCommand (Some commands.Status) counts heard links lost a old rest b new = (b ≡ a)
    × GainsLines old rest new (status_answer a.machine.router.config.interfaces a.machine.router.last (map_of.len a.machine.fib) counts lost heard links)
AnswersCommand (Some commands.StatusJson) counts heard links lost a old rest b new = (b ≡ a)
    × GainsLines old rest new (status_json_answer a.machine.router.config.interfaces a.machine.router.last (map_of.len a.machine.fib) counts lost heard links)
AnswersCommand (Some (commands.Lookup destination)) counts heard links lost a old rest b new = (b ≡ a)
    × (found : Option Entry) × IsLookedUp a.machine.fib destination.0 found × GainsLines old rest new (lookup_text found ++ (10 ∷ reply_line replies.Done))
AnswersCommand (Some commands.StopNow) counts heard links lost a old rest b new = (b ≡ a) × GainsLines old rest new (reply_line replies.Done)
AnswersCommand (Some command) counts heard links lost a old rest b new =
    (reply : Reply) × Obeys command a reply b × GainsLines old rest new (reply_line reply)

-- ---- what is answered in pieces
-- there may be more after a prefix, and nothing more is written yet; or all was written, and then `ok`
abbrev pub GoesOnOrEnds : (Option Prefix6 → Rest) → Option Prefix6 → Rest → Option (List ℕ) → Option (List ℕ) → Type 0
GoesOnOrEnds Kind (Some p) left mid new = (left ≡ Kind (Some p)) × (new ≡ mid)
GoesOnOrEnds Kind None left mid new = (left ≡ rests.Nothing) × Appends mid new (reply_line replies.Done)

-- the writer gained the next piece of an answer, unless it failed
abbrev pub Continues : State → Forwarding → Rest → Option (List ℕ) → Rest → Option (List ℕ) → Type 0
Continues s table (rests.Routes after) old left new = left ≢ rests.Lost → (more : Option Prefix6) × (mid : Option (List ℕ))
    × ShowsRoutes s.table s.last after more old mid × GoesOnOrEnds rests.Routes more left mid new
Continues s table (rests.Table after) old left new = left ≢ rests.Lost → (more : Option Prefix6) × (mid : Option (List ℕ))
    × ShowsEntries table after more old mid × GoesOnOrEnds rests.Table more left mid new
Continues s table rest old left new = (left ≡ rest) × (new ≡ old)
