-- The changes of a network of runs are those that clients ordered.
use Rattle.std.proofs.Common.{◌≡◌, ◌≢◌, ◌⊎◌, inl, inr, ℕ, ◌<◌, ◌==◌, Bool, true, false, cond, List, [], ◌∷◌, ◌++◌, filter_map, length, option_map, Option, Some, None, refl, ap, sym, ◌∙◌}
use Rattle.std.specs.List.{AllByRecursion, cons_option}
use Rattle.std.proofs.lemmas.Bool.{eq-eqb}
use Rattle.router_core.specs.Config.{Config}
use Rattle.router_core.specs.declared.reconfiguring.Change.{Change}
use Rattle.ripng_world.specs.Network.{Network}
use Rattle.ripngd_control.specs.Commands.{control_text}
use Rattle.ripngd_control.specs.declared.command.Command.{Command}
use Rattle.ripngd_control.specs.declared.command.Command.TheVariants as commands
use Rattle.ripngd_theorems.specs.Daemons.{Act, Start, Listen, Tick, Reconfigure, Shutdown, LinkDown, LinkUp, Ask, Refuse, Deed, Happened, own_deeds, reconfiguration_of, reconfigurations_by}
use Rattle.ripngd_runs.specs.Lives.{AreActsFor, AreActsForLines, IsDoneOrRefused, ordered_act, ordered_acts}
use Rattle.ripngd_runs.specs.Networks.{AreActsForRuns, OrdersNoChange, Program, own_changes}

-- the changes among acts
abbrev pub changes_in : List Act → List Change
changes_in acts = filter_map reconfiguration_of acts

-- a daemon changes only as clients order
ordered_change : (act : Act) (deeds : List Deed) → changes_in (ordered_acts deeds) ≡ filter_map (λ d. reconfiguration_of d.act) deeds
    → changes_in (cons_option (ordered_act act) (ordered_acts deeds)) ≡ cons_option (reconfiguration_of act) (filter_map (λ d. reconfiguration_of d.act) deeds)
ordered_change Start deeds e = e
ordered_change (Listen call) deeds e = e
ordered_change Tick deeds e = e
ordered_change (Reconfigure c) deeds e = ap (λ x. c ∷ x) e
ordered_change Shutdown deeds e = e
ordered_change (LinkDown on) deeds e = e
ordered_change (LinkUp on) deeds e = e
ordered_change (Ask on) deeds e = e
ordered_change Refuse deeds e = e

ordered_changes : (deeds : List Deed) → changes_in (ordered_acts deeds) ≡ filter_map (λ d. reconfiguration_of d.act) deeds
ordered_changes [] = refl
ordered_changes (d ∷ deeds) = ordered_change d.act deeds (ordered_changes deeds)

own_change : (router : ℕ) (h : Happened) (order : List Happened) (b : Bool) (o : Option Change) → (h.router == router) ≡ b
    → own_changes router (reconfigurations_by order) ≡ filter_map (λ d. reconfiguration_of d.act) (own_deeds router order) → reconfiguration_of h.deed.act ≡ o
    → own_changes router (cons_option (option_map (λ c. (h.router, c)) o) (reconfigurations_by order))
    ≡ filter_map (λ d. reconfiguration_of d.act) (cons_option (cond b (Some h.deed) None) (own_deeds router order))
own_change router h order true None same e is = e ∙ ap (λ x. cons_option x (filter_map (λ (d : Deed). reconfiguration_of d.act) (own_deeds router order))) (sym is)
own_change router h order false None differ e is = e
own_change router h order true (Some c) same e is =
    ap (λ b. cons_option (cond b (Some c) None) (own_changes router (reconfigurations_by order))) same ∙ ap (λ x. c ∷ x) e
    ∙ ap (λ x. cons_option x (filter_map (λ (d : Deed). reconfiguration_of d.act) (own_deeds router order))) (sym is)
own_change router h order false (Some c) differ e is = ap (λ b. cons_option (cond b (Some c) None) (own_changes router (reconfigurations_by order))) differ ∙ e

changes_are : (router : ℕ) (order : List Happened) → own_changes router (reconfigurations_by order) ≡ filter_map (λ d. reconfiguration_of d.act) (own_deeds router order)
changes_are router [] = refl
changes_are router (h ∷ order) = own_change router h order (h.router == router) (reconfiguration_of h.deed.act) refl (changes_are router order) refl

-- so those of a router in a network are among its acts
pub own_ordered : (router : ℕ) (order : List Happened) → own_changes router (reconfigurations_by order) ≡ changes_in (ordered_acts (own_deeds router order))
own_ordered router order = changes_are router order ∙ sym (ordered_changes (own_deeds router order))

pub changes_known : (net : Network) (order : List Happened) → AllByRecursion (λ h. h.router < length net) order → AllByRecursion (λ c. c.0 < length net) (reconfigurations_by order)
changes_known net [] known = tt
changes_known net (h ∷ order) known = by (reconfiguration_of h.deed.act) (changes_known net order known.1)
  where
    by : (o : Option Change) → AllByRecursion (λ c. c.0 < length net) (reconfigurations_by order)
        → AllByRecursion (λ c. c.0 < length net) (cons_option (option_map (λ c. (h.router, c)) o) (reconfigurations_by order))
    by None later = later
    by (Some c) later = (known.0, later)

-- ---- no change was ordered

changes-append : (xs ys : List Act) → changes_in (xs ++ ys) ≡ changes_in xs ++ changes_in ys
changes-append [] ys = refl
changes-append (x ∷ xs) ys = ap (cons_option (reconfiguration_of x)) (changes-append xs ys) ∙ by (reconfiguration_of x)
  where
    by : (o : Option Change) → cons_option o (changes_in xs ++ changes_in ys) ≡ cons_option o (changes_in xs) ++ changes_in ys
    by None = refl
    by (Some c) = refl

done_unchanged : (act : Act) (acts : List Act) → reconfiguration_of act ≡ None → IsDoneOrRefused act acts → changes_in acts ≡ []
done_unchanged act acts none (inl is) = ap changes_in is ∙ ap (λ o. cons_option o []) none
done_unchanged act acts none (inr is) = ap changes_in is

linked_unchanged : {X : Type 0} (act : Act) (acts : List Act) → reconfiguration_of act ≡ None → IsDoneOrRefused act acts ⊎ ((acts ≡ []) × X) → changes_in acts ≡ []
linked_unchanged act acts none (inl did) = done_unchanged act acts none did
linked_unchanged act acts none (inr not) = ap changes_in not.0

stop_unchanged : (acts : List Act) → IsDoneOrRefused Shutdown acts ⊎ ((again : List Act) × IsDoneOrRefused Shutdown again × (acts ≡ Shutdown ∷ again)) → changes_in acts ≡ []
stop_unchanged acts (inl one) = done_unchanged Shutdown acts refl one
stop_unchanged acts (inr two) = ap changes_in two.2 ∙ done_unchanged Shutdown two.0 refl two.1

command_unchanged : (config : Config) (command : Command) (acts : List Act) → ((c : Change) → command ≢ commands.Reconfigure c) → AreActsFor config command acts → changes_in acts ≡ []
command_unchanged config (commands.Reconfigure c) acts never are = absurd (never c refl)
command_unchanged config commands.Stop acts never are = stop_unchanged acts are
command_unchanged config (commands.LinkDown iface) acts never are = linked_unchanged (LinkDown iface) acts refl are
command_unchanged config (commands.LinkUp iface) acts never are = linked_unchanged (LinkUp iface) acts refl are
command_unchanged config commands.Routes acts never are = ap changes_in are
command_unchanged config commands.Table acts never are = ap changes_in are
command_unchanged config (commands.Lookup d) acts never are = ap changes_in are
command_unchanged config commands.Counts acts never are = ap changes_in are
command_unchanged config commands.Status acts never are = ap changes_in are
command_unchanged config commands.StatusJson acts never are = ap changes_in are
command_unchanged config commands.Neighbors acts never are = ap changes_in are
command_unchanged config commands.StopNow acts never are = ap changes_in are
command_unchanged config (commands.Link c) acts never are = ap changes_in are

both_none : (xs ys : List Act) (acts : List Act) → acts ≡ xs ++ ys → changes_in xs ≡ [] → changes_in ys ≡ [] → changes_in acts ≡ []
both_none xs ys acts are first later = ap changes_in are ∙ changes-append xs ys ∙ ap (λ x. x ++ changes_in ys) first ∙ later

lines_unchanged : (config : Config) (lines : List (List ℕ)) (acts : List Act) → AllByRecursion (λ line. (c : Change) → line ≢ control_text (commands.Reconfigure c)) lines
    → AreActsForLines config lines acts → changes_in acts ≡ []
lines_unchanged config [] acts never are = ap changes_in are
lines_unchanged config (line ∷ lines) acts never are =
    both_none are.1 are.2 acts are.6 (command_unchanged config are.0 are.1 (λ c e. never.0 c (are.3 ∙ ap control_text e)) are.4) (lines_unchanged config lines are.2 never.1 are.5)

pub runs_unchanged : (runs : List Program) (acts : List Act) → AllByRecursion OrdersNoChange runs → AreActsForRuns runs acts → changes_in acts ≡ []
runs_unchanged [] acts never are = ap changes_in are
runs_unchanged (run ∷ runs) acts never are = both_none are.0 are.1 acts are.4 (lines_unchanged run.router run.lines are.0 never.0 are.2) (runs_unchanged runs are.1 never.1 are.3)

-- where no router has one, there is none
pub all_unchanged : (net : Network) (changes : List (ℕ × Change)) → AllByRecursion (λ c. c.0 < length net) changes
    → ((router : ℕ) → router < length net → own_changes router changes ≡ []) → changes ≡ []
all_unchanged net [] known none = refl
all_unchanged net (c ∷ changes) known none =
    let own : c.1 ∷ own_changes c.0 changes ≡ [] = sym (ap (λ b. cons_option (cond b (Some c.1) None) (own_changes c.0 changes)) (eq-eqb c.0 c.0 refl)) ∙ none c.0 known.0 in
    absurd (cc own)
