-- What an engine's calls did is a daemon's life.
use Rattle.std.proofs.Common.{◌≡◌, List, [], ◌∷◌, ◌++◌, Option, Some, Bool, true, false, MatchBool, Ok, Err, refl, ap, sym, subst, ◌∙◌, append_assoc, append-nil}
use Rattle.std.specs.Prelude.{ℕ, Result}
use Rattle.router_core.specs.Config.{Config}
use Rattle.ripngd_engine.specs.Link.{Call, Gave, Silent, RecvFailed, Handed}
use Rattle.ripngd_engine.specs.Run.{Machine, Trace, TakesIn, TicksOnce, TicksUnless, Turn, Turns, followed_by, all_joined, no_step, one_call}
use Rattle.router_core.specs.declared.reconfiguring.Change.{Change}
use Rattle.ripngd_engine.specs.Changing.{LinkComesUpOnce, LinkGoesDownOnce, ReconfigureAnswer, ReconfiguresNothing, ReconfiguresOnce, ShutsDownOnce, StepAnswer}
use Rattle.ripngd_engine.specs.Seen.{Acts, Seen, Shows, TurnsAnswer}
use Rattle.ripngd_engine.specs.declared.report.ChangeFault.{ChangeFault}
use Rattle.ripngd_engine.specs.declared.report.ChangeFault.TheVariants.{Refused, Ended}
use Rattle.ripngd_engine.specs.declared.report.EngineFault.{EngineFault}
use Rattle.ripngd_engine.specs.declared.report.EngineFault.TheVariants.{LinkFault, OutOfMemory}
use Rattle.ripngd_engine.proofs.Steps.{Shows-trans, Shows-listens}
use Rattle.ripngd_theorems.specs.Daemons.{Act, Deed, Listen, Tick, Reconfigure, Shutdown, LinkDown, LinkUp, Refuse, Does as DoesNext, HearsCall, Lives, traces_of}

followed_by-no_step : (t : Trace) → followed_by t no_step ≡ t
followed_by-no_step t = simp append-nil

followed_by-assoc : (a b c : Trace) → followed_by (followed_by a b) c ≡ followed_by a (followed_by b c)
followed_by-assoc a b c = simp append_assoc

all_joined-append : (ts us : List Trace) → all_joined (ts ++ us) ≡ followed_by (all_joined ts) (all_joined us)
all_joined-append [] us = refl
all_joined-append (t ∷ ts) us = ap (followed_by t) (all_joined-append ts us) ∙ sym (followed_by-assoc t (all_joined ts) (all_joined us))

pub traces_of-append : (xs ys : List Deed) → traces_of (xs ++ ys) ≡ traces_of xs ++ traces_of ys
traces_of-append [] ys = refl
traces_of-append (x ∷ xs) ys = ap (λ ts. x.trace ∷ ts) (traces_of-append xs ys)

-- a life goes on by a life
pub lives_on : (config : Config) (a b c : Option Machine) (xs ys : List Deed) → Lives config a xs b → Lives config b ys c → Lives config a (xs ++ ys) c
lives_on config a b c [] ys first rest = subst (λ x. Lives config x ys c) first rest
lives_on config a b c (d ∷ xs) ys first rest = (first.0, first.1, lives_on config (Some first.0) b c xs ys first.2 rest)

-- deeds that lead from one machine to another, and did this
pub record Led (config : Config) (m : Machine) (t : Trace) (n : Machine) : Type 0 where
  pub deeds : List Deed
  pub lives : Lives config (Some m) deeds (Some n)
  pub trace : all_joined (traces_of deeds) ≡ t

led_on : (config : Config) (m k n : Machine) (s t : Trace) → Led config m s k → Led config k t n → Led config m (followed_by s t) n
led_on config m k n s t a b =
    record {
      deeds = a.deeds ++ b.deeds;
      lives = lives_on config (Some m) (Some k) (Some n) a.deeds b.deeds a.lives b.lives;
      trace = ap all_joined (traces_of-append a.deeds b.deeds) ∙ all_joined-append (traces_of a.deeds) (traces_of b.deeds)
          ∙ ap (λ x. followed_by x (all_joined (traces_of b.deeds))) a.trace ∙ ap (followed_by s) b.trace;
    }

-- what was given is taken in
taken_in : (call : Call) (m : Machine) (t : Trace) (n : Machine) → TakesIn call m t n → HearsCall call m (followed_by (one_call call) t) n
taken_in (Gave d) m t n takes = (t, takes, refl)
taken_in Silent m t n takes = (t, takes, refl)
taken_in RecvFailed m t n takes = absurd takes
taken_in (Handed o went) m t n takes = absurd takes

-- the tick of a turn, or none where the turn has ended before
ticked : (config : Config) (m : Machine) (t : Trace) (n : Machine) → TicksUnless m.ended m t n → Led config m t n
ticked config m t n ticks = by_end m.ended refl ticks
  where
    by_end : (b : Bool) → m.ended ≡ b → MatchBool b ((t ≡ no_step) × (n ≡ m)) (TicksOnce m t n) → Led config m t n
    by_end true is none = record { deeds = []; lives = ap Some none.1; trace = sym none.0 }
    by_end false is once = record { deeds = record { act = Tick; trace = t } ∷ []; lives = (n, (is, once), refl); trace = followed_by-no_step t }

turn_led : (config : Config) (m : Machine) (t : Trace) (n : Machine) → Turn m t n → Led config m t n
turn_led config m t n turn =
    let heard : Led config m (followed_by (one_call turn.call) turn.taken) turn.middle = record {
      deeds = record { act = Listen turn.call; trace = followed_by (one_call turn.call) turn.taken } ∷ [];
      lives = (turn.middle, (turn.going, taken_in turn.call m turn.taken turn.middle turn.takes_in), refl);
      trace = followed_by-no_step (followed_by (one_call turn.call) turn.taken);
    } in
    subst (λ x. Led config m x n) (followed_by-assoc (one_call turn.call) turn.taken turn.ticked ∙ sym turn.trace)
    (led_on config m turn.middle n (followed_by (one_call turn.call) turn.taken) turn.ticked heard (ticked config turn.middle turn.ticked n turn.ticks))

turns_led : (config : Config) (m : Machine) (ts : List Trace) (n : Machine) → Turns m ts n → Led config m (all_joined ts) n
turns_led config m [] n turns = record { deeds = []; lives = ap Some turns; trace = refl }
turns_led config m (t ∷ ts) n turns =
    led_on config m turns.0 n t (all_joined ts) (turn_led config m t turns.0 turns.1) (turns_led config turns.0 ts n turns.2)

-- so much of a life, of which the outside gained just what its deeds did
abbrev pub ShowsLife : Config → Seen → Seen → Type 0
ShowsLife config a b = (deeds : List Deed) × Lives config (Some a.machine) deeds (Some b.machine) × Shows a.outside (all_joined (traces_of deeds)) b.outside

shown : (config : Config) (a b : Seen) (t : Trace) → Led config a.machine t b.machine → Shows a.outside t b.outside → ShowsLife config a b
shown config a b t led shows = (led.deeds, led.lives, subst (λ x. Shows a.outside x b.outside) (sym led.trace) shows)

-- what a call for turns answers is so much of a life
pub answer_lives : (config : Config) (count : ℕ) (a : Seen) (result : Result (Unit {0}) EngineFault) (b : Seen) → TurnsAnswer count a result b → ShowsLife config a b
answer_lives config count a (Ok u) b answer = shown config a b (all_joined answer.1.traces) (turns_led config a.machine answer.1.traces b.machine answer.1.turns) answer.1.shows
answer_lives config count a (Err OutOfMemory) b answer =
    shown config a b (all_joined answer.1.ran.traces) (turns_led config a.machine answer.1.ran.traces b.machine answer.1.ran.turns) answer.1.ran.shows
answer_lives config count a (Err (LinkFault done)) b answer =
    let until = answer.2 in
    let ended : until.middle.machine.ended ≡ false = sym (ap (λ m. m.ended) until.deaf.machine) ∙ answer.0 in
    let deaf : Led config until.middle.machine (one_call RecvFailed) b.machine = record {
      deeds = record { act = Listen RecvFailed; trace = one_call RecvFailed } ∷ [];
      lives = (b.machine, (ended, (refl, until.deaf.machine)), refl);
      trace = followed_by-no_step (one_call RecvFailed);
    } in
    shown config a b (followed_by (all_joined until.ran.traces) (one_call RecvFailed))
    (led_on config a.machine until.middle.machine b.machine (all_joined until.ran.traces) (one_call RecvFailed) (turns_led config a.machine until.ran.traces until.middle.machine until.ran.turns) deaf)
    (Shows-trans a.outside until.middle.outside b.outside (all_joined until.ran.traces) (one_call RecvFailed) until.ran.shows (Shows-listens RecvFailed until.middle b tt until.deaf))

-- one act
acted : (config : Config) (act : Act) (Does : Machine → Trace → Machine → Type 0) (a b : Seen) → ((m : Machine) (t : Trace) (n : Machine) → m.ended ≡ false → Does m t n → DoesNext config (Some m) act t n)
    → a.machine.ended ≡ false → Acts Does a b → ShowsLife config a b
acted config act Does a b next going acts =
    shown config a b acts.trace
    (record {
      deeds = record { act = act; trace = acts.trace } ∷ [];
      lives = (b.machine, next a.machine acts.trace b.machine going acts.does, refl);
      trace = followed_by-no_step acts.trace;
    })
    acts.shows

-- a refused one
refused : (config : Config) (a b : Seen) → a.machine.ended ≡ false → Acts ReconfiguresNothing a b → ShowsLife config a b
refused config a b going acts = acted config Refuse ReconfiguresNothing a b (λ m t n on does. (on, does)) going acts

-- and so is what a change of the configuration answers
pub change_lives : (config : Config) (c : Change) (a : Seen) (result : Result (Unit {0}) ChangeFault) (b : Seen) → a.machine.ended ≡ false → ReconfigureAnswer c a result b → ShowsLife config a b
change_lives config c a (Ok u) b going answer = acted config (Reconfigure c) (ReconfiguresOnce c) a b (λ m t n on does. (on, does)) going answer.1
change_lives config c a (Err Ended) b going answer = acted config (Reconfigure c) (ReconfiguresOnce c) a b (λ m t n on does. (on, does)) going answer.1
change_lives config c a (Err (Refused why)) b going answer = refused config a b going answer.2

-- and what any other such step answers, if it is an act
step_lives : (config : Config) (act : Act) (Does : Machine → Trace → Machine → Type 0) → ((m : Machine) (t : Trace) (n : Machine) → m.ended ≡ false → Does m t n → DoesNext config (Some m) act t n)
    → (a : Seen) (result : Result (Unit {0}) ChangeFault) (b : Seen) → a.machine.ended ≡ false → StepAnswer Does a result b → ShowsLife config a b
step_lives config act Does next a (Ok u) b going answer = acted config act Does a b next going answer.1
step_lives config act Does next a (Err Ended) b going answer = acted config act Does a b next going answer.1
step_lives config act Does next a (Err (Refused why)) b going answer = refused config a b going answer.2

pub shutdown_lives : (config : Config) (a : Seen) (result : Result (Unit {0}) ChangeFault) (b : Seen) → a.machine.ended ≡ false → StepAnswer ShutsDownOnce a result b → ShowsLife config a b
shutdown_lives config = step_lives config Shutdown ShutsDownOnce (λ m t n on does. (on, does))

pub link_down_lives : (config : Config) (iface : ℕ) (a : Seen) (result : Result (Unit {0}) ChangeFault) (b : Seen) → a.machine.ended ≡ false → StepAnswer (LinkGoesDownOnce iface) a result b
    → ShowsLife config a b
link_down_lives config iface = step_lives config (LinkDown iface) (LinkGoesDownOnce iface) (λ m t n on does. (on, does))

pub link_up_lives : (config : Config) (iface : ℕ) (a : Seen) (result : Result (Unit {0}) ChangeFault) (b : Seen) → a.machine.ended ≡ false → StepAnswer (LinkComesUpOnce iface) a result b
    → ShowsLife config a b
link_up_lives config iface = step_lives config (LinkUp iface) (LinkComesUpOnce iface) (λ m t n on does. (on, does))
