-- What a turn does, and what a client's line does, is so much of a daemon's life.
use Rattle.std.proofs.Common.{◌≡◌, ◌≢◌, ◌⊎◌, inl, inr, ℕ, ◌≤◌, Bool, true, false, MatchBool, List, [], ◌∷◌, ◌++◌, length, Option, Some, None, refl, ap, sym, subst, ◌∙◌, append_assoc, append-nil, arith}
use Rattle.std.specs.List.{AllByRecursion, cons_option}
use Rattle.router_core.proofs.OwnedStay.{each_append}
use Rattle.router_core.specs.Config.{Config}
use Rattle.router_core.specs.Reconfiguring.{NamesInterface}
use Rattle.router_core.specs.declared.reconfiguring.Change.{Change}
use Rattle.router_core.specs.declared.reconfiguring.Change.TheVariants.{Cost, Own, Disown}
use Rattle.ripngd_engine.specs.Link.{Call, Gave, Silent, RecvFailed, Handed}
use Rattle.ripngd_engine.specs.Run.{Machine, Trace, TakesIn, TicksOnce, Turn, Turns, followed_by, all_joined, no_step, one_call}
use Rattle.ripngd_engine.specs.Changing.{LinkComesUpOnce, LinkGoesDownOnce, ReconfiguresNothing, ReconfiguresOnce, ShutsDownOnce}
use Rattle.ripngd_engine.specs.Seen.{Acts, Ran, Seen, Shows}
use Rattle.ripngd_engine.proofs.Steps.{Shows-no_step, Shows-trans}
use Rattle.ripngd_control.specs.Answers.{Obeys, ObeysChange, ObeysLink, ObeysStep, ObeysStop, ShutsDownAgain}
use Rattle.ripngd_control.specs.Commands.{control_text}
use Rattle.ripngd_control.specs.declared.command.Command.{Command}
use Rattle.ripngd_control.specs.declared.command.Command.TheVariants as commands
use Rattle.ripngd_control.specs.declared.reply.Reply.{Reply}
use Rattle.ripngd_control.specs.declared.reply.Reply.TheVariants as replies
use Rattle.ripngd_theorems.specs.Daemons.{Act, Start, Listen, Tick, Reconfigure, Shutdown, LinkDown, LinkUp, Ask, Refuse, Deed, Does as DoesNext, HearsCall, Lives, traces_of}
use Rattle.ripngd_runs.specs.Lives.{ordered_act, ordered_acts, IsDoneOrRefused, AreActsFor, AreActsForLines}
use Rattle.ripngd_runs.specs.Questions.{asks_on}

-- ---- lists

pub followed_by-no_step : (t : Trace) → followed_by t no_step ≡ t
followed_by-no_step t = simp append-nil

followed_by-assoc : (a b c : Trace) → followed_by (followed_by a b) c ≡ followed_by a (followed_by b c)
followed_by-assoc a b c = simp append_assoc

pub joined-append : (ts us : List Trace) → all_joined (ts ++ us) ≡ followed_by (all_joined ts) (all_joined us)
joined-append [] us = refl
joined-append (t ∷ ts) us = ap (followed_by t) (joined-append ts us) ∙ sym (followed_by-assoc t (all_joined ts) (all_joined us))

pub traces-append : (xs ys : List Deed) → traces_of (xs ++ ys) ≡ traces_of xs ++ traces_of ys
traces-append [] ys = refl
traces-append (x ∷ xs) ys = ap (λ ts. x.trace ∷ ts) (traces-append xs ys)

-- a life goes on by a life
pub lives_on : (config : Config) (a b c : Option Machine) (xs ys : List Deed) → Lives config a xs b → Lives config b ys c → Lives config a (xs ++ ys) c
lives_on config a b c [] ys first rest = subst (λ x. Lives config x ys c) first rest
lives_on config a b c (d ∷ xs) ys first rest = (first.0, first.1, lives_on config (Some first.0) b c xs ys first.2 rest)

pub ordered-append : (xs ys : List Deed) → ordered_acts (xs ++ ys) ≡ ordered_acts xs ++ ordered_acts ys
ordered-append [] ys = refl
ordered-append (d ∷ xs) ys = ap (cons_option (ordered_act d.act)) (ordered-append xs ys) ∙ by (ordered_act d.act)
  where
    by : (o : Option Act) → cons_option o (ordered_acts xs ++ ordered_acts ys) ≡ cons_option o (ordered_acts xs) ++ ordered_acts ys
    by None = refl
    by (Some act) = refl

-- no deed of these is a start
abbrev pub AreUnstarted : List Deed → Type 0
AreUnstarted deeds = AllByRecursion (λ d. d.act ≢ Start) deeds

-- no deed of these asks on a link
abbrev pub AreUnasked : ℕ → List Deed → Type 0
AreUnasked iface deeds = AllByRecursion (λ d. asks_on iface d.act ≡ false) deeds

-- what a client orders is no question of the daemon's own
ordered_unasked : (iface : ℕ) (act : Act) → ordered_act act ≡ Some act → asks_on iface act ≡ false
ordered_unasked iface Start is = refl
ordered_unasked iface (Listen call) is = refl
ordered_unasked iface Tick is = refl
ordered_unasked iface (Reconfigure c) is = refl
ordered_unasked iface Shutdown is = refl
ordered_unasked iface (LinkDown on) is = refl
ordered_unasked iface (LinkUp on) is = refl
ordered_unasked iface (Ask on) is = absurd (cc is)
ordered_unasked iface Refuse is = refl

-- ---- so much of a life

-- deeds that lead on, of which the outside gained just what they did, and clients ordered just these acts. None is a question
pub record Did (config : Config) (a : Seen) (acts : List Act) (b : Seen) : Type 0 where
  pub deeds : List Deed
  pub lives : Lives config (Some a.machine) deeds (Some b.machine)
  pub shows : Shows a.outside (all_joined (traces_of deeds)) b.outside
  pub ordered : ordered_acts deeds ≡ acts
  pub unstarted : AreUnstarted deeds
  pub unasked : (iface : ℕ) → AreUnasked iface deeds

module _ (config : Config) where
  pub nothing : (a b : Seen) → b ≡ a → Did config a [] b
  nothing a b same =
      subst (λ x. Did config a [] x) (sym same)
      (record { deeds = []; lives = refl; shows = Shows-no_step a.outside; ordered = refl; unstarted = tt; unasked = λ iface. tt })

  pub did_on : (a m b : Seen) (xs ys : List Act) → Did config a xs m → Did config m ys b → Did config a (xs ++ ys) b
  did_on a m b xs ys first later = record {
    deeds = first.deeds ++ later.deeds;
    lives = lives_on config (Some a.machine) (Some m.machine) (Some b.machine) first.deeds later.deeds first.lives later.lives;
    shows =
        subst (λ t. Shows a.outside t b.outside)
        (sym (ap all_joined (traces-append first.deeds later.deeds) ∙ joined-append (traces_of first.deeds) (traces_of later.deeds)))
        (Shows-trans a.outside m.outside b.outside (all_joined (traces_of first.deeds)) (all_joined (traces_of later.deeds)) first.shows later.shows);
    ordered = ordered-append first.deeds later.deeds ∙ ap (λ x. x ++ ordered_acts later.deeds) first.ordered ∙ ap (λ y. xs ++ y) later.ordered;
    unstarted = each_append (λ d. d.act ≢ Start) first.deeds later.deeds first.unstarted later.unstarted;
    unasked = λ iface. each_append (λ d. asks_on iface d.act ≡ false) first.deeds later.deeds (first.unasked iface) (later.unasked iface);
  }

  one_act : (act : Act) (Does : Machine → Trace → Machine → Type 0) (a b : Seen) → ordered_act act ≡ Some act → act ≢ Start
      → ((m : Machine) (t : Trace) (n : Machine) → m.ended ≡ false → Does m t n → DoesNext config (Some m) act t n) → a.machine.ended ≡ false → Acts Does a b → Did config a (act ∷ []) b
  one_act act Does a b is_ordered other next going acts = record {
    deeds = record { act = act; trace = acts.trace } ∷ [];
    lives = (b.machine, next a.machine acts.trace b.machine going acts.does, refl);
    shows = subst (λ t. Shows a.outside t b.outside) (sym (followed_by-no_step acts.trace)) acts.shows;
    ordered = ap (λ o. cons_option o []) is_ordered;
    unstarted = (other, tt);
    unasked = λ iface. (ordered_unasked iface act is_ordered, tt);
  }

  refused : (a b : Seen) → a.machine.ended ≡ false → Acts ReconfiguresNothing a b → Did config a (Refuse ∷ []) b
  refused a b going acts = one_act Refuse ReconfiguresNothing a b refl (λ e. cc e) (λ m t n on does. (on, does)) going acts

  -- ---- a turn

  taken_in : (call : Call) (m : Machine) (t : Trace) (n : Machine) → TakesIn call m t n → HearsCall call m (followed_by (one_call call) t) n
  taken_in (Gave d) m t n takes = (t, takes, refl)
  taken_in Silent m t n takes = (t, takes, refl)
  taken_in RecvFailed m t n takes = absurd takes
  taken_in (Handed o went) m t n takes = absurd takes

  -- the deeds of a turn
  record Turned_so (m : Machine) (t : Trace) (n : Machine) : Type 0 where
    deeds : List Deed
    lives : Lives config (Some m) deeds (Some n)
    trace : all_joined (traces_of deeds) ≡ t
    ordered : ordered_acts deeds ≡ []
    unstarted : AreUnstarted deeds
    unasked : (iface : ℕ) → AreUnasked iface deeds

  turned_so : (m : Machine) (t : Trace) (n : Machine) → Turn m t n → Turned_so m t n
  turned_so m t n turn = by_end turn.middle.ended refl turn.ticks
    where
      heard : Trace
      heard = followed_by (one_call turn.call) turn.taken

      by_end : (b : Bool) → turn.middle.ended ≡ b → MatchBool b ((turn.ticked ≡ no_step) × (n ≡ turn.middle)) (TicksOnce turn.middle turn.ticked n) → Turned_so m t n
      by_end true is none = record {
        deeds = record { act = Listen turn.call; trace = followed_by (one_call turn.call) turn.taken } ∷ [];
        lives = (turn.middle, (turn.going, taken_in turn.call m turn.taken turn.middle turn.takes_in), ap Some none.1);
        trace =
            sym (turn.trace ∙ ap (λ x. followed_by (one_call turn.call) (followed_by turn.taken x)) none.0
            ∙ sym (followed_by-assoc (one_call turn.call) turn.taken no_step));
        ordered = refl;
        unstarted = ((λ e. cc e), tt);
        unasked = λ iface. (refl, tt);
      }
      by_end false is once = record {
        deeds = record { act = Listen turn.call; trace = followed_by (one_call turn.call) turn.taken } ∷ (record { act = Tick; trace = turn.ticked } ∷ []);
        lives = (turn.middle, (turn.going, taken_in turn.call m turn.taken turn.middle turn.takes_in), (n, (is, once), refl));
        trace =
            sym (turn.trace ∙ sym (followed_by-assoc (one_call turn.call) turn.taken turn.ticked)
            ∙ ap (followed_by (followed_by (one_call turn.call) turn.taken)) (sym (followed_by-no_step turn.ticked)));
        ordered = refl;
        unstarted = ((λ e. cc e), ((λ e. cc e), tt));
        unasked = λ iface. (refl, (refl, tt));
      }

  pub turned : (a b : Seen) → Ran 1 a b → Did config a [] b
  turned a b ran = by ran.traces ran.count_is ran.turns ran.shows
    where
      by : (ts : List Trace) → length ts ≡ 1 → Turns a.machine ts b.machine → Shows a.outside (all_joined ts) b.outside → Did config a [] b
      by [] count turns shows = absurd (omega (arith, count))
      by (t ∷ u ∷ ts) count turns shows = absurd (omega (arith, count))
      by (t ∷ []) count turns shows =
          let so = turned_so a.machine t b.machine (subst (λ n. Turn a.machine t n) (sym turns.2) turns.1) in
          record {
            deeds = so.deeds;
            lives = so.lives;
            shows = subst (λ x. Shows a.outside x b.outside) (followed_by-no_step t ∙ sym so.trace) shows;
            ordered = so.ordered;
            unstarted = so.unstarted;
            unasked = so.unasked;
          }

  -- ---- a line

  -- so the router did what a command says, where its interfaces are those of this configuration
  abbrev pub DidFor : Config → Command → Seen → Seen → Type 0
  DidFor first command a b = (acts : List Act) × AreActsFor first command acts × Did config a acts b

  module _ (first : Config) (a b : Seen) (same : length a.machine.router.config.interfaces ≡ length first.interfaces) (going : a.machine.ended ≡ false) where
    unnamed : (c : Change) → ¬ (NamesInterface a.machine.router.config c) → ¬ (NamesInterface first c)
    unnamed (Cost iface cost) not named = not (omega (arith, named, same))
    unnamed (Own p tag) not named = not named
    unnamed (Disown p) not named = not named

    changed : (c : Change) (reply : Reply) → ObeysChange c a reply b → DidFor first (commands.Reconfigure c) a b
    changed c replies.Done obeys = (Reconfigure c ∷ [], inl (inl refl), one_act (Reconfigure c) (ReconfiguresOnce c) a b refl (λ e. cc e) (λ m t n on does. (on, does)) going obeys.1)
    changed c (replies.Refused why) obeys = (Refuse ∷ [], inl (inr refl), refused a b going obeys.2)
    changed c replies.NoSuchInterface obeys = ([], inr (refl, unnamed c obeys.1), nothing a b obeys.0)
    changed c (replies.LinkRefused why) obeys = absurd obeys
    changed c replies.NoSuchCommand obeys = absurd obeys
    changed c replies.Ended obeys = (Reconfigure c ∷ [], inl (inl refl), one_act (Reconfigure c) (ReconfiguresOnce c) a b refl (λ e. cc e) (λ m t n on does. (on, does)) going obeys.1)

  stepped : (act : Act) (Does : Machine → Trace → Machine → Type 0) → ordered_act act ≡ Some act → act ≢ Start
      → ((m : Machine) (t : Trace) (n : Machine) → m.ended ≡ false → Does m t n → DoesNext config (Some m) act t n)
      → (a b : Seen) → a.machine.ended ≡ false → (reply : Reply) → ObeysStep Does a reply b → (acts : List Act) × IsDoneOrRefused act acts × Did config a acts b
  stepped act Does is_ordered other next a b going replies.Done obeys = (act ∷ [], inl refl, one_act act Does a b is_ordered other next going obeys.1)
  stepped act Does is_ordered other next a b going (replies.Refused why) obeys = (Refuse ∷ [], inr refl, refused a b going obeys.2)
  stepped act Does is_ordered other next a b going replies.NoSuchInterface obeys = absurd obeys
  stepped act Does is_ordered other next a b going (replies.LinkRefused why) obeys = absurd obeys
  stepped act Does is_ordered other next a b going replies.NoSuchCommand obeys = absurd obeys
  stepped act Does is_ordered other next a b going replies.Ended obeys = (act ∷ [], inl refl, one_act act Does a b is_ordered other next going obeys.1)

  shut : (a b : Seen) → a.machine.ended ≡ false → (reply : Reply) → ObeysStep ShutsDownOnce a reply b → (acts : List Act) × IsDoneOrRefused Shutdown acts × Did config a acts b
  shut = stepped Shutdown ShutsDownOnce refl (λ e. cc e) (λ m t n on does. (on, does))

  once : (first : Config) (a b : Seen) → a.machine.ended ≡ false → (reply : Reply) → ObeysStep ShutsDownOnce a reply b → DidFor first commands.Stop a b
  once first a b going reply obeys = let did = shut a b going reply obeys in (did.0, inl did.1, did.2)

  twice : (first : Config) (a b : Seen) → a.machine.ended ≡ false → (reply : Reply) → ShutsDownAgain a reply b → DidFor first commands.Stop a b
  twice first a b going reply obeys =
      let m = obeys.0 in
      let before : Did config a (Shutdown ∷ []) m = one_act Shutdown ShutsDownOnce a m refl (λ e. cc e) (λ m t n on does. (on, does)) going obeys.1.1 in
      let again = shut m b obeys.1.0 reply obeys.2 in
      (Shutdown ∷ again.0, inr (again.0, again.1, refl), did_on a m b (Shutdown ∷ []) again.0 before again.2)

  stopped : (first : Config) (a b : Seen) → a.machine.ended ≡ false → (reply : Reply) → ObeysStop a reply b → DidFor first commands.Stop a b
  stopped first a b going replies.Done obeys = twice first a b going replies.Done obeys
  stopped first a b going (replies.Refused why) obeys = elim obeys [ inl one ↦ once first a b going (replies.Refused why) one | inr two ↦ twice first a b going (replies.Refused why) two ]
  stopped first a b going replies.NoSuchInterface obeys = elim obeys [ inl one ↦ once first a b going replies.NoSuchInterface one | inr two ↦ twice first a b going replies.NoSuchInterface two ]
  stopped first a b going (replies.LinkRefused why) obeys = elim obeys [ inl one ↦ once first a b going (replies.LinkRefused why) one | inr two ↦ twice first a b going (replies.LinkRefused why) two ]
  stopped first a b going replies.NoSuchCommand obeys = elim obeys [ inl one ↦ once first a b going replies.NoSuchCommand one | inr two ↦ twice first a b going replies.NoSuchCommand two ]
  stopped first a b going replies.Ended obeys = elim obeys [ inl one ↦ once first a b going replies.Ended one | inr two ↦ twice first a b going replies.Ended two ]

  -- what is done at the link of an interface
  abbrev DidAt : Config → Act → ℕ → Seen → Seen → Type 0
  DidAt first act iface a b = (acts : List Act) × (IsDoneOrRefused act acts ⊎ ((acts ≡ []) × (length first.interfaces ≤ iface))) × Did config a acts b

  linked : (first : Config) (iface : ℕ) (act : Act) (Does : Machine → Trace → Machine → Type 0) → ordered_act act ≡ Some act → act ≢ Start
      → ((m : Machine) (t : Trace) (n : Machine) → m.ended ≡ false → Does m t n → DoesNext config (Some m) act t n)
      → (a b : Seen) → length a.machine.router.config.interfaces ≡ length first.interfaces → a.machine.ended ≡ false → (reply : Reply) → ObeysLink Does iface a reply b → DidAt first act iface a b
  linked first iface act Does is_ordered other next a b same going replies.NoSuchInterface obeys = ([], inr (refl, omega (arith, obeys.1, same)), nothing a b obeys.0)
  linked first iface act Does is_ordered other next a b same going replies.Done obeys =
      let did = stepped act Does is_ordered other next a b going replies.Done obeys in (did.0, inl did.1, did.2)
  linked first iface act Does is_ordered other next a b same going (replies.Refused why) obeys =
      let did = stepped act Does is_ordered other next a b going (replies.Refused why) obeys in (did.0, inl did.1, did.2)
  linked first iface act Does is_ordered other next a b same going (replies.LinkRefused why) obeys = absurd obeys
  linked first iface act Does is_ordered other next a b same going replies.NoSuchCommand obeys = absurd obeys
  linked first iface act Does is_ordered other next a b same going replies.Ended obeys =
      let did = stepped act Does is_ordered other next a b going replies.Ended obeys in (did.0, inl did.1, did.2)

  -- a question, or a change of the peers of a link, is no act
  asked : (first : Config) (command : Command) (a b : Seen) → ((acts : List Act) → acts ≡ [] → AreActsFor first command acts) → b ≡ a → DidFor first command a b
  asked first command a b is same = ([], is [] refl, nothing a b same)

  pub obeyed : (first : Config) (a b : Seen) → length a.machine.router.config.interfaces ≡ length first.interfaces → a.machine.ended ≡ false
      → (command : Command) (reply : Reply) → Obeys command a reply b → DidFor first command a b
  obeyed first a b same going (commands.Reconfigure c) reply obeys = changed first a b same going c reply obeys
  obeyed first a b same going commands.Stop reply obeys = stopped first a b going reply obeys
  obeyed first a b same going (commands.LinkDown iface) reply obeys =
      linked first iface (LinkDown iface) (LinkGoesDownOnce iface) refl (λ e. cc e) (λ m t n on does. (on, does)) a b same going reply obeys
  obeyed first a b same going (commands.LinkUp iface) reply obeys =
      linked first iface (LinkUp iface) (LinkComesUpOnce iface) refl (λ e. cc e) (λ m t n on does. (on, does)) a b same going reply obeys
  obeyed first a b same going commands.Routes reply obeys = asked first commands.Routes a b (λ acts none. none) obeys
  obeyed first a b same going commands.Table reply obeys = asked first commands.Table a b (λ acts none. none) obeys
  obeyed first a b same going (commands.Lookup d) reply obeys = asked first (commands.Lookup d) a b (λ acts none. none) obeys
  obeyed first a b same going commands.Counts reply obeys = asked first commands.Counts a b (λ acts none. none) obeys
  obeyed first a b same going commands.Status reply obeys = asked first commands.Status a b (λ acts none. none) obeys
  obeyed first a b same going commands.StatusJson reply obeys = asked first commands.StatusJson a b (λ acts none. none) obeys
  obeyed first a b same going commands.Neighbors reply obeys = asked first commands.Neighbors a b (λ acts none. none) obeys
  obeyed first a b same going commands.StopNow reply obeys = asked first commands.StopNow a b (λ acts none. none) obeys
  obeyed first a b same going (commands.Link c) reply obeys = asked first (commands.Link c) a b (λ acts none. none) obeys

  -- one line more
  pub lines_more : (first : Config) (lines : List (List ℕ)) (acts : List Act) (line : List ℕ) (command : Command) (more : List Act) → AreActsForLines first lines acts
      → line ≡ control_text command → AreActsFor first command more → AreActsForLines first (lines ++ line ∷ []) (acts ++ more)
  lines_more first [] acts line command more none is are = (command, more, [], is, are, refl, ap (λ x. x ++ more) none ∙ sym (append-nil more))
  lines_more first (l ∷ lines) acts line command more have is are = (
    have.0,
    have.1,
    have.2 ++ more,
    have.3,
    have.4,
    lines_more first lines have.2 line command more have.5 is are,
    ap (λ x. x ++ more) have.6 ∙ append_assoc have.1 have.2 more,
  )
