-- The faults of what the program calls are failures of what is asked.
use Rattle.std.proofs.Common.{◌≡◌, ℕ, Bool, List, Option, Result, Ok, Err, refl}
use Rattle.std.specs.Prelude.{◌≢◌, IfOk, OnOk, false, true}
use Rattle.std.specs.Result.{is_ok}
use Rattle.std.proofs.lemmas.Bool.{false≢true}
use Rattle.ripngd_config.specs.Configuration.{RefusesConfig}
use Rattle.ripngd_config.specs.declared.fault.ConfigFault.{ConfigFault}
use Rattle.ripngd_config.specs.declared.fault.ConfigFault.TheVariants as config_faults
use Rattle.ripng_show.specs.declared.print_fault.PrintFault.{PrintFault}
use Rattle.ripng_show.specs.declared.print_fault.PrintFault.TheVariants as printing
use Rattle.ripngd_udp.specs.declared.udp.UdpError.{UdpError}
use Rattle.ripngd_udp.specs.declared.udp.UdpError.TheVariants as link
use Rattle.ripngd_command_line.specs.declared.asked.Ask.{Ask}
use Rattle.ripngd_command_line.specs.declared.asked.Ask.TheVariants as asks
use Rattle.ripngd_command_line.specs.declared.asked.Order.{Order}
use Rattle.ripngd_daemon.specs.Checked.{IsChecked}
use Rattle.ripngd_daemon.specs.Faults.{failure_of, failure_of_link}
use Rattle.ripngd_daemon.specs.Failing.{MayFail}

-- of a command that prints
pub print_fails : (ask : Ask) (fault : PrintFault) → MayFail ask (failure_of fault)
print_fails ask printing.OutOfMemory = tt
print_fails ask printing.Write = tt

-- of a link that is bound
pub link_fails : (order : Order) (fault : UdpError) → MayFail (asks.Run order) (failure_of_link fault)
link_fails order (link.Bind socket cause) = refl
link_fails order link.OutOfMemory = tt

-- a configuration that is refused, whatever its refusal was written as
pub refused_is_checked : (text : List ℕ) (fault : ConfigFault) (r : Result Bool PrintFault) (old new : Option (List ℕ)) → RefusesConfig text 0 false fault
    → IfOk r (λ accepted. (accepted ≡ false) × (fault ≢ config_faults.OutOfMemory)) → IfOk r (λ accepted. IsChecked text accepted old new)
refused_is_checked text fault (Ok accepted) old new refuses (is, why) = rw is (fault, why, refuses)
refused_is_checked text fault (Err e) old new refuses written = tt

-- what holds of a call that was done
pub of_ok : {X E P : Type 0} (r : Result X E) → is_ok r ≡ true → OnOk r P → P
of_ok (Ok x) ok h = h
of_ok (Err e) ok h = absurd (false≢true ok)
