use Rattle.std.proofs.Common.{subst}
use Rattle.ripngd_daemon.specs.Reading.{IsRunOf}
use Rattle.ripngd_daemon.proofs.OneReading.{one_reading, no_reading}
use Rattle.ripngd_daemon.proofs.OneRun.{one_run}
use Rattle.ripngd_daemon.proofs.reading.logs_are_read_one_way.Goals as goal

pub returns-clause-one : goal.returns-clause-one
returns-clause-one c text changes other h k =
    let texts = c.written_texts_are_read_back.ensures in
    let same = one_run text h.0 k.0 h.1 k.1 h.2 k.2 in
    one_reading texts.address texts.prefix texts.one_address texts.one_prefix k.0 changes other (subst (λ run. IsRunOf run changes) same h.3) k.3

pub returns-clause-none : goal.returns-clause-none
returns-clause-none c text line changes h k =
    let texts = c.written_texts_are_read_back.ensures in
    let same = one_run text k.0 h.0 k.1 h.1 k.2 h.2 in
    no_reading texts.address texts.prefix texts.one_address texts.one_prefix h.0 h.3.0 changes h.3.1 (subst (λ run. IsRunOf run changes) same k.3)
