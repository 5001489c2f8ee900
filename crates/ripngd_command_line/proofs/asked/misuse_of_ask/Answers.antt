use Rattle.ripngd_command_line.proofs.asked.misuse_of_ask.Goals as goal

pub returns-in-Run : goal.returns-in-Run
returns-in-Run c = rw c.in-Run.is (rw c.in-Run.order-is at c.misuse_of_run.ensures)
