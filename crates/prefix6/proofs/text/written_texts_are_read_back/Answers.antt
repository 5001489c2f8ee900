use Rattle.prefix6.proofs.PrefixTexts.{written_prefix-reads, ReadsPrefix_unique}
use Rattle.prefix6.proofs.Values.{Reads_unique, read_address}
use Rattle.prefix6.proofs.WrittenForm.{written_addr-reads}
use Rattle.prefix6.proofs.text.written_texts_are_read_back.Goals as goal

pub returns-clause-address : goal.returns-clause-address
returns-clause-address c = written_addr-reads

pub returns-clause-prefix : goal.returns-clause-prefix
returns-clause-prefix c = written_prefix-reads

pub returns-clause-one_address : goal.returns-clause-one_address
returns-clause-one_address c = Reads_unique

pub returns-clause-one_prefix : goal.returns-clause-one_prefix
returns-clause-one_prefix c = ReadsPrefix_unique

pub returns-clause-an_address : goal.returns-clause-an_address
returns-clause-an_address c = read_address
