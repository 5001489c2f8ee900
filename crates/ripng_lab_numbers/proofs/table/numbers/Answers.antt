use Rattle.std.proofs.KnownBytes.{Appends-trans}
use Rattle.ripng_lab_numbers.proofs.table.numbers.Goals as goal

pub returns-then-done : goal.returns-then-done
returns-then-done g c = record {
  end = c.in_ok-counted.counted.table;
  counted = rw c.if-done.true at c.in_ok-counted.ensures;
  names = _;
  written = c.in_ok-write_table.ensures;
}

pub returns : goal.returns
returns g c = record {
  end = c.in_ok-counted.counted.table;
  counted = rw c.if-done.false at c.in_ok-counted.ensures;
  names = _;
  written = let rest = c.in_ok-write_ending.ensures in (rest.0, Appends-trans _ _ _ _ _ c.in_ok-write_table.ensures rest.1);
}
