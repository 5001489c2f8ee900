use Rattle.ripng_lab_numbers.proofs.Rows.{appended}
use Rattle.ripng_lab_numbers.proofs.lines.write_table.Goals as goal

pub returns : goal.returns
returns g c =
    appended c.write_rows.result _ _ _ _ _ (rw (c.as_bytes.ensures.value, c.header.ensures) at c.in_ok-write_all.ensures.bytes)
    (rw c.as_slice-counts.ensures.value at c.write_rows.ensures)
