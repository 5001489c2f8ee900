use Rattle.ripng_lab_numbers.proofs.table.count_script.Goals as goal

pub returns-then-is_whole : goal.returns-then-is_whole
returns-then-is_whole c =
    let h = c.in_ok-done.ensures.said in
    record { tellings = h.1.0; of_script = h.1.1; lab = h.0; begin = c.new-table.result; fresh = c.new-table.ensures; told = h.1.2 }
