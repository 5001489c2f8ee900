use Rattle.ripng_lab_numbers.proofs.sweeping.run_with.Goals as goal

pub returns : goal.returns
returns c =
    let h = c.in_ok-done.ensures.said in
    record {
      tellings = h.1.0;
      of_script = h.1.1;
      lab = h.0;
      begin = c.new-tally.result;
      end = _;
      fresh = c.new-tally.ensures;
      told = h.1.2;
      counts_are = c.in_ok-counts.ensures;
    }
