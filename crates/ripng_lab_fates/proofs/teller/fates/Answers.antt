use Rattle.ripng_lab_fates.proofs.teller.fates.Goals as goal

pub returns : goal.returns
returns g c =
    let h = c.in_ok-done.ensures.said in
    record {
      tellings = h.1.0;
      of_script = h.1.1;
      lab = h.0;
      begin = c.new-teller.result;
      end = _;
      fresh = c.new-teller.ensures;
      told = h.1.2;
      whole = c.if-not-teller.false;
      written = rw c.as_slice.ensures.value at c.in_ok-write_all.ensures.bytes;
    }
