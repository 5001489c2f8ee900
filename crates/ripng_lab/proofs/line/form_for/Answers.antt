use Rattle.std.proofs.Common.{rules}
use Rattle.ripng_lab.specs.Scripts.{first_word, forms}
use Rattle.ripng_lab.proofs.Words.{read_mapped}
use Rattle.ripng_lab.proofs.line.form_for.Goals as goal

pub returns : goal.returns
returns c =
    let form = c.in-Some.form.now in
    (c.args.number, read_mapped (λ f. (f.0.now, f.1)) (λ f. (first_word f.0, f.1)) forms c.forms.result.now c.args.number form (first_word c.args.line.now, form.1) c.forms.ensures c.in-Some.ensures.lookup.3.0 c.in-Some.ensures.lookup.1 (search rules))
