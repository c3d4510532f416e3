use Rattle.deb_version.proofs.Common.{◌++◌, ◌∙◌, ap, length, append_assoc, is_ascii_digit}
use Rattle.deb_version.specs.Keys.{count_key}
use Rattle.deb_version.proofs.ByteLemmas.{all_pass-fact}
use Rattle.deb_version.proofs.KeyWritten.{key_digits-value_of, on_ok_items}
use Rattle.deb_version.proofs.key.append_number.Goals as goal

pub returns-clause-ok : goal.returns-clause-ok
returns-clause-ok c =
    let run = c.args.run.now in
    let old = c.args.out.now.items in
    let digits = c.without_zeros-digits.result.now in
    let same = c.without_zeros-digits.ensures ∙ key_digits-value_of run (all_pass-fact is_ascii_digit run c.requires) in
    on_ok_items c.extend_from_slice.result c.extend_from_slice.new.self.items (c.append_count.new.out.items ++ digits) c.append_count.new.out.items _ c.extend_from_slice.ensures.items
    (ap (λ l. l ++ digits) c.in_ok-append_count.ensures.ok ∙ append_assoc old (count_key (length digits)) digits ∙ ap (λ ds. old ++ (count_key (length ds) ++ ds)) same)
