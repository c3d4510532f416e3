use Rattle.std.proofs.Common.{Bool, cond, take, sym, ap, ◌+◌, ◌∙◌}
use Rattle.std.specs.Str.{bytes_eq}
use Rattle.deb_relation.proofs.Mapped.{any-map}
use Rattle.deb_index.specs.Entries.{Places, entry_name, provision_at}
use Rattle.deb_index.specs.Listed.{Provision}
use Rattle.deb_index.specs.Maps.{numbers_under, put_last}
use Rattle.deb_index.proofs.Counted.{put_more}
use Rattle.deb_index.proofs.names.Names.put_provided.Goals as goal

pub loop-entry-preserved : goal.loop-entry-preserved
loop-entry-preserved c =
    record {
      lists = c.in_ok-put.ensures.lists;
      numbers = λ name.
          let text = c.args.text.now in
          let xs = c.args.entries.now in
          let i = c.loop-entry.entry-index in
          let n = c.args.number in
          let old = numbers_under c.args.self.now name in
          let named : Provision → Bool = λ p. bytes_eq p.name name in
          let test : Places → Bool = λ e. bytes_eq (entry_name text e) name in
          let before = c.loop-entry.invariant.numbers name ∙ ap (λ v. cond v (put_last n old) old) (sym (any-map (provision_at text) named (take i xs))) in
          put_more test n xs i _ old (numbers_under c.loop-entry.self name) (numbers_under c.put.new.self name) c.loop-entry-test.true before
          (rw c.name.ensures at c.in_ok-put.ensures.numbers name)
          ∙ ap (λ v. cond v (put_last n old) old) (any-map (provision_at text) named (take (i + 1) xs));
    }
