-- Terms make no more packages installable.
use Rattle.std.proofs.Common.{true, false, not, ◌++◌, refl, sym, ◌∙◌}
use Rattle.std.specs.List.{list_any}
use Rattle.std.proofs.lemmas.Bool.{and_from, and_parts}
use Rattle.std.proofs.lemmas.List.Folds.{list_all-append}
use Rattle.deb_index.specs.Named.{has_name}
use Rattle.deb_install.specs.Installable.{is_healthy_in}
use Rattle.deb_install.specs.Laws.{TermsOnlyRestrict}
use Rattle.deb_install.specs.Members.{members_of}
use Rattle.deb_install.specs.Terms.{has_none, is_allowed, terms}

pub restricting : TermsOnlyRestrict
restricting = record {
  to_health = λ readings t environment packages meaning number installable.
      let members = members_of installable.set packages in
      record {
        set = installable.set;
        contains = installable.contains;
        listed = installable.listed;
        healthy = (and_parts (is_allowed t environment.native meaning members) (is_healthy_in readings t.strength environment members (members_of installable.set meaning)) installable.healthy).1;
      };
  to_fewer = λ readings strength environment packages meaning number without more installable.
      let members = members_of installable.set packages in
      let healthy = is_healthy_in readings strength environment members (members_of installable.set meaning) in
      let both = and_parts (is_allowed (terms strength false (without ++ more)) environment.native meaning members) healthy installable.healthy in
      let none = and_parts (has_none without members) (has_none more members)
      (sym (list_all-append (λ name. not (list_any (has_name name) members)) without more)
      ∙ (and_parts (has_none (without ++ more) members) true both.0).0) in
      record {
        set = installable.set;
        contains = installable.contains;
        listed = installable.listed;
        healthy = and_from (is_allowed (terms strength false without) environment.native meaning members) healthy (and_from (has_none without members) true none.0 refl) both.1;
      };
}
