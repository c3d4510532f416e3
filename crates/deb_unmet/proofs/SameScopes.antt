-- Indexes and their canonical texts make the same scope.
use Rattle.std.proofs.Common.{◌≡◌, ℕ, List, [], ◌∷◌, ◌++◌, map, Option, None, Some, refl, sym, ap, ◌∙◌}
use Rattle.std.specs.List.{flat_map}
use Rattle.std.specs.Option.{option_map}
use Rattle.deb_control.specs.Documents.{Meaning, Accepted, canonical_text}
use Rattle.deb_control.specs.Pairs.{Pairwise}
use Rattle.deb_index.specs.Files.{ListEach}
use Rattle.deb_index.specs.Listed.{Listed}
use Rattle.deb_index.specs.Members.{ListsMembers, doc_of}
use Rattle.deb_index.specs.Without.{without}
use Rattle.deb_index.specs.declared.members.Members.{Members}
use Rattle.deb_index.proofs.ListedOnce.{canonical_members_listed, members_once}
use Rattle.deb_unmet.specs.Laws.{IfBoth, IsScopeOf}
use Rattle.deb_unmet.specs.Scopes.{Scope}

module _ (members : Members) where
  same_list : (text : List ℕ) (meaning : Meaning) (packages others : List Listed) → Accepted (doc_of members) text meaning → ListsMembers members text packages → ListsMembers members (canonical_text meaning) others → others ≡ packages
  same_list text meaning packages others accepted lists again = members_once members (canonical_text meaning) others packages again (canonical_members_listed members text meaning packages accepted lists)

  same_lists : (texts : List (List ℕ)) (meanings : List Meaning) (lists others : List (List Listed)) → Pairwise (Accepted (doc_of members)) texts meanings → ListEach members texts lists → ListEach members (map canonical_text meanings) others → flat_map (λ list. list) others ≡ flat_map (λ list. list) lists
  same_lists [] [] [] [] accepted each again = refl
  same_lists [] [] [] (other ∷ others) accepted each again = absurd again
  same_lists [] [] (list ∷ lists) others accepted each again = absurd each
  same_lists [] (meaning ∷ meanings) lists others accepted each again = absurd accepted
  same_lists (text ∷ texts) [] lists others accepted each again = absurd accepted
  same_lists (text ∷ texts) (meaning ∷ meanings) [] others accepted each again = absurd each
  same_lists (text ∷ texts) (meaning ∷ meanings) (list ∷ lists) [] accepted each again = absurd again
  same_lists (text ∷ texts) (meaning ∷ meanings) (list ∷ lists) (other ∷ others) accepted each again =
      ap (λ l. l ++ flat_map (λ l. l) others) (same_list text meaning list other accepted.0 each.0 again.0)
      ∙ ap (λ l. list ++ l) (same_lists texts meanings lists others accepted.1 each.1 again.1)

  same_old : (old : Option (List ℕ)) (of_old : Option Meaning) (unless other : Option (List Listed)) → IfBoth (Accepted (doc_of members)) old of_old → IfBoth (ListsMembers members) old unless → IfBoth (ListsMembers members) (option_map canonical_text of_old) other → other ≡ unless
  same_old None None None None accepted lists again = refl
  same_old None None None (Some other) accepted lists again = absurd again
  same_old None None (Some unless) other accepted lists again = absurd lists
  same_old None (Some meaning) unless other accepted lists again = absurd accepted
  same_old (Some text) None unless other accepted lists again = absurd accepted
  same_old (Some text) (Some meaning) None other accepted lists again = absurd lists
  same_old (Some text) (Some meaning) (Some unless) None accepted lists again = absurd again
  same_old (Some text) (Some meaning) (Some unless) (Some other) accepted lists again = ap Some (same_list text meaning unless other accepted lists again)

  pub same_scope : (indexes : List (List ℕ)) (meanings : List Meaning) (old : Option (List ℕ)) (of_old : Option Meaning) (scope other : Scope) → Pairwise (Accepted (doc_of members)) indexes meanings → IfBoth (Accepted (doc_of members)) old of_old → IsScopeOf members indexes old scope → IsScopeOf members (map canonical_text meanings) (option_map canonical_text of_old) other → other.without ≡ scope.without → other ≡ scope
  same_scope indexes meanings old of_old scope other accepted old_accepted is again names =
      let listed : again.listed ≡ is.listed = again.lists.joined ∙ same_lists indexes meanings is.lists.lists again.lists.lists accepted is.lists.each again.lists.each ∙ sym is.lists.joined in
      let packages : other.packages ≡ scope.packages = again.left ∙ ap (λ n. without n again.listed) names ∙ ap (without scope.without) listed ∙ sym is.left in
      let unless : other.unless ≡ scope.unless = same_old old of_old scope.unless other.unless old_accepted is.unless again.unless in
      λ i. record { packages = packages i; unless = unless i; without = names i }
