-- Which fields of two paragraphs differ, by their first fields and by the others.
use Rattle.std.proofs.Common.{◌≡◌, ℕ, Bool, true, false, not, cond, List, [], ◌∷◌, ◌++◌, map, Option, Some, None, IfSome, refl, sym, ap, ◌∙◌, subst, bytes_eq}
use Rattle.std.proofs.lemmas.List.{append_assoc}
use Rattle.std.proofs.lemmas.Cmp.{nat_list_cmp_total, tied_itself}
use Rattle.std.proofs.lemmas.Slice.Eq.{bytes_eq-Decides}
use Rattle.std.specs.BTreeMap.{insert_entry}
use Rattle.std.specs.Cmp.{both_ways}
use Rattle.std.specs.FinMap.{find, nat_cmp-IsAntisymmetric, slice_cmp-IsAntisymmetric}
use Rattle.std.specs.List.{AllByRecursion, filter}
use Rattle.std.specs.declared.cmp.Ordering.TheVariants.{Less, Equal}
use Rattle.deb_syntax.specs.Meaning.{Entries, byte_order}
use Rattle.deb_control.specs.Canonical.{paragraph_text}
use Rattle.deb_control.proofs.Entries.{each_insert, greater_from_less}
use Rattle.deb_diff.specs.Cuts.{AreCut, IsFirst}
use Rattle.deb_diff.specs.Fields.{differing, differs, fields_of_both}
use Rattle.deb_diff.specs.Merging.{Merges, differing_text}
use Rattle.deb_diff.specs.declared.cut.First.{First}
use Rattle.deb_diff.proofs.Rests.{first_stays, tail, tail_tells}

-- a name is below those of all of these
abbrev IsBelow : List ℕ → Entries → Type 0
IsBelow name entries = AllByRecursion (λ other. byte_order name other.0 ≡ Less) entries

byte_order-same : (name : List ℕ) → byte_order name name ≡ Equal
byte_order-same name = tied_itself nat_list_cmp_total name

below_both : (name : List ℕ) (old new : Entries) → IsBelow name old → IsBelow name new → IsBelow name (fields_of_both old new)
below_both name old [] less less_too = less
below_both name old (e ∷ new) less less_too = below_both name (insert_entry byte_order old e.0 e.1) new (each_insert (λ other. byte_order name other.0 ≡ Less) e.0 e.1 (λ other less. less) old less less_too.0) less_too.1

not_found : (name : List ℕ) (entries : Entries) → IsBelow name entries → find byte_order name entries ≡ None
not_found name [] less = refl
not_found name (e ∷ entries) less = rw less.0 (not_found name entries less.1)

-- a test says the same of names above one
filter_above : (name : List ℕ) (p q : List ℕ → Bool) → ((x : List ℕ) → byte_order name x ≡ Less → p x ≡ q x) → (entries : Entries) → IsBelow name entries → filter p (map (λ field. field.0) entries) ≡ filter q (map (λ field. field.0) entries)
filter_above name p q same [] less = refl
filter_above name p q same (e ∷ entries) less = rw (same e.0 less.0) (ap (λ l. cond (q e.0) (e.0 ∷ l) l) (filter_above name p q same entries less.1))

-- where one field comes first, its name is the first that can differ
first_differing : (name body : List ℕ) (entries others old new : Entries) → fields_of_both entries others ≡ (name, body) ∷ fields_of_both old new → ((x : List ℕ) → byte_order name x ≡ Less → differs entries others x ≡ differs old new x) → IsBelow name old → IsBelow name new
    → differing entries others ≡ cond (differs entries others name) (name ∷ differing old new) (differing old new)
first_differing name body entries others old new first same less less_too =
    ap (λ l. filter (differs entries others) (map (λ field. field.0) l)) first
    ∙ ap (λ l. cond (differs entries others name) (name ∷ l) l) (filter_above name (differs entries others) (differs old new) same (fields_of_both old new) (below_both name old new less less_too))

-- the first field is in the first paragraph only
first_left : (e : List ℕ × List ℕ) (old new : Entries) → IsBelow e.0 old → IsBelow e.0 new → differing (e ∷ old) new ≡ e.0 ∷ differing old new
first_left e old new less less_too =
    first_differing e.0 e.1 (e ∷ old) new old new (first_stays e old new less_too) (λ x above. rw (greater_from_less e.0 x above) refl) less less_too
    ∙ rw (byte_order-same e.0, not_found e.0 new less_too) refl

-- in the second one only
first_right : (e : List ℕ × List ℕ) (old new : Entries) → IsBelow e.0 old → IsBelow e.0 new → differing old (e ∷ new) ≡ e.0 ∷ differing old new
first_right e old new less less_too =
    first_differing e.0 e.1 old (e ∷ new) old new (goes old less) (λ x above. rw (greater_from_less e.0 x above) refl) less less_too
    ∙ rw (byte_order-same e.0, not_found e.0 old less) refl
  where
    goes : (old : Entries) → IsBelow e.0 old → fields_of_both old (e ∷ new) ≡ e ∷ fields_of_both old new
    goes [] less = first_stays e [] new less_too
    goes (other ∷ old) less = rw less.0 (first_stays e (other ∷ old) new less_too)

-- in both
first_both : (name body other : List ℕ) (old new : Entries) → IsBelow name old → IsBelow name new → differing ((name, body) ∷ old) ((name, other) ∷ new) ≡ differing_text name body other ++ differing old new
first_both name body other old new less less_too =
    first_differing name other ((name, body) ∷ old) ((name, other) ∷ new) old new (rw (byte_order-same name) (first_stays (name, other) old new less_too)) (λ x above. rw (greater_from_less name x above) refl) less less_too
    ∙ rw (byte_order-same name) (go (bytes_eq body other))
  where
    go : (b : Bool) → cond (not b) (name ∷ differing old new) (differing old new) ≡ cond b [] (name ∷ []) ++ differing old new
    go true = refl
    go false = refl

-- bodies are equal where the texts after the names are
differing_tail : (name body other : List ℕ) → differing_text name (tail body) (tail other) ≡ differing_text name body other
differing_tail name body other = ap (λ b. cond b [] (name ∷ [])) (both_ways (bytes_eq (tail body) (tail other)) (bytes_eq body other) (λ e. (bytes_eq-Decides body other).1 (tail_tells body other ((bytes_eq-Decides (tail body) (tail other)).0 e))) (λ e. (bytes_eq-Decides (tail body) (tail other)).1 (ap tail ((bytes_eq-Decides body other).0 e))))

-- a name below the first one is below all
pub below_first : (name : List ℕ) (entries : Entries) (first : Option First) → AreCut entries → IsFirst entries first → IfSome first (λ first. byte_order name first.name.now ≡ Less) → IsBelow name entries
below_first name [] first cut is less = tt
below_first name (e ∷ entries) None cut is less = absurd is
below_first name (e ∷ entries) (Some first) cut is less = (at_first, below entries cut.ascending.0)
  where
    at_first : byte_order name e.0 ≡ Less
    at_first = ap (byte_order name) (sym is.name) ∙ less

    below : (entries : Entries) → IsBelow e.0 entries → IsBelow name entries
    below [] above = tt
    below (other ∷ entries) above = (nat_list_cmp_total.trans name e.0 other.0 at_first above.0, below entries above.1)

tail_cut : (e : List ℕ × List ℕ) (entries : Entries) → AreCut (e ∷ entries) → AreCut entries
tail_cut e entries cut = record { each = cut.each.1; ascending = cut.ascending.1 }

-- The four ways on.
pub ends : (entries others : Entries) → IsFirst entries None → IsFirst others None → differing entries others ≡ []
ends [] [] is is_too = refl
ends [] (other ∷ others) is is_too = absurd is_too
ends (e ∷ entries) others is is_too = absurd is

pub takes_left : (entries others : Entries) (first : First) (text : List ℕ) → AreCut entries → AreCut others → IsFirst entries (Some first) → text ≡ paragraph_text others → IsBelow first.name.now others → Merges entries others (first.name.now ∷ []) first.rest.now text
takes_left [] others first text cut other_cut is text_is less = absurd is
takes_left (e ∷ entries) others first text cut other_cut is text_is less = record {
  left = entries;
  other_left = others;
  cut = tail_cut e entries cut;
  other_cut = other_cut;
  text_is = is.rest;
  other_text_is = text_is;
  differ = ap (λ name. name ∷ differing entries others) is.name ∙ sym (first_left e entries others cut.ascending.0 (subst (λ name. IsBelow name others) is.name less));
}

pub takes_right : (entries others : Entries) (first : First) (text : List ℕ) → AreCut entries → AreCut others → IsFirst others (Some first) → text ≡ paragraph_text entries → IsBelow first.name.now entries → Merges entries others (first.name.now ∷ []) text first.rest.now
takes_right entries [] first text cut other_cut is text_is less = absurd is
takes_right entries (e ∷ others) first text cut other_cut is text_is less = record {
  left = entries;
  other_left = others;
  cut = cut;
  other_cut = tail_cut e others other_cut;
  text_is = text_is;
  other_text_is = is.rest;
  differ = ap (λ name. name ∷ differing entries others) is.name ∙ sym (first_right e entries others (subst (λ name. IsBelow name entries) is.name less) other_cut.ascending.0);
}

pub takes_both : (entries others : Entries) (first other : First) (names : List (List ℕ)) → AreCut entries → AreCut others → IsFirst entries (Some first) → IsFirst others (Some other) → byte_order first.name.now other.name.now ≡ Equal
    → names ≡ differing_text first.name.now first.body.now other.body.now → Merges entries others names first.rest.now other.rest.now
takes_both [] others first other names cut other_cut is is_too equal names_are = absurd is
takes_both (e ∷ entries) [] first other names cut other_cut is is_too equal names_are = absurd is_too
takes_both (e ∷ entries) (o ∷ others) first other names cut other_cut is is_too equal names_are =
    let same : e.0 ≡ o.0 = sym is.name ∙ slice_cmp-IsAntisymmetric nat_cmp-IsAntisymmetric first.name.now other.name.now equal ∙ is_too.name in
    record {
      left = entries;
      other_left = others;
      cut = tail_cut e entries cut;
      other_cut = tail_cut o others other_cut;
      text_is = is.rest;
      other_text_is = is_too.rest;
      differ =
          ap (λ l. l ++ differing entries others) (names_are ∙ ap (λ name. differing_text name first.body.now other.body.now) is.name ∙ ap (λ body. differing_text e.0 body other.body.now) is.body ∙ ap (differing_text e.0 (tail e.1)) is_too.body ∙ differing_tail e.0 e.1 o.1)
          ∙ sym (first_both e.0 e.1 o.1 entries others cut.ascending.0 (subst (λ name. IsBelow name others) (sym same) other_cut.ascending.0))
          ∙ ap (λ name. differing (e ∷ entries) ((name, o.1) ∷ others)) same;
    }

-- One step after those before it.
pub merges_more : (entries others : Entries) (names more new : List (List ℕ)) (rest other_rest next other_next : List ℕ) (before : Merges entries others names rest other_rest) → Merges before.left before.other_left more next other_next → new ≡ names ++ more → Merges entries others new next other_next
merges_more entries others names more new rest other_rest next other_next before step new_is = record {
  left = step.left;
  other_left = step.other_left;
  cut = step.cut;
  other_cut = step.other_cut;
  text_is = step.text_is;
  other_text_is = step.other_text_is;
  differ = ap (λ l. l ++ differing step.left step.other_left) new_is ∙ append_assoc names more (differing step.left step.other_left) ∙ ap (λ l. names ++ l) step.differ ∙ before.differ;
}
